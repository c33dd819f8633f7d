-- The commands of a generated script keep the rules.
use Rattle.std.proofs.Common.{◌≡◌, ℕ, zero, suc, ◌+◌, ◌*◌, ◌<◌, ◌≤◌, ◌≢◌, Bool, true, List, [], ◌∷◌, ◌++◌, length, map, refl, sym, ap, ◌∙◌, subst, add-one, arith}
use Rattle.std.specs.Prelude.{not, ◌==◌, replicate, sum_by, flat_map, codes, decimal}
use Rattle.std.specs.List.{list_all}
use Rattle.std.proofs.lemmas.Bool.Decides.{nat_tests}
use Rattle.std.proofs.lemmas.List.{length-append}
use Rattle.std.proofs.lemmas.List.Sums.{sum_by-append}
use Rattle.rand_pcg.specs.Lcg.{Lcg}
use Rattle.ttm_base.specs.declared.BufId.{BufId}
use Rattle.ttm_base.specs.declared.Op.{Op}
use Rattle.ttm_base.specs.declared.Op.TheVariants as op
use Rattle.journal_model.specs.declared.script.Script.{Script}
use Rattle.journal_model.specs.declared.script.Command.{Command}
use Rattle.journal_model.specs.declared.script.Command.TheVariants as command
use Rattle.journal_model.specs.rules.Commands.{named, first_mentions, buffers_of_op}
use Rattle.journal_model.specs.scripts.Words.{Text, line, name_of}
use Rattle.journal_model.specs.scripts.Spelling.{command_words, op_words}
use Rattle.journal_model.specs.scripts.CommandRules.{is_between, is_range_of, is_op, is_byte, is_command, command_len}
use Rattle.law_legal.proofs.law_items.Tests.{and_true, both, is_le, joint}
use Rattle.law_legal.proofs.law_items.ListFacts.{all_more, length_more, sum_more}
use Rattle.generated_load.specs.declared.choices.Choice.{Choice}
use Rattle.generated_load.specs.declared.choices.ChoiceKind.{ChoiceKind}
use Rattle.generated_load.specs.declared.choices.ChoiceKind.TheVariants as kind
use Rattle.generated_load.specs.Draws.{draw}
use Rattle.generated_load.specs.Choices.{behind, own_buffer, load_choice}
use Rattle.generated_load.specs.Commands.{command_by, load_command, drawn_commands, load_commands, load_threads, news, reads}
use Rattle.generated_load.proofs.DrawLaws.{draw_below}
use Rattle.generated_load.proofs.LineLaws.{room, line_len, few_digits, hex_len}
use Rattle.generated_load.proofs.BufferLaws.{HasLoadBuffers, holds, is_declared_load, name_len, range_fits}

-- two buffers that differ, an offset with sixteen bytes after it in the smallest buffer, and a user engine
pub record IsChoice (c : Choice) : Type 0 where
  pub x_declared : c.x.0 < 24
  pub y_declared : c.y.0 < 24
  pub differ : c.x.0 ≢ c.y.0
  pub inside : c.off ≤ 16368
  pub byte : c.byte ≤ 255
  pub first_engine : 1 ≤ c.engine
  pub last_engine : c.engine ≤ 2

-- how long its line is
abbrev pub line_of_command : Script → Command → ℕ
line_of_command script c = length (line (command_words script c))

-- a command of a short line, whose operations take at most the bytes of the smallest buffer
pub record IsLoadCommand (c : Command) : Type 0 where
  pub fits : (script : Script) → HasLoadBuffers script → is_command script c ≡ true
  pub short : (script : Script) → HasLoadBuffers script → line_of_command script c ≤ 200
  pub len : command_len c ≤ 16384

-- commands of a thread
pub record AreLoadCommands (cs : List Command) : Type 0 where
  pub fit : (script : Script) → HasLoadBuffers script → list_all (is_command script) cs ≡ true
  pub short : (script : Script) → HasLoadBuffers script → sum_by (line_of_command script) cs ≤ 200 * length cs
  pub len : sum_by command_len cs ≤ 16384 * length cs

-- the commands of so many threads
pub record AreLoadThreads (n : ℕ) (ts : List (List Command)) : Type 0 where
  pub fit : (script : Script) → HasLoadBuffers script → list_all (list_all (is_command script)) ts ≡ true
  pub len : sum_by (sum_by command_len) ts ≤ 3538944 * n
  pub short : (script : Script) → HasLoadBuffers script → sum_by (sum_by (line_of_command script)) ts ≤ 43200 * n
  pub lens : map length ts ≡ replicate n 216

short_line : (script : Script) (c : Command) → room (command_words script c) ≤ 199 → line_of_command script c ≤ 200
short_line script c few = let e = line_len (command_words script c) in omega (arith, e, few)

-- ---- commands of one buffer

pub new_fits : (b : BufId) → b.0 < 24 → IsLoadCommand (command.New b)
new_fits b lt = record {
  fits = λ script h. is_declared_load script b h lt;
  short = λ script h. let name = name_len script b h in short_line script (command.New b) (omega (arith, name));
  len = omega arith;
}

pub find_fits : (b : BufId) → b.0 < 24 → IsLoadCommand (command.Find b)
find_fits b lt = record {
  fits = λ script h. is_declared_load script b h lt;
  short = λ script h. let name = name_len script b h in short_line script (command.Find b) (omega (arith, name));
  len = omega arith;
}

pub swap_out_fits : (b : BufId) → b.0 < 24 → IsLoadCommand (command.SwapOut b)
swap_out_fits b lt = record {
  fits = λ script h. is_declared_load script b h lt;
  short = λ script h. let name = name_len script b h in short_line script (command.SwapOut b) (omega (arith, name));
  len = omega arith;
}

pub touch_fits : (group : ℕ) → group < 3 → IsLoadCommand (command.Touch group)
touch_fits group lt = record {
  fits = λ script h. is_le group 15 (omega (arith, lt));
  short = λ script h. let digits = few_digits group (omega (arith, lt)) in short_line script (command.Touch group) (omega (arith, digits));
  len = omega arith;
}

pub read_fits : (b : BufId) (off : ℕ) → b.0 < 24 → off ≤ 16368 → IsLoadCommand (command.Read b off 16)
read_fits b off lt inside = record {
  fits = λ script h. and_true (is_range_of script b off 16) (range_fits script b off 16 h lt (omega arith) (omega (arith, inside)));
  short = λ script h.
      let name = name_len script b h in
      let at = few_digits off (omega (arith, inside)) in
      let many = few_digits 16 (omega arith) in
      short_line script (command.Read b off 16) (omega (arith, name, at, many));
  len = omega arith;
}

pub write_fits : (b : BufId) (off : ℕ) (bytes : List ℕ) → b.0 < 24 → off ≤ 16368 → length bytes ≡ 16 → list_all is_byte bytes ≡ true → IsLoadCommand (command.Write b off bytes)
write_fits b off bytes lt inside count are = record {
  fits = λ script h.
      holds (holds (range_fits script b off (length bytes) h lt (omega (arith, count)) (omega (arith, inside, count))) (is_le (length bytes) 256 (omega (arith, count)))) are;
  short = λ script h.
      let name = name_len script b h in
      let at = few_digits off (omega (arith, inside)) in
      let digits = hex_len bytes in
      short_line script (command.Write b off bytes) (omega (arith, name, at, digits, count));
  len = omega arith;
}

-- ---- jobs

-- a list has at least as many as are mentioned first in it
mentions_len : (seen bs : List BufId) → length (first_mentions seen bs) ≤ length bs
mentions_len seen [] = omega arith
mentions_len seen (b ∷ bs) =
    let old = mentions_len seen bs in
    let new = mentions_len (b ∷ seen) bs in
    grind (arith, old, new)

engine_fits : (script : Script) (engine : ℕ) → HasLoadBuffers script → 1 ≤ engine → engine ≤ 2 → is_between 1 script.sizes.engines engine ≡ true
engine_fits script engine h first last =
    let engines = h.engines in
    holds (is_le 1 engine first) (is_le engine script.sizes.engines (omega (arith, engines, last)))

-- a job of one or two operations that fit
job_fits : (script : Script) (engine : ℕ) (ops : List Op) → is_between 1 script.sizes.engines engine ≡ true → is_between 1 64 (length ops) ≡ true
    → list_all (is_op script) ops ≡ true → length (flat_map buffers_of_op ops) ≤ 16 → is_command script (command.Submit engine ops) ≡ true
job_fits script engine ops e count fit few =
    let mentions = mentions_len [] (flat_map buffers_of_op ops) in
    holds (holds (holds e count) fit) (is_le (length (named (command.Submit engine ops))) 16 (omega (arith, mentions, few)))

others : (m n : ℕ) → m ≢ n → not (m == n) ≡ true
others m n h = grind (arith, nat_tests)

-- the line of a job of one operation on two buffers
short_pair : (script : Script) (c : Choice) (o : Op) (word : Text) (doff soff len : ℕ) → IsChoice c → HasLoadBuffers script → length word ≤ 4 → doff < 100000 → soff < 100000 → len < 100000
    → op_words script o ≡ word ∷ name_of script c.x ∷ decimal doff ∷ name_of script c.y ∷ decimal soff ∷ decimal len ∷ [] → line_of_command script (command.Submit c.engine (o ∷ [])) ≤ 200
short_pair script c o word doff soff len h k short dlt slt llt is =
    let x = name_len script c.x k in
    let y = name_len script c.y k in
    let last = h.last_engine in
    let engine = few_digits c.engine (omega (arith, last)) in
    let a = few_digits doff dlt in
    let b = few_digits soff slt in
    let d = few_digits len llt in
    let same : room (command_words script (command.Submit c.engine (o ∷ []))) ≡ room (codes "submit" ∷ decimal c.engine ∷ word ∷ name_of script c.x ∷ decimal doff ∷ name_of script c.y ∷ decimal soff ∷ decimal len ∷ []) =
    ap (λ (ws : List Text). room (codes "submit" ∷ decimal c.engine ∷ ws)) is in
    short_line script (command.Submit c.engine (o ∷ [])) (omega (arith, x, y, engine, a, b, d, short, same))

pub copy_fits : (c : Choice) → IsChoice c → IsLoadCommand (command.Submit c.engine (op.Copy c.x 0 c.y 0 16384 ∷ []))
copy_fits c h = record {
  fits = λ script k.
      job_fits script c.engine (op.Copy c.x 0 c.y 0 16384 ∷ []) (engine_fits script c.engine k h.first_engine h.last_engine) refl
      (and_true (is_op script (op.Copy c.x 0 c.y 0 16384))
      (holds (holds (range_fits script c.x 0 16384 k h.x_declared (omega arith) (omega arith)) (range_fits script c.y 0 16384 k h.y_declared (omega arith) (omega arith))) (others c.x.0 c.y.0 h.differ)))
      (omega arith);
  short = λ script k. short_pair script c (op.Copy c.x 0 c.y 0 16384) (codes "copy") 0 0 16384 h k (omega arith) (omega arith) (omega arith) (omega arith) refl;
  len = omega arith;
}

pub xor_fits : (c : Choice) → IsChoice c → IsLoadCommand (command.Submit c.engine (op.Xor c.x c.off c.y c.off 16 ∷ []))
xor_fits c h =
    let inside = h.inside in record {
      fits = λ script k.
          job_fits script c.engine (op.Xor c.x c.off c.y c.off 16 ∷ []) (engine_fits script c.engine k h.first_engine h.last_engine) refl
          (and_true (is_op script (op.Xor c.x c.off c.y c.off 16))
          (holds (holds (range_fits script c.x c.off 16 k h.x_declared (omega arith) (omega (arith, inside))) (range_fits script c.y c.off 16 k h.y_declared (omega arith) (omega (arith, inside)))) (others c.x.0 c.y.0 h.differ)))
          (omega arith);
      short = λ script k. short_pair script c (op.Xor c.x c.off c.y c.off 16) (codes "xor") c.off c.off 16 h k (omega arith) (omega (arith, inside)) (omega (arith, inside)) (omega arith) refl;
      len = omega arith;
    }

pub fill_fits : (c : Choice) → IsChoice c → IsLoadCommand (command.Submit c.engine (op.Fill c.x c.off 16 c.byte ∷ op.Probe c.x c.off 16 ∷ []))
fill_fits c h =
    let inside = h.inside in record {
      fits = λ script k.
          let range = range_fits script c.x c.off 16 k h.x_declared (omega arith) (omega (arith, inside)) in
          job_fits script c.engine (op.Fill c.x c.off 16 c.byte ∷ op.Probe c.x c.off 16 ∷ []) (engine_fits script c.engine k h.first_engine h.last_engine) refl
          (holds (holds range (is_le c.byte 255 h.byte)) (and_true (is_op script (op.Probe c.x c.off 16)) (and_true (is_range_of script c.x c.off 16) range)))
          (omega arith);
      short = λ script k.
          let name = name_len script c.x k in
          let last = h.last_engine in
          let at = few_digits c.off (omega (arith, inside)) in
          let many = few_digits 16 (omega arith) in
          let engine = few_digits c.engine (omega (arith, last)) in
          short_line script (command.Submit c.engine (op.Fill c.x c.off 16 c.byte ∷ op.Probe c.x c.off 16 ∷ [])) (omega (arith, name, at, many, engine));
      len = omega arith;
    }

-- ---- one more

pub no_commands : AreLoadCommands []
no_commands = record { fit = λ script h. refl; short = λ script h. omega arith; len = omega arith }

pub one_command_more : (cs : List Command) (c : Command) → AreLoadCommands cs → IsLoadCommand c → AreLoadCommands (cs ++ c ∷ [])
one_command_more cs c h k =
    let sum = sum_more command_len cs c in
    let count = length_more cs c in
    let before = h.len in
    let here = k.len in record {
      fit = λ script s. all_more (is_command script) cs c (h.fit script s) (k.fits script s);
      short = λ script s.
          let words = sum_more (line_of_command script) cs c in
          let first = h.short script s in
          let last = k.short script s in
          omega (arith, words, count, first, last);
      len = omega (arith, sum, count, before, here);
    }

pub no_threads : AreLoadThreads 0 []
no_threads = record { fit = λ script h. refl; short = λ script h. omega arith; len = omega arith; lens = refl }

replicate_more : (n m : ℕ) → replicate n m ++ m ∷ [] ≡ replicate (suc n) m
replicate_more zero m = refl
replicate_more (suc n) m = ap (λ xs. m ∷ xs) (replicate_more n m)

lens_more : (ts : List (List Command)) (cs : List Command) → map length (ts ++ cs ∷ []) ≡ map length ts ++ length cs ∷ []
lens_more [] cs = refl
lens_more (t ∷ ts) cs = ap (λ ns. length t ∷ ns) (lens_more ts cs)

pub one_thread_more : (n : ℕ) (ts : List (List Command)) (cs : List Command) → AreLoadThreads n ts → AreLoadCommands cs → length cs ≡ 216 → AreLoadThreads (n + 1) (ts ++ cs ∷ [])
one_thread_more n ts cs h k count =
    let sum = sum_more (sum_by command_len) ts cs in
    let before = h.len in
    let here = k.len in record {
      fit = λ script s. all_more (list_all (is_command script)) ts cs (h.fit script s) (k.fit script s);
      short = λ script s.
          let words = sum_more (sum_by (line_of_command script)) ts cs in
          let first = h.short script s in
          let last = k.short script s in
          omega (arith, words, first, last, count);
      len = omega (arith, sum, before, here, count);
      lens = lens_more ts cs ∙ ap (λ (ns : List ℕ). ns ++ length cs ∷ []) h.lens ∙ ap (λ (m : ℕ). replicate n 216 ++ m ∷ []) count ∙ replicate_more n 216 ∙ ap (λ k. replicate k 216) (sym (add-one n));
    }

-- ---- what is drawn

other_buffer : (i d : ℕ) → i < 8 → d < 7 → (behind i d < 8) × (i ≢ behind i d)
other_buffer i d lt few = (omega arith, λ e. omega (arith, e, lt, few))

pub choice_fits : (t : ℕ) (g : Lcg) → t < 3 → IsChoice (load_choice t g).0
choice_fits t g lt =
    let number = draw 8 g in
    let first = draw 8 number.1 in
    let distance = draw 7 first.1 in
    let sixteens = draw 1024 distance.1 in
    let byte = draw 256 sixteens.1 in
    let engine = draw 2 byte.1 in
    let a : first.0 < 8 = draw_below 8 number.1 (omega arith) in
    let b : distance.0 < 7 = draw_below 7 first.1 (omega arith) in
    let c : sixteens.0 < 1024 = draw_below 1024 distance.1 (omega arith) in
    let d : byte.0 < 256 = draw_below 256 sixteens.1 (omega arith) in
    let e : engine.0 < 2 = draw_below 2 byte.1 (omega arith) in
    let other = other_buffer first.0 distance.0 a b in
    let below : behind first.0 distance.0 < 8 = other.0 in
    record {
      x_declared = omega (arith, a, lt);
      y_declared = omega (arith, below, lt);
      differ = λ same. other.1 (omega (arith, same));
      inside = omega (arith, c);
      byte = omega (arith, d);
      first_engine = omega arith;
      last_engine = omega (arith, e);
    }

repeated_fit : (n b : ℕ) → b ≤ 255 → (length (replicate n b) ≡ n) × (list_all is_byte (replicate n b) ≡ true)
repeated_fit zero b few = (refl, refl)
repeated_fit (suc n) b few =
    let rest = repeated_fit n b few in
    (ap suc rest.0, joint (is_byte b) (list_all is_byte (replicate n b)) (is_le b 255 few) rest.1)

command_by_fits : (k : ChoiceKind) (t : ℕ) (c : Choice) → t < 3 → IsChoice c → IsLoadCommand (command_by k t c)
command_by_fits kind.Write t c lt h = let bytes = repeated_fit 16 c.byte h.byte in write_fits c.x c.off (replicate 16 c.byte) h.x_declared h.inside bytes.0 bytes.1
command_by_fits kind.Read t c lt h = read_fits c.x c.off h.x_declared h.inside
command_by_fits kind.Copy t c lt h = copy_fits c h
command_by_fits kind.Xor t c lt h = xor_fits c h
command_by_fits kind.Fill t c lt h = fill_fits c h
command_by_fits kind.Find t c lt h = find_fits c.x h.x_declared
command_by_fits kind.SwapOut t c lt h = swap_out_fits c.x h.x_declared
command_by_fits kind.Touch t c lt h = touch_fits t lt

drawn_fit : (n t : ℕ) (g : Lcg) → t < 3 → AreLoadCommands (drawn_commands n t g).0 × (length (drawn_commands n t g).0 ≡ n)
unfolding drawn_commands
drawn_fit zero t g lt = (no_commands, refl)
drawn_fit (suc n) t g lt =
    let before = drawn_fit n t g lt in
    let choice = (load_choice t (drawn_commands n t g).1).0 in
    let fits = command_by_fits choice.kind t choice lt (choice_fits t (drawn_commands n t g).1 lt) in (
      one_command_more (drawn_commands n t g).0 (load_command t choice) before.0 fits,
      length_more (drawn_commands n t g).0 (load_command t choice) ∙ ap (λ k. k + 1) before.1 ∙ add-one n,
    )

own_below : (t i : ℕ) → t < 3 → i < 8 → (own_buffer t i).0 < 24
own_below t i lt few = omega (arith, lt, few)

news_fit : (n t : ℕ) → n ≤ 8 → t < 3 → AreLoadCommands (news n t) × (length (news n t) ≡ n)
unfolding news
news_fit zero t few lt = (no_commands, refl)
news_fit (suc n) t few lt =
    let before = news_fit n t (omega (arith, few)) lt in (
      one_command_more (news n t) (command.New (own_buffer t n)) before.0 (new_fits (own_buffer t n) (own_below t n lt (omega (arith, few)))),
      length_more (news n t) (command.New (own_buffer t n)) ∙ ap (λ k. k + 1) before.1 ∙ add-one n,
    )

reads_fit : (n t : ℕ) → n ≤ 8 → t < 3 → AreLoadCommands (reads n t) × (length (reads n t) ≡ n)
unfolding reads
reads_fit zero t few lt = (no_commands, refl)
reads_fit (suc n) t few lt =
    let before = reads_fit n t (omega (arith, few)) lt in (
      one_command_more (reads n t) (command.Read (own_buffer t n) 0 16) before.0 (read_fits (own_buffer t n) 0 (own_below t n lt (omega (arith, few))) (omega arith)),
      length_more (reads n t) (command.Read (own_buffer t n) 0 16) ∙ ap (λ k. k + 1) before.1 ∙ add-one n,
    )

all_joined : {X : Type 0} (p : X → Bool) (xs ys : List X) → list_all p xs ≡ true → list_all p ys ≡ true → list_all p (xs ++ ys) ≡ true
all_joined p [] ys h k = k
all_joined p (x ∷ xs) ys h k = let f = both (p x) (list_all p xs) h in joint (p x) (list_all p (xs ++ ys)) f.0 (all_joined p xs ys f.1 k)

joined : (a b : List Command) → AreLoadCommands a → AreLoadCommands b → AreLoadCommands (a ++ b)
joined a b h k =
    let len = length-append a b in
    let sum = sum_by-append command_len a b in
    let first = h.len in
    let second = k.len in
    record {
      fit = λ script s. all_joined (is_command script) a b (h.fit script s) (k.fit script s);
      short = λ script s.
          let words = sum_by-append (line_of_command script) a b in
          let x = h.short script s in
          let y = k.short script s in
          omega (arith, words, len, x, y);
      len = omega (arith, len, sum, first, second);
    }

commands_fit : (t : ℕ) (g : Lcg) → t < 3 → AreLoadCommands (load_commands t g).0 × (length (load_commands t g).0 ≡ 216)
commands_fit t g lt =
    let a = news_fit 8 t (omega arith) lt in
    let b = drawn_fit 200 t g lt in
    let c = reads_fit 8 t (omega arith) lt in
    let front = length-append (news 8 t) (drawn_commands 200 t g).0 in
    let whole = length-append (news 8 t ++ (drawn_commands 200 t g).0) (reads 8 t) in
    let x = a.1 in
    let y = b.1 in
    let z = c.1 in (
      joined (news 8 t ++ (drawn_commands 200 t g).0) (reads 8 t) (joined (news 8 t) (drawn_commands 200 t g).0 a.0 b.0) c.0,
      omega (arith, front, whole, x, y, z),
    )

pub threads_fit : (n : ℕ) → n ≤ 3 → (g : Lcg) → AreLoadThreads n (load_threads n g).0
unfolding load_threads
threads_fit zero few g = no_threads
threads_fit (suc n) few g =
    let before = threads_fit n (omega (arith, few)) g in
    let commands = commands_fit n (load_threads n g).1 (omega (arith, few)) in
    subst (λ k. AreLoadThreads k ((load_threads n g).0 ++ (load_commands n (load_threads n g).1).0 ∷ [])) (add-one n)
    (one_thread_more n (load_threads n g).0 (load_commands n (load_threads n g).1).0 before commands.0 commands.1)
