-- The lines of threads.
use Rattle.std.proofs.Common.{◌≡◌, ℕ, ◌+◌, ◌<◌, ◌≤◌, ◌^◌, Bool, true, false, cond, eqb, List, [], ◌∷◌, ◌++◌, length, map, Option, Some, None, refl, sym, ap, subst, ◌∙◌, append_assoc, arith}
use Rattle.std.specs.Prelude.{not, codes, decimal, is_none, unwrap_or, option_map, flat_map, sum_by, nat_le, nat_lt}
use Rattle.std.specs.List.{list_any, list_all}
use Rattle.std.proofs.lemmas.List.{append-nil}
use Rattle.std.proofs.lemmas.Bool.Decides.{nat_tests}
use Rattle.ttm_base.specs.declared.BufId.{BufId}
use Rattle.ttm_base.specs.declared.Mem.{Mem}
use Rattle.journal_model.specs.declared.script.Script.{Script}
use Rattle.journal_model.specs.declared.script.Command.{Command}
use Rattle.journal_model.specs.declared.script.Command.TheVariants as command
use Rattle.journal_model.specs.declared.script.Mark.{Mark}
use Rattle.journal_model.specs.declared.script.MarkKind.{MarkKind}
use Rattle.journal_model.specs.declared.script.MarkKind.TheVariants as mark
use Rattle.journal_model.specs.declared.line.Progress.{Progress}
use Rattle.journal_model.specs.declared.line.Phase.TheVariants as phase
use Rattle.journal_model.specs.declared.line.Line.{Line}
use Rattle.journal_model.specs.declared.line.Line.TheVariants as says
use Rattle.journal_model.specs.declared.line.Verb.{Verb}
use Rattle.journal_model.specs.declared.line.Verb.TheVariants as verb
use Rattle.journal_model.specs.declared.line.Access.{Access}
use Rattle.journal_model.specs.declared.line.Access.TheVariants as access
use Rattle.journal_model.specs.declared.line.OpWord.{OpWord}
use Rattle.journal_model.specs.scripts.Words.{Text, line, name_of, mem_word, hex}
use Rattle.journal_model.specs.scripts.Cut.{cut_by, is_semicolon}
use Rattle.journal_model.specs.rules.State.{has_buffer}
use Rattle.journal_model.specs.rules.Commands.{first_mentions, buffers_of_op}
use Rattle.journal_model.specs.scripts.Spelling.{buffer_line, turn_line}
use Rattle.journal_model.specs.scripts.CommandRules.{is_between, is_declared, is_command, is_byte, command_len}
use Rattle.journal_model.specs.scripts.MarkRules.{ThreadMappings, thread_mappings_at_end}
use Rattle.journal_model.specs.scripts.ScriptRules.{is_turn_line}
use Rattle.journal_model.specs.scripts.Reading.{known, names_of, number_in, offset_of, bytes_in_hex, mem_of, engine_word_of, is_plain, read_on}
use Rattle.journal_model.specs.scripts.LineWords.{plain_line, write_line, read_line, move_line, touch_line, op_of, is_no_op, op_words_of, submit_line}
use Rattle.journal_model.specs.scripts.LineRules.{lacks_number_in_op, is_broken_engine, is_missing_engine, are_wrong_bytes, bytes_pass, has_wrong_range, is_more_than, passes_in_op, names_one_twice, is_big_job, buffers_of_word, len_of_word, has_mapped, has_map_fault}
use Rattle.journal_model.specs.scripts.FirstFault.{or_zero, or_first, plain_command, first_word, with_line, with_command, with_mark, with_mark_line, with_submit, onto_last, op_in, engine_in}
use Rattle.law_legal.proofs.law_script.NumberLaws.{between, is_in}
use Rattle.law_legal.proofs.law_script.CutLaws.{cut_some}
use Rattle.law_legal.proofs.law_script.WordLaws.{verb_word, mem_is, IsMemOf}
use Rattle.law_legal.proofs.law_script.HexLaws.{bytes_take}
use Rattle.law_legal.proofs.law_script.LineLaws.{made, name_word, offset_word, number_word, plain_words, Breaks_none}
use Rattle.law_legal.proofs.law_script.KindLaws.{engine_takes, engine_chosen}
use Rattle.law_legal.proofs.law_script.SubmitLaws.{AreGood, ops_take}
use Rattle.law_legal.proofs.law_script.CommandFits.{number_small, known_there, range_fits, passes_fits, not_more, bytes_small, ops_fit, names_are, lens_are}
use Rattle.law_legal.specs.law_items.Items.{Item, Alone, Asks, ComesFrom, item_text, items_text, item_fits}
use Rattle.law_legal.proofs.law_items.ListFacts.{all_nil, all_put, few_put, last_put, length_put, sum_put, text_put, length_map, put_last}
use Rattle.law_legal.proofs.law_items.Puts.{lists_len, alone_comes, plain_comes, way_comes, fits_put}
use Rattle.law_legal.proofs.law_script.Sound.{frame, seats, six, body, is_asked, item_len, Sound, text_of, Grows}
use Rattle.law_legal.proofs.law_script.HeadSteps.{at}
use Rattle.law_legal.proofs.law_items.Tests.{either, joint, three, four, is_le, not_less}

-- ---- one more line of a thread

-- a test that does not fail
pub not_false : (b : Bool) → not b ≡ false → b ≡ true
not_false true h = refl
not_false false h = absurd cc

-- the lines so far, with one more of the thread at work
abbrev pub with_item : Progress → Item → Progress
with_item p (Alone m) = with_mark_line p m
with_item p (Asks [] c) = with_submit p c (command_len c)
with_item p (Asks (way ∷ ways) c) = with_submit (with_mark p way) c (command_len c)

-- a line says a command or mark that keeps its rules
pub record Tells (s : Script) (n m : ℕ) (ws : List Text) (l : Line) : Type 0 where
  pub item : Item
  pub taken : with_line (at phase.Threads s n m) l ≡ with_item (at phase.Threads s n m) item
  pub words : line ws ≡ item_text (frame s) item
  pub fits : is_asked (frame s) item ≡ true
  pub stands : item_fits s (thread_mappings_at_end s) item ≡ true
  pub few : n < 4096
  pub short : m + item_len item ≤ 67108864

-- a part grows, where nothing follows it
pub grown : {C : Type 0} (a b d x : Text) (k : C → Text) (cs : List C) → cs ≡ [] → d ≡ b ++ x → a ++ d ++ flat_map k cs ≡ (a ++ b ++ flat_map k cs) ++ x
grown a b d x k [] p q =
    append-nil (a ++ d) ∙ ap (λ t. a ++ t) q ∙ sym (append_assoc a b x) ∙ ap (λ t. t ++ x) (sym (append-nil (a ++ b)))
grown a b d x k (c ∷ cs) p q = absurd cc

-- there is room for a command
pub less : (n : ℕ) → nat_le 4096 n ≡ false → n < 4096
less n h = grind (arith, nat_tests, h)

-- not above the limit of all operations
pub fits_in : (n : ℕ) → nat_lt 67108864 n ≡ false → n ≤ 67108864
fits_in n h = grind (arith, nat_tests, h)

-- the script with other threads and marks
abbrev seated : Script → List (List Command) → List Mark → Script
seated s ts ms = record s { threads = ts; marks = ms }

one_more : (s : Script) (lists : List (List Item)) (n m : ℕ) (item : Item) (ts : List (List Command)) (ms : List Mark) (total : ℕ) → Sound (at phase.Threads s n m) lists → ComesFrom (seated s ts ms) (put_last item lists)
    → is_asked (frame s) item ≡ true → item_fits s (thread_mappings_at_end s) item ≡ true → n < 4096 → total ≡ m + item_len item → total ≤ 67108864 → Sound (at phase.Threads (seated s ts ms) (n + 1) total) (put_last item lists)
one_more s lists n m item ts ms total h comes fit stands few sum short =
    let before = lists_len s lists h.comes in
    let now = lists_len (seated s ts ms) (put_last item lists) comes in
    let put = length_put item lists in
    let some : 0 < length lists = let a = h.stage.0 in omega (arith, a, before) in
    record {
      version = h.version;
      sizes = h.sizes;
      few_buffers = h.few_buffers;
      decls = h.decls;
      names = h.names;
      comes = comes;
      few_threads = let a = h.few_threads in omega (arith, a, before, now, put);
      commands = all_put (is_asked (frame s)) item lists h.commands fit;
      few_lines = few_put item lists h.few_lines (let e = h.lines in omega (arith, e, few));
      lines = ap (λ k. k + 1) h.lines ∙ sym (last_put item lists some);
      lens = sum ∙ ap (λ k. k + item_len item) h.lens ∙ sym (sum_put item_len item lists some);
      short = short;
      marks = fits_put s lists item h.comes h.marks stands;
      turns = all_nil (is_turn_line (seats (seated s ts ms))) s.turns h.stage.1;
      stage = (omega (arith, some, now, put), h.stage.1);
    }

more_text : (s : Script) (lists : List (List Item)) (n m : ℕ) (item : Item) → Sound (at phase.Threads s n m) lists → body s (put_last item lists) ≡ body s lists ++ item_text (frame s) item
more_text s lists n m item h =
    let before = lists_len s lists h.comes in
    let some : 0 < length lists = let a = h.stage.0 in omega (arith, a, before) in
    grown (six s ++ flat_map (buffer_line s.version) s.buffers) (flat_map (items_text (frame s)) lists) _ (item_text (frame s) item) turn_line s.turns h.stage.1 (text_put (line (codes "thread" ∷ [])) (item_text (frame s)) item lists some)

-- where a line of a thread leads
abbrev Leads : Script → List (List Item) → ℕ → ℕ → Item → Type 0
Leads s lists n m item =
    Sound (with_item (at phase.Threads s n m) item) (put_last item lists) × (text_of (with_item (at phase.Threads s n m) item) (put_last item lists) ≡ body s lists ++ item_text (frame s) item)

item_leads : (s : Script) (lists : List (List Item)) (n m : ℕ) (item : Item) → Sound (at phase.Threads s n m) lists → is_asked (frame s) item ≡ true → item_fits s (thread_mappings_at_end s) item ≡ true → n < 4096 → m + item_len item ≤ 67108864 → Leads s lists n m item
item_leads s lists n m (Alone kind) h fit stands few short = (
  one_more s lists n m (Alone kind) _ _ m h (alone_comes s lists kind h.comes h.stage.0) fit stands few (omega arith) (omega (arith, short)),
  more_text s lists n m (Alone kind) h,
)
item_leads s lists n m (Asks [] c) h fit stands few short = (
  one_more s lists n m (Asks [] c) _ _ (m + command_len c) h (plain_comes s lists c h.comes h.stage.0) fit stands few refl short,
  more_text s lists n m (Asks [] c) h,
)
item_leads s lists n m (Asks (way ∷ []) c) h fit stands few short = (
  one_more s lists n m (Asks (way ∷ []) c) _ _ (m + command_len c) h (way_comes s lists way c h.comes h.stage.0) fit stands few refl short,
  more_text s lists n m (Asks (way ∷ []) c) h,
)
item_leads s lists n m (Asks (way ∷ other ∷ ways) c) h fit stands few short = absurd cc

-- the line of a command, or of a mark
pub item_step : {lists : List (List Item)} (s : Script) (n m : ℕ) (ws : List Text) (l : Line) → Tells s n m ws l → Sound (at phase.Threads s n m) lists → Grows (at phase.Threads s n m) lists l ws
item_step {lists = lists} s n m ws l t h =
    let g = item_leads s lists n m t.item h t.fits t.stands t.few t.short in
    record {
      next = put_last t.item lists;
      sound = subst (λ p. Sound p (put_last t.item lists)) (sym t.taken) g.0;
      more = ap (λ p. text_of p (put_last t.item lists)) t.taken ∙ g.1 ∙ ap (λ x. body s lists ++ x) (sym t.words);
    }

-- ---- commands without a length

abbrev with_lens : Progress → Command → ℕ → Progress
with_lens p c k = record p { script = record (p.script) { threads = onto_last c p.script.threads }; lines = p.lines + 1; lens = k }

-- a command without operations
pub no_len : (p : Progress) (c : Command) → command_len c ≡ 0 → with_command p c ≡ with_submit p c (command_len c)
no_len p c h = let e : p.lens ≡ p.lens + command_len c = omega (arith, h) in ap (with_lens p c) e

plain_fits : (s : Script) (v : Verb) (b : BufId) → is_declared s b ≡ true → is_command s (plain_command v b) ≡ true
plain_fits s verb.New b h = h
plain_fits s verb.Free b h = h
plain_fits s verb.Pin b h = h
plain_fits s verb.Unpin b h = h
plain_fits s verb.Find b h = h
plain_fits s verb.SwapOut b h = h

-- a verb has no operations
pub plain_len : (v : Verb) (b : BufId) → command_len (plain_command v b) ≡ 0
plain_len verb.New b = refl
plain_len verb.Free b = refl
plain_len verb.Pin b = refl
plain_len verb.Unpin b = refl
plain_len verb.Find b = refl
plain_len verb.SwapOut b = refl

-- as long as before
pub still_short : (m k : ℕ) → nat_lt 67108864 (m + 0) ≡ false → k ≡ 0 → m + k ≤ 67108864
still_short m k h e = let f = fits_in (m + 0) h in omega (arith, f, e)

-- a verb and a name
pub plain_tells : (s : Script) (n m : ℕ) (v : Verb) (ws : List Text) (l : Line) → first_word ws ≡ verb_word v → plain_line (names_of s.buffers) v ws ≡ made l → Breaks_none (at phase.Threads s n m) l → Tells s n m ws l
plain_tells s n m v [] l k h r = absurd cc
plain_tells s n m v (w ∷ []) l k h r = absurd cc
plain_tells s n m v (w ∷ b ∷ []) l k h r =
    let names = names_of s.buffers in
    let e : says.Plain v (known names b) ≡ l = cc in
    let c = plain_command v (or_first (known names b)) in
    subst (λ (x : Line). Breaks_none (at phase.Threads s n m) x → Tells s n m (w ∷ b ∷ []) x) e (λ r. record {
      item = Asks [] c;
      taken = no_len (at phase.Threads s n m) c (plain_len v (or_first (known names b)));
      words = ap line (ap (λ t. t ∷ b ∷ []) k ∙ ap (λ t. verb_word v ∷ t ∷ []) (name_word s b r.names) ∙ plain_words (frame s) v (or_first (known names b)));
      fits = plain_fits (frame s) v (or_first (known names b)) (known_there s b r.names);
      stands = refl;
      few = less n r.counts;
      short = still_short m (command_len c) r.lens (plain_len v (or_first (known names b)));
    }) r
plain_tells s n m v (w ∷ b ∷ x ∷ xs) l k h r = absurd cc

-- a touch
pub touch_tells : (s : Script) (n m : ℕ) (ws : List Text) (l : Line) → first_word ws ≡ codes "touch" → touch_line ws ≡ made l → Breaks_none (at phase.Threads s n m) l → Tells s n m ws l
touch_tells s n m [] l k h r = absurd cc
touch_tells s n m (w ∷ []) l k h r = absurd cc
touch_tells s n m (w ∷ g ∷ []) l k h r =
    let e : says.Touch (number_in 0 15 g) ≡ l = cc in
    let c = command.Touch (or_zero (number_in 0 15 g)) in
    subst (λ (x : Line). Breaks_none (at phase.Threads s n m) x → Tells s n m (w ∷ g ∷ []) x) e (λ r. record {
      item = Asks [] c;
      taken = no_len (at phase.Threads s n m) c refl;
      words = ap line (ap (λ t. t ∷ g ∷ []) k ∙ ap (λ t. codes "touch" ∷ t ∷ []) (number_word 0 15 g (omega arith) r.numbers));
      fits = is_le (or_zero (number_in 0 15 g)) 15 (number_small 0 15 g);
      stands = refl;
      few = less n r.counts;
      short = still_short m 0 r.lens refl;
    }) r
touch_tells s n m (w ∷ g ∷ x ∷ xs) l k h r = absurd cc

move_chosen : (s : Script) (n m : ℕ) (w b t : Text) (o : Option Mem) (l : Line) → mem_of t ≡ o → w ≡ codes "move"
    → option_map (λ x. says.Move (known (names_of s.buffers) b) x) o ≡ made l → Breaks_none (at phase.Threads s n m) l → Tells s n m (w ∷ b ∷ t ∷ []) l
move_chosen s n m w b t None l q k h r = absurd cc
move_chosen s n m w b t (Some mem) l q k h r =
    let names = names_of s.buffers in
    let e : says.Move (known names b) mem ≡ l = cc in
    let word : t ≡ mem_word mem = subst (IsMemOf t) q (mem_is t) in
    let c = command.Move (or_first (known names b)) mem in
    subst (λ (x : Line). Breaks_none (at phase.Threads s n m) x → Tells s n m (w ∷ b ∷ t ∷ []) x) e (λ r. record {
      item = Asks [] c;
      taken = no_len (at phase.Threads s n m) c refl;
      words = ap line (ap (λ v. v ∷ b ∷ t ∷ []) k ∙ ap (λ v. codes "move" ∷ v ∷ t ∷ []) (name_word s b r.names) ∙ ap (λ v. codes "move" ∷ name_of s (or_first (known names b)) ∷ v ∷ []) word);
      fits = known_there s b r.names;
      stands = refl;
      few = less n r.counts;
      short = still_short m 0 r.lens refl;
    }) r

-- a move
pub move_tells : (s : Script) (n m : ℕ) (ws : List Text) (l : Line) → first_word ws ≡ codes "move" → move_line (names_of s.buffers) ws ≡ made l → Breaks_none (at phase.Threads s n m) l → Tells s n m ws l
move_tells s n m [] l k h r = absurd cc
move_tells s n m (w ∷ []) l k h r = absurd cc
move_tells s n m (w ∷ b ∷ []) l k h r = absurd cc
move_tells s n m (w ∷ b ∷ t ∷ []) l k h r = move_chosen s n m w b t (mem_of t) l refl k h r
move_tells s n m (w ∷ b ∷ t ∷ x ∷ xs) l k h r = absurd cc

-- ---- reads and writes, and through a mapping peeks and pokes

-- the word of a read or peek
abbrev pub read_word : Access → Text
read_word access.Direct = codes "read"
read_word access.Mapped = codes "peek"

-- the word of a write or poke
abbrev pub write_word : Access → Text
write_word access.Direct = codes "write"
write_word access.Mapped = codes "poke"

-- the mark of a peek or poke
abbrev pub ways_of : Access → List MarkKind
ways_of access.Direct = []
ways_of access.Mapped = mark.Mapped ∷ []

-- a peek or poke stands in version 2 alone
abbrev pub MayReach : Access → Script → Type 0
MayReach access.Direct s = Unit {0}
MayReach access.Mapped s = eqb s.version 2 ≡ true

-- the text of a read or peek
pub read_text : (how : Access) (s : Script) (b : BufId) (off len : ℕ) → line (read_word how ∷ name_of s b ∷ decimal off ∷ decimal len ∷ []) ≡ item_text s (Asks (ways_of how) (command.Read b off len))
read_text access.Direct s b off len = refl
read_text access.Mapped s b off len = refl

-- the text of a write or poke
pub write_text : (how : Access) (s : Script) (b : BufId) (off : ℕ) (bytes : List ℕ) → line (write_word how ∷ name_of s b ∷ decimal off ∷ hex bytes ∷ []) ≡ item_text s (Asks (ways_of how) (command.Write b off bytes))
write_text access.Direct s b off bytes = refl
write_text access.Mapped s b off bytes = refl

-- what a read or peek says
pub read_taken : (how : Access) (p : Progress) (b : Option BufId) (off len : Option ℕ) → with_line p (says.Read how b off len) ≡ with_item p (Asks (ways_of how) (command.Read (or_first b) (or_zero off) (or_zero len)))
read_taken access.Direct p b off len = no_len p (command.Read (or_first b) (or_zero off) (or_zero len)) refl
read_taken access.Mapped p b off len = no_len (with_mark p mark.Mapped) (command.Read (or_first b) (or_zero off) (or_zero len)) refl

-- what a write or poke says
pub write_taken : (how : Access) (p : Progress) (b : Option BufId) (off : Option ℕ) (bytes : Option (List ℕ)) → with_line p (says.Write how b off bytes) ≡ with_item p (Asks (ways_of how) (command.Write (or_first b) (or_zero off) (unwrap_or bytes [])))
write_taken access.Direct p b off bytes = no_len p (command.Write (or_first b) (or_zero off) (unwrap_or bytes [])) refl
write_taken access.Mapped p b off bytes = no_len (with_mark p mark.Mapped) (command.Write (or_first b) (or_zero off) (unwrap_or bytes [])) refl

-- the buffer of a word is mapped
pub mapped_there : (d : ThreadMappings) (b : Option BufId) → has_mapped d b ≡ true → has_buffer d.mapped (or_first b) ≡ true
mapped_there d (Some b) h = h
mapped_there d None h = absurd cc

read_stands : (how : Access) (s : Script) (b : Option BufId) (off len : Option ℕ) → MayReach how s → has_map_fault (thread_mappings_at_end s) (says.Read how b off len) ≡ false
    → item_fits s (thread_mappings_at_end s) (Asks (ways_of how) (command.Read (or_first b) (or_zero off) (or_zero len))) ≡ true
read_stands access.Direct s b off len v h = refl
read_stands access.Mapped s b off len v h = joint (eqb s.version 2) (has_buffer (thread_mappings_at_end s).mapped (or_first b)) v (mapped_there (thread_mappings_at_end s) b (not_false (has_mapped (thread_mappings_at_end s) b) h))

write_stands : (how : Access) (s : Script) (b : Option BufId) (off : Option ℕ) (bytes : Option (List ℕ)) → MayReach how s → has_map_fault (thread_mappings_at_end s) (says.Write how b off bytes) ≡ false
    → item_fits s (thread_mappings_at_end s) (Asks (ways_of how) (command.Write (or_first b) (or_zero off) (unwrap_or bytes []))) ≡ true
write_stands access.Direct s b off bytes v h = refl
write_stands access.Mapped s b off bytes v h = joint (eqb s.version 2) (has_buffer (thread_mappings_at_end s).mapped (or_first b)) v (mapped_there (thread_mappings_at_end s) b (not_false (has_mapped (thread_mappings_at_end s) b) h))

-- a read or peek
pub read_tells : (how : Access) (s : Script) (n m : ℕ) (ws : List Text) (l : Line) → MayReach how s → first_word ws ≡ read_word how → read_line how (names_of s.buffers) ws ≡ made l → Breaks_none (at phase.Threads s n m) l → Tells s n m ws l
read_tells how s n m [] l v k h r = absurd cc
read_tells how s n m (w ∷ []) l v k h r = absurd cc
read_tells how s n m (w ∷ b ∷ []) l v k h r = absurd cc
read_tells how s n m (w ∷ b ∷ off ∷ []) l v k h r = absurd cc
read_tells how s n m (w ∷ b ∷ off ∷ len ∷ []) l v k h r =
    let names = names_of s.buffers in
    let bo = known names b in
    let oo = offset_of off in
    let lo = offset_of len in
    let word = read_word how in
    let e : says.Read how bo oo lo ≡ l = cc in
    let c = command.Read (or_first bo) (or_zero oo) (or_zero lo) in
    subst (λ (x : Line). Breaks_none (at phase.Threads s n m) x → Tells s n m (w ∷ b ∷ off ∷ len ∷ []) x) e (λ r.
    let z = either (is_none oo) (is_none lo) r.numbers in
    let g = either (has_wrong_range s bo oo lo) (is_more_than 256 lo) r.ranges in
    record {
      item = Asks (ways_of how) c;
      taken = read_taken how (at phase.Threads s n m) bo oo lo;
      words = ap line (ap (λ t. t ∷ b ∷ off ∷ len ∷ []) k ∙ ap (λ t. word ∷ t ∷ off ∷ len ∷ []) (name_word s b r.names)
          ∙ ap (λ t. word ∷ name_of s (or_first bo) ∷ t ∷ len ∷ []) (offset_word off z.0)
          ∙ ap (λ t. word ∷ name_of s (or_first bo) ∷ decimal (or_zero oo) ∷ t ∷ []) (offset_word len z.1))
          ∙ read_text how (frame s) (or_first bo) (or_zero oo) (or_zero lo);
      fits = joint _ (nat_le (or_zero lo) 256) (range_fits (frame s) bo oo lo r.names z.0 z.1 g.0 (known_there s b) (number_small 0 16777216 off) (number_small 0 16777216 len)).0 (not_more 256 lo z.1 g.1);
      stands = read_stands how s bo oo lo v r.maps;
      few = less n r.counts;
      short = still_short m 0 r.lens refl;
    }) r
read_tells how s n m (w ∷ b ∷ off ∷ len ∷ x ∷ xs) l v k h r = absurd cc

some_bytes : (o : Option (List ℕ)) → are_wrong_bytes o ≡ false → (o ≡ Some (unwrap_or o [])) × (is_between 1 256 (length (unwrap_or o [])) ≡ true)
some_bytes None h = absurd cc
some_bytes (Some bytes) h = (refl, not_false (is_between 1 256 (length bytes)) h)

write_fits : (s : Script) (b : Option BufId) (off : Option ℕ) (bytes : Option (List ℕ)) → is_none b ≡ false → is_none off ≡ false → are_wrong_bytes bytes ≡ false → bytes_pass s b off bytes ≡ false
    → (is_none b ≡ false → is_declared s (or_first b) ≡ true) → or_zero off ≤ 16777216 → list_all is_byte (unwrap_or bytes []) ≡ true
    → is_command s (command.Write (or_first b) (or_zero off) (unwrap_or bytes [])) ≡ true
write_fits s b off None p q w h d o a = absurd cc
write_fits s b off (Some bytes) p q w h d o a =
    let f = between 1 256 (length bytes) (not_false (is_between 1 256 (length bytes)) w) in
    three _ (nat_le (length bytes) 256) (list_all is_byte bytes) (passes_fits s b off (Some (length bytes)) p q refl h d o f.0 (omega (arith, f.1))) (is_le (length bytes) 256 f.1) a

-- a write or poke
pub write_tells : (how : Access) (s : Script) (n m : ℕ) (ws : List Text) (l : Line) → MayReach how s → first_word ws ≡ write_word how → write_line how (names_of s.buffers) ws ≡ made l → Breaks_none (at phase.Threads s n m) l → Tells s n m ws l
write_tells how s n m [] l v k h r = absurd cc
write_tells how s n m (w ∷ []) l v k h r = absurd cc
write_tells how s n m (w ∷ b ∷ []) l v k h r = absurd cc
write_tells how s n m (w ∷ b ∷ off ∷ []) l v k h r = absurd cc
write_tells how s n m (w ∷ b ∷ off ∷ text ∷ []) l v k h r =
    let names = names_of s.buffers in
    let bo = known names b in
    let oo = offset_of off in
    let bytes = bytes_in_hex text in
    let word = write_word how in
    let e : says.Write how bo oo bytes ≡ l = cc in
    let c = command.Write (or_first bo) (or_zero oo) (unwrap_or bytes []) in
    subst (λ (x : Line). Breaks_none (at phase.Threads s n m) x → Tells s n m (w ∷ b ∷ off ∷ text ∷ []) x) e (λ r.
    let z = (some_bytes bytes r.bytes).0 in
    record {
      item = Asks (ways_of how) c;
      taken = write_taken how (at phase.Threads s n m) bo oo bytes;
      words = ap line (ap (λ t. t ∷ b ∷ off ∷ text ∷ []) k ∙ ap (λ t. word ∷ t ∷ off ∷ text ∷ []) (name_word s b r.names)
          ∙ ap (λ t. word ∷ name_of s (or_first bo) ∷ t ∷ text ∷ []) (offset_word off r.numbers)
          ∙ ap (λ t. word ∷ name_of s (or_first bo) ∷ decimal (or_zero oo) ∷ t ∷ []) (bytes_take text (unwrap_or bytes []) z))
          ∙ write_text how (frame s) (or_first bo) (or_zero oo) (unwrap_or bytes []);
      fits = write_fits (frame s) bo oo bytes r.names r.numbers r.bytes r.ranges (known_there s b) (number_small 0 16777216 off) (bytes_small text (unwrap_or bytes []) z);
      stands = write_stands how s bo oo bytes v r.maps;
      few = less n r.counts;
      short = still_short m 0 r.lens refl;
    }) r
write_tells how s n m (w ∷ b ∷ off ∷ text ∷ x ∷ xs) l v k h r = absurd cc

-- ---- jobs

-- an engine of the script
pub engine_there : (engines : ℕ) (w : Text) → is_broken_engine (engine_word_of engines w) ≡ false → is_missing_engine (engine_word_of engines w) ≡ false → is_between 1 engines (engine_in (engine_word_of engines w)) ≡ true
engine_there engines w a b =
    let c = engine_chosen (is_plain w) (is_between 1 engines (read_on 0 w)) (read_on 0 w) a b in
    ap (is_between 1 engines) c.2 ∙ c.1

some_ops : (P : OpWord → Bool) (groups : List (List Text)) (f : List Text → OpWord) → 0 < length groups → nat_lt 64 (length (map f groups)) ≡ false → is_between 1 64 (length (map op_in (map f groups))) ≡ true
some_ops P groups f some few =
    let a = length_map op_in (map f groups) in
    let b = length_map f groups in
    let d = not_less 64 (length (map f groups)) few in
    is_in 1 64 (length (map op_in (map f groups))) (omega (arith, a, b, some)) (omega (arith, a, b, d))

-- what a choice answers
pub submit_chosen : (b : Bool) (l : Line) (made_of : Line) → cond b None (made made_of) ≡ made l → (b ≡ false) × (made_of ≡ l)
submit_chosen true l x h = absurd cc
submit_chosen false l x h = (refl, cc)

job_fits : (s : Script) (engine : Text) (ws : List Text) → (let xs = op_words_of (names_of s.buffers) ws in AreGood xs → list_any (passes_in_op s) xs ≡ false → list_any names_one_twice xs ≡ false → is_big_job xs ≡ false
    → is_broken_engine (engine_word_of s.sizes.engines engine) ≡ false → is_missing_engine (engine_word_of s.sizes.engines engine) ≡ false
    → is_command s (command.Submit (engine_in (engine_word_of s.sizes.engines engine)) (map op_in xs)) ≡ true)
job_fits s engine ws good p t big a b =
    let groups = cut_by is_semicolon ws in
    let f = op_of (names_of s.buffers) in
    let xs = map f groups in
    let z = either (nat_lt 64 (length xs)) (nat_lt 16 (length (first_mentions [] (flat_map buffers_of_word xs)))) big in
    let few : nat_le (length (first_mentions [] (flat_map buffers_of_op (map op_in xs)))) 16 ≡ true = ap (λ bs. nat_le (length (first_mentions [] bs)) 16) (sym (names_are xs good)) ∙ is_le (length (first_mentions [] (flat_map buffers_of_word xs))) 16 (not_less 16 _ z.1) in
    four _ _ _ _ (engine_there s.sizes.engines engine a b) (some_ops is_no_op groups f (cut_some is_semicolon ws) z.0) (ops_fit s groups good p t) few

-- a job
pub submit_tells : (s : Script) (n m : ℕ) (ws : List Text) (l : Line) → s.sizes.engines < 2 ^ 64 → first_word ws ≡ codes "submit" → submit_line (names_of s.buffers) s.sizes.engines ws ≡ made l → Breaks_none (at phase.Threads s n m) l → Tells s n m ws l
submit_tells s n m [] l small k h r = absurd cc
submit_tells s n m (w ∷ []) l small k h r = absurd cc
submit_tells s n m (w ∷ engine ∷ ws) l small k h r =
    let names = names_of s.buffers in
    let e = engine_word_of s.sizes.engines engine in
    let xs = op_words_of names ws in
    let z = submit_chosen (list_any is_no_op xs) l (says.Submit e xs) h in
    let c = command.Submit (engine_in e) (map op_in xs) in
    let p = at phase.Threads s n m in
    subst (λ (x : Line). Breaks_none p x → Tells s n m (w ∷ engine ∷ ws) x) z.1 (λ r.
    let a = either (is_broken_engine e) (list_any lacks_number_in_op xs) r.numbers in
    let j = either (list_any names_one_twice xs) (is_big_job xs) r.jobs in
    let good : AreGood xs = record { shape = z.0; numbers = a.1; names = r.names; bytes = r.bytes } in
    let len = lens_are xs in
    record {
      item = Asks [] c;
      taken = ap (λ k. with_submit p c k) len;
      words = ap line (ap (λ t. t ∷ engine ∷ ws) k ∙ ap (λ t. codes "submit" ∷ t ∷ ws) (engine_takes s.sizes.engines engine small a.0 r.actors) ∙ ap (λ ts. codes "submit" ∷ decimal (engine_in e) ∷ ts) (ops_take s ws good));
      fits = job_fits s engine ws good r.ranges j.0 j.1 a.0 r.actors;
      stands = refl;
      few = less n r.counts;
      short = subst (λ k. m + k ≤ 67108864) len (fits_in (m + sum_by len_of_word xs) r.lens);
    }) r
