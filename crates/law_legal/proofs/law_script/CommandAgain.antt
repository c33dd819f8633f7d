-- Commands that were written are read.
use Rattle.std.proofs.Common.{◌≡◌, ℕ, ◌+◌, ◌<◌, ◌≤◌, ◌^◌, true, false, cond, eqb, List, [], ◌∷◌, length, map, Some, None, Ok, refl, ap, subst, ◌∙◌, arith}
use Rattle.std.specs.Prelude.{not, codes, decimal, flat_map, sum_by, option_map, nat_lt, nat_le}
use Rattle.std.specs.List.{list_any, list_all}
use Rattle.std.proofs.lemmas.Bool.Decides.{nat_tests}
use Rattle.ttm_base.specs.declared.BufId.{BufId}
use Rattle.ttm_base.specs.declared.Mem.{Mem}
use Rattle.ttm_base.specs.declared.Mem.TheVariants.{System, Tt, Vram}
use Rattle.ttm_base.specs.declared.Op.{Op}
use Rattle.ttm_base.specs.declared.Op.TheVariants as op
use Rattle.ttm_base.specs.Cutting.{op_len}
use Rattle.journal_model.specs.declared.script.Script.{Script}
use Rattle.journal_model.specs.declared.script.Command.{Command}
use Rattle.journal_model.specs.declared.script.Command.TheVariants as command
use Rattle.journal_model.specs.declared.line.Progress.{Progress}
use Rattle.journal_model.specs.declared.line.Phase.TheVariants as phase
use Rattle.journal_model.specs.declared.line.Keyword.TheVariants as key
use Rattle.journal_model.specs.declared.line.Line.{Line}
use Rattle.journal_model.specs.declared.line.Line.TheVariants as line_of
use Rattle.journal_model.specs.declared.line.Verb.{Verb}
use Rattle.journal_model.specs.declared.line.Verb.TheVariants as verb
use Rattle.journal_model.specs.declared.line.Access.{Access}
use Rattle.journal_model.specs.declared.line.Access.TheVariants as access
use Rattle.journal_model.specs.declared.line.EngineWord.TheVariants as engine_as
use Rattle.journal_model.specs.scripts.Words.{Text, line, name_of, hex, mem_word}
use Rattle.journal_model.specs.rules.State.{has_buffer}
use Rattle.journal_model.specs.rules.Commands.{named, first_mentions}
use Rattle.journal_model.specs.scripts.MarkRules.{thread_mappings_at_end}
use Rattle.journal_model.specs.scripts.Spelling.{op_words, parted, command_words}
use Rattle.journal_model.specs.scripts.CommandRules.{is_between, is_declared, is_command, is_op, is_byte, is_range_of, command_len}
use Rattle.journal_model.specs.scripts.Reading.{known, names_of, offset_of, bytes_in_hex}
use Rattle.journal_model.specs.scripts.LineWords.{keyword_of, may_come, is_no_op, op_words_of, submit_of_ops}
use Rattle.journal_model.specs.scripts.LineRules.{lacks_number_in_op, lacks_name_in_op, lacks_byte_in_op, names_one_twice, is_big_job, buffers_of_word, len_of_word, has_wrong_range, has_map_fault}
use Rattle.journal_model.specs.scripts.FirstFault.{with_line, with_submit, plain_command, after_words}
use Rattle.law_legal.proofs.law_script.NumberLaws.{number_again, between, is_in}
use Rattle.law_legal.proofs.law_script.WordLaws.{verb_word, keyword_again, mem_again}
use Rattle.law_legal.proofs.law_script.LineLaws.{made, Breaks_none}
use Rattle.law_legal.proofs.law_script.AgainLaws.{offset_again, bytes_again}
use Rattle.law_legal.specs.law_items.Items.{Asks, item_text}
use Rattle.law_legal.proofs.law_script.CommandSteps.{no_len, plain_len, with_item, read_word, write_word, ways_of, read_text, write_text, read_taken, write_taken}
use Rattle.law_legal.proofs.law_script.HeadSteps.{at}
use Rattle.law_legal.proofs.law_items.ListFacts.{length_map}
use Rattle.law_legal.proofs.law_script.NamesAgain.{IsNamed, known_again, name_word_small, engine_again}
use Rattle.law_legal.proofs.law_script.OpsAgain.{whole_op, range_is, right_range, ops_again, ops_words, none_of, ops_inside, names_again, lens_again, ops_said}
use Rattle.law_legal.proofs.law_script.LineRuns.{Runs, line_runs, says, keeps_all}
use Rattle.law_legal.proofs.law_script.Solid.{is_word, small_word, number_small_word, hex_word}
use Rattle.law_legal.proofs.law_items.Tests.{neither, both, joint, three_facts, four_facts, le_is, at_most, not_long}

-- the line of a command
abbrev pub command_text : Script → Command → Text
command_text s c = line (command_words s c)

-- what holds where a command is read
pub record IsRoom (s : Script) (n m : ℕ) (c : Command) : Type 0 where
  pub named_ones : IsNamed s
  pub few : n < 4096
  pub short : m + command_len c ≤ 67108864

-- there is room for one more
pub not_more : (n : ℕ) → n < 4096 → nat_le 4096 n ≡ false
not_more n h = grind (arith, nat_tests)

-- a line that says a command
pub told : (s : Script) (n m : ℕ) (q : Progress) (w : Text) (ws : List Text) (l : Line) → list_all is_word (w ∷ ws) ≡ true
    → after_words (at phase.Threads s n m) (w ∷ ws) ≡ Ok (with_line (at phase.Threads s n m) l) → with_line (at phase.Threads s n m) l ≡ q
    → Runs (at phase.Threads s n m) (line (w ∷ ws)) q
told s n m q w ws l words e made_is = line_runs (at phase.Threads s n m) _ w ws words (e ∙ ap (λ (p : Progress). Ok p) made_is)

-- the name of a buffer is a word
pub name_solid : (s : Script) (b : BufId) → IsNamed s → is_declared s b ≡ true → is_word (name_of s b) ≡ true
name_solid s b h d = small_word (name_of s b) (name_word_small s b h d)

-- an offset is a word
pub offset_solid : (n : ℕ) → n ≤ 16777216 → is_word (decimal n) ≡ true
offset_solid n h = small_word (decimal n) (number_small_word n (omega (arith, h)))

-- not above the most
pub not_over : (most n : ℕ) → n ≤ most → nat_lt most n ≡ false
not_over most n h = grind (arith, nat_tests)

no_number : (o : Op) → lacks_number_in_op (whole_op o) ≡ false
no_number (op.Fill dst off len byte) = refl
no_number (op.Copy dst doff src soff len) = refl
no_number (op.Xor dst doff src soff len) = refl
no_number (op.Probe src off len) = refl

no_name : (o : Op) → lacks_name_in_op (whole_op o) ≡ false
no_name (op.Fill dst off len byte) = refl
no_name (op.Copy dst doff src soff len) = refl
no_name (op.Xor dst doff src soff len) = refl
no_name (op.Probe src off len) = refl

no_byte : (o : Op) → lacks_byte_in_op (whole_op o) ≡ false
no_byte (op.Fill dst off len byte) = refl
no_byte (op.Copy dst doff src soff len) = refl
no_byte (op.Xor dst doff src soff len) = refl
no_byte (op.Probe src off len) = refl

no_shape : (o : Op) → is_no_op (whole_op o) ≡ false
no_shape (op.Fill dst off len byte) = refl
no_shape (op.Copy dst doff src soff len) = refl
no_shape (op.Xor dst doff src soff len) = refl
no_shape (op.Probe src off len) = refl

-- ---- a verb and a name

verb_solid : (v : Verb) → is_word (verb_word v) ≡ true
verb_solid verb.New = refl
verb_solid verb.Free = refl
verb_solid verb.Pin = refl
verb_solid verb.Unpin = refl
verb_solid verb.Find = refl
verb_solid verb.SwapOut = refl

plain_runs : (s : Script) (n m : ℕ) (v : Verb) (b : BufId) → IsNamed s → n < 4096 → m ≤ 67108864 → is_declared s b ≡ true
    → Runs (at phase.Threads s n m) (line (verb_word v ∷ name_of s b ∷ [])) (with_submit (at phase.Threads s n m) (plain_command v b) (command_len (plain_command v b)))
plain_runs s n m v b h few short d =
    let p = at phase.Threads s n m in
    let l = line_of.Plain v (Some b) in
    let words = joint (is_word (verb_word v)) _ (verb_solid v) (joint (is_word (name_of s b)) true (name_solid s b h d) refl) in
    let r : Breaks_none p l = record { numbers = refl; names = refl; places = refl; ranges = refl; bytes = refl; jobs = refl; actors = refl; counts = not_more n few; lens = not_long (m + 0) (omega (arith, short)); maps = refl; pages = refl } in
    told s n m (with_submit p (plain_command v b) (command_len (plain_command v b))) (verb_word v) (name_of s b ∷ []) l words
    (says p (key.Plain v) (verb_word v ∷ name_of s b ∷ []) l (keyword_again v) refl words (ap (λ x. made (line_of.Plain v x)) (known_again s b h d)) (keeps_all p l r))
    (no_len p (plain_command v b) (plain_len v b))

-- ---- the other commands

-- where a read or write may be a peek or poke
abbrev pub Reaches : Access → Script → BufId → Type 0
Reaches access.Direct s b = Unit {0}
Reaches access.Mapped s b = (eqb s.version 2 ≡ true) × (has_buffer (thread_mappings_at_end s).mapped b ≡ true)

read_keyword : (how : Access) → keyword_of (read_word how) ≡ key.Read how
read_keyword access.Direct = refl
read_keyword access.Mapped = refl

write_keyword : (how : Access) → keyword_of (write_word how) ≡ key.Write how
write_keyword access.Direct = refl
write_keyword access.Mapped = refl

read_solid : (how : Access) → is_word (read_word how) ≡ true
read_solid access.Direct = refl
read_solid access.Mapped = refl

write_solid : (how : Access) → is_word (write_word how) ≡ true
write_solid access.Direct = refl
write_solid access.Mapped = refl

read_comes : (how : Access) (s : Script) (b : BufId) → Reaches how s b → may_come s.version phase.Threads (key.Read how) ≡ true
read_comes access.Direct s b r = refl
read_comes access.Mapped s b r = r.0

write_comes : (how : Access) (s : Script) (b : BufId) → Reaches how s b → may_come s.version phase.Threads (key.Write how) ≡ true
write_comes access.Direct s b r = refl
write_comes access.Mapped s b r = r.0

read_mapped : (how : Access) (s : Script) (b : BufId) (off len : ℕ) → Reaches how s b → has_map_fault (thread_mappings_at_end s) (line_of.Read how (Some b) (Some off) (Some len)) ≡ false
read_mapped access.Direct s b off len r = refl
read_mapped access.Mapped s b off len r = ap not r.1

write_mapped : (how : Access) (s : Script) (b : BufId) (off : ℕ) (bytes : List ℕ) → Reaches how s b → has_map_fault (thread_mappings_at_end s) (line_of.Write how (Some b) (Some off) (Some bytes)) ≡ false
write_mapped access.Direct s b off bytes r = refl
write_mapped access.Mapped s b off bytes r = ap not r.1

-- a write or poke
pub write_runs : (how : Access) (s : Script) (n m : ℕ) (b : BufId) (off : ℕ) (bytes : List ℕ) → IsRoom s n m (command.Write b off bytes) → Reaches how s b → is_command s (command.Write b off bytes) ≡ true
    → Runs (at phase.Threads s n m) (item_text s (Asks (ways_of how) (command.Write b off bytes))) (with_item (at phase.Threads s n m) (Asks (ways_of how) (command.Write b off bytes)))
write_runs how s n m b off bytes room reach k =
    let p = at phase.Threads s n m in
    let q = with_item p (Asks (ways_of how) (command.Write b off bytes)) in
    let h = room.named_ones in
    let short = room.short in
    let f = three_facts (is_range_of s b off (length bytes)) (nat_le (length bytes) 256) (list_all is_byte bytes) k in
    let g = range_is s b off (length bytes) f.0 in
    let some = g.some in
    let l = line_of.Write how (Some b) (Some off) (Some bytes) in
    let words = joint (is_word (write_word how)) _ (write_solid how) (joint (is_word (name_of s b)) _ (name_solid s b h g.there) (joint (is_word (decimal off)) _ (offset_solid off g.off_small) (joint (is_word (hex bytes)) true (small_word (hex bytes) (hex_word bytes (omega (arith, some)) f.2)) refl))) in
    let r : Breaks_none p l = record { numbers = refl; names = refl; places = refl; ranges = g.inside; bytes = ap not (is_in 1 256 (length bytes) g.some (le_is (length bytes) 256 f.1)); jobs = refl; actors = refl; counts = not_more n room.few; lens = not_long (m + 0) short; maps = write_mapped how s b off bytes reach; pages = refl } in
    subst (λ t. Runs p t q) (write_text how s b off bytes)
    (told s n m q (write_word how) (name_of s b ∷ decimal off ∷ hex bytes ∷ []) l words
    (says p (key.Write how) (write_word how ∷ name_of s b ∷ decimal off ∷ hex bytes ∷ []) l (write_keyword how) (write_comes how s b reach) words
    (ap (λ x. made (line_of.Write how x (offset_of (decimal off)) (bytes_in_hex (hex bytes)))) (known_again s b h g.there) ∙ ap (λ x. made (line_of.Write how (Some b) x (bytes_in_hex (hex bytes)))) (offset_again off g.off_small) ∙ ap (λ x. made (line_of.Write how (Some b) (Some off) x)) (bytes_again bytes f.2)) (keeps_all p l r))
    (write_taken how p (Some b) (Some off) (Some bytes)))

-- a read or peek
pub read_runs : (how : Access) (s : Script) (n m : ℕ) (b : BufId) (off len : ℕ) → IsRoom s n m (command.Read b off len) → Reaches how s b → is_command s (command.Read b off len) ≡ true
    → Runs (at phase.Threads s n m) (item_text s (Asks (ways_of how) (command.Read b off len))) (with_item (at phase.Threads s n m) (Asks (ways_of how) (command.Read b off len)))
read_runs how s n m b off len room reach k =
    let p = at phase.Threads s n m in
    let q = with_item p (Asks (ways_of how) (command.Read b off len)) in
    let h = room.named_ones in
    let short = room.short in
    let f = both (is_range_of s b off len) (nat_le len 256) k in
    let g = range_is s b off len f.0 in
    let l = line_of.Read how (Some b) (Some off) (Some len) in
    let words = joint (is_word (read_word how)) _ (read_solid how) (joint (is_word (name_of s b)) _ (name_solid s b h g.there) (joint (is_word (decimal off)) _ (offset_solid off g.off_small) (joint (is_word (decimal len)) true (offset_solid len g.len_small) refl))) in
    let r : Breaks_none p l = record { numbers = refl; names = refl; places = refl; ranges = neither (has_wrong_range s (Some b) (Some off) (Some len)) (nat_lt 256 len) (right_range s b off len g) (at_most len f.1); bytes = refl; jobs = refl; actors = refl; counts = not_more n room.few; lens = not_long (m + 0) short; maps = read_mapped how s b off len reach; pages = refl } in
    subst (λ t. Runs p t q) (read_text how s b off len)
    (told s n m q (read_word how) (name_of s b ∷ decimal off ∷ decimal len ∷ []) l words
    (says p (key.Read how) (read_word how ∷ name_of s b ∷ decimal off ∷ decimal len ∷ []) l (read_keyword how) (read_comes how s b reach) words
    (ap (λ x. made (line_of.Read how x (offset_of (decimal off)) (offset_of (decimal len)))) (known_again s b h g.there) ∙ ap (λ x. made (line_of.Read how (Some b) x (offset_of (decimal len)))) (offset_again off g.off_small) ∙ ap (λ x. made (line_of.Read how (Some b) (Some off) x)) (offset_again len g.len_small)) (keeps_all p l r))
    (read_taken how p (Some b) (Some off) (Some len)))

mem_solid : (mem : Mem) → is_word (mem_word mem) ≡ true
mem_solid System = refl
mem_solid Tt = refl
mem_solid Vram = refl

move_runs : (s : Script) (n m : ℕ) (b : BufId) (mem : Mem) → IsRoom s n m (command.Move b mem) → is_declared s b ≡ true
    → Runs (at phase.Threads s n m) (command_text s (command.Move b mem)) (with_submit (at phase.Threads s n m) (command.Move b mem) 0)
move_runs s n m b mem room d =
    let p = at phase.Threads s n m in
    let h = room.named_ones in
    let l = line_of.Move (Some b) mem in
    let words = joint true _ refl (joint (is_word (name_of s b)) _ (name_solid s b h d) (joint (is_word (mem_word mem)) true (mem_solid mem) refl)) in
    let r : Breaks_none p l = record { numbers = refl; names = refl; places = refl; ranges = refl; bytes = refl; jobs = refl; actors = refl; counts = not_more n room.few; lens = not_long (m + 0) room.short; maps = refl; pages = refl } in
    told s n m (with_submit p (command.Move b mem) (command_len (command.Move b mem))) (codes "move") (name_of s b ∷ mem_word mem ∷ []) l words
    (says p key.Move (codes "move" ∷ name_of s b ∷ mem_word mem ∷ []) l refl refl words
    (ap (λ x. option_map (λ y. line_of.Move (known (names_of s.buffers) (name_of s b)) y) x) (mem_again mem) ∙ ap (λ x. made (line_of.Move x mem)) (known_again s b h d)) (keeps_all p l r))
    (no_len p (command.Move b mem) refl)

touch_runs : (s : Script) (n m : ℕ) (group : ℕ) → IsRoom s n m (command.Touch group) → nat_le group 15 ≡ true
    → Runs (at phase.Threads s n m) (command_text s (command.Touch group)) (with_submit (at phase.Threads s n m) (command.Touch group) 0)
touch_runs s n m group room k =
    let p = at phase.Threads s n m in
    let small = le_is group 15 k in
    let l = line_of.Touch (Some group) in
    let words = joint true _ refl (joint (is_word (decimal group)) true (offset_solid group (omega (arith, small))) refl) in
    let r : Breaks_none p l = record { numbers = refl; names = refl; places = refl; ranges = refl; bytes = refl; jobs = refl; actors = refl; counts = not_more n room.few; lens = not_long (m + 0) room.short; maps = refl; pages = refl } in
    told s n m (with_submit p (command.Touch group) (command_len (command.Touch group))) (codes "touch") (decimal group ∷ []) l words
    (says p key.Touch (codes "touch" ∷ decimal group ∷ []) l refl refl words (ap (λ x. made (line_of.Touch x)) (number_again 0 15 group (omega arith) (omega arith) small)) (keeps_all p l r))
    (no_len p (command.Touch group) refl)

submit_runs : (s : Script) (n m : ℕ) (engine : ℕ) (ops : List Op) → IsRoom s n m (command.Submit engine ops) → s.sizes.engines < 2 ^ 64 → is_command s (command.Submit engine ops) ≡ true
    → Runs (at phase.Threads s n m) (command_text s (command.Submit engine ops)) (with_submit (at phase.Threads s n m) (command.Submit engine ops) (sum_by op_len ops))
submit_runs s n m engine ops room small k =
    let p = at phase.Threads s n m in
    let h = room.named_ones in
    let f = four_facts (is_between 1 s.sizes.engines engine) (is_between 1 64 (length ops)) (list_all (is_op s) ops) (nat_le (length (named (command.Submit engine ops))) 16) k in
    let e = between 1 s.sizes.engines engine f.0 in
    let g = between 1 64 (length ops) f.1 in
    let xs = map whole_op ops in
    let inside = ops_inside s ops f.2 in
    let l = line_of.Submit (engine_as.Is engine) xs in
    let some : 0 < length ops = let a = g.0 in omega (arith, a) in
    let words = joint true _ refl (joint (is_word (decimal engine)) _ (small_word (decimal engine) (number_small_word engine (let a = e.1 in omega (arith, a, small)))) (ops_words s ops h f.2)) in
    let big : is_big_job xs ≡ false =
    neither (nat_lt 64 (length xs)) (nat_lt 16 (length (first_mentions [] (flat_map buffers_of_word xs)))) (ap (nat_lt 64) (length_map whole_op ops) ∙ not_over 64 (length ops) g.1)
    (ap (λ bs. nat_lt 16 (length (first_mentions [] bs))) (names_again ops) ∙ not_over 16 _ (le_is _ 16 f.3)) in
    let r : Breaks_none p l = record {
      numbers = none_of lacks_number_in_op no_number ops;
      names = none_of lacks_name_in_op no_name ops;
      places = refl;
      ranges = inside.0;
      bytes = none_of lacks_byte_in_op no_byte ops;
      jobs = neither (list_any names_one_twice xs) (is_big_job xs) inside.1 big;
      actors = refl;
      counts = not_more n room.few;
      lens = ap (λ x. nat_lt 67108864 (m + x)) (lens_again ops) ∙ not_long (m + sum_by op_len ops) room.short;
      maps = refl;
      pages = refl;
    } in
    told s n m (with_submit p (command.Submit engine ops) (command_len (command.Submit engine ops))) (codes "submit") (decimal engine ∷ parted (map (op_words s) ops)) l words
    (says p key.Submit (codes "submit" ∷ decimal engine ∷ parted (map (op_words s) ops)) l refl refl words
    (ap (λ x. submit_of_ops x (op_words_of (names_of s.buffers) (parted (map (op_words s) ops)))) (engine_again s.sizes.engines engine small f.0)
    ∙ ap (submit_of_ops (engine_as.Is engine)) (ops_again s ops some h f.2)
    ∙ ap (λ b. cond b None (made l)) (none_of is_no_op no_shape ops)) (keeps_all p l r))
    (ap (λ x. with_submit p (command.Submit engine x) (sum_by len_of_word xs)) (ops_said ops) ∙ ap (λ x. with_submit p (command.Submit engine ops) x) (lens_again ops))

-- a command that keeps its rules is read
pub command_runs : (s : Script) (n m : ℕ) (c : Command) → IsRoom s n m c → s.sizes.engines < 2 ^ 64 → is_command s c ≡ true → Runs (at phase.Threads s n m) (command_text s c) (with_submit (at phase.Threads s n m) c (command_len c))
command_runs s n m (command.New b) room small k = plain_runs s n m verb.New b room.named_ones room.few (let a = room.short in omega (arith, a)) k
command_runs s n m (command.Free b) room small k = plain_runs s n m verb.Free b room.named_ones room.few (let a = room.short in omega (arith, a)) k
command_runs s n m (command.Pin b) room small k = plain_runs s n m verb.Pin b room.named_ones room.few (let a = room.short in omega (arith, a)) k
command_runs s n m (command.Unpin b) room small k = plain_runs s n m verb.Unpin b room.named_ones room.few (let a = room.short in omega (arith, a)) k
command_runs s n m (command.Find b) room small k = plain_runs s n m verb.Find b room.named_ones room.few (let a = room.short in omega (arith, a)) k
command_runs s n m (command.SwapOut b) room small k = plain_runs s n m verb.SwapOut b room.named_ones room.few (let a = room.short in omega (arith, a)) k
command_runs s n m (command.Write b off bytes) room small k = write_runs access.Direct s n m b off bytes room tt k
command_runs s n m (command.Read b off len) room small k = read_runs access.Direct s n m b off len room tt k
command_runs s n m (command.Move b mem) room small k = move_runs s n m b mem room k
command_runs s n m (command.Touch group) room small k = touch_runs s n m group room k
command_runs s n m (command.Submit engine ops) room small k = submit_runs s n m engine ops room small k
