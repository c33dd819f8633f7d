-- Marks and jobs with addresses that were written are read.
use Rattle.std.proofs.Common.{◌≡◌, ℕ, ◌+◌, ◌<◌, ◌≤◌, ◌^◌, true, false, cond, eqb, List, [], ◌∷◌, length, map, Option, Some, None, refl, sym, ap, ◌∙◌, arith}
use Rattle.std.specs.Prelude.{not, codes, decimal, is_none, unwrap_or, flat_map, sum_by, nat_lt, nat_le}
use Rattle.std.specs.List.{list_any, list_all}
use Rattle.std.proofs.lemmas.Bool.Decides.{nat_tests}
use Rattle.ttm_base.specs.declared.BufId.{BufId}
use Rattle.ttm_base.specs.declared.Op.{Op}
use Rattle.ttm_base.specs.Cutting.{op_len}
use Rattle.journal_model.specs.declared.script.Script.{Script}
use Rattle.journal_model.specs.declared.script.Command.{Command}
use Rattle.journal_model.specs.declared.script.Command.TheVariants as command
use Rattle.journal_model.specs.declared.script.MarkKind.{MarkKind}
use Rattle.journal_model.specs.declared.script.MarkKind.TheVariants as mark
use Rattle.journal_model.specs.declared.space.VOp.{VOp}
use Rattle.journal_model.specs.declared.space.VOp.TheVariants as vop
use Rattle.journal_model.specs.declared.line.Phase.TheVariants as phase
use Rattle.journal_model.specs.declared.line.Keyword.TheVariants as key
use Rattle.journal_model.specs.declared.line.Line.TheVariants as line_of
use Rattle.journal_model.specs.declared.line.Access.TheVariants as access
use Rattle.journal_model.specs.declared.line.EngineWord.TheVariants as engine_as
use Rattle.journal_model.specs.scripts.Words.{line, name_of}
use Rattle.journal_model.specs.rules.State.{has_buffer}
use Rattle.journal_model.specs.rules.Commands.{decl, named, first_mentions, buffers_of_op}
use Rattle.journal_model.specs.scripts.Spelling.{vop_words, parted, addressed_words, mark_line}
use Rattle.journal_model.specs.marks.ByName.{job_by_name}
use Rattle.journal_model.specs.scripts.CommandRules.{is_between, is_declared, is_command, is_op}
use Rattle.journal_model.specs.scripts.MarkRules.{thread_mappings_at_end, is_vop, has_apart_ranges, is_job_of, is_page_range, is_mark, is_way, is_vsubmit}
use Rattle.journal_model.specs.scripts.Reading.{known, names_of, number_in}
use Rattle.journal_model.specs.scripts.LineWords.{is_no_vop, vop_words_of, vsubmit_of_ops}
use Rattle.journal_model.specs.scripts.LineRules.{lacks_number_in_vop, lacks_byte_in_vop, has_buffer_twice, is_big_named_job, named_job, len_of_vop_word}
use Rattle.journal_model.specs.scripts.FirstFault.{with_mark, with_mark_line, with_submit}
use Rattle.law_legal.specs.law_items.Items.{Item, Alone, Asks, item_text, item_fits}
use Rattle.law_legal.proofs.law_script.NumberLaws.{number_again, between}
use Rattle.law_legal.proofs.law_script.LineLaws.{made, Breaks_none}
use Rattle.law_legal.proofs.law_script.HeadSteps.{at}
use Rattle.law_legal.proofs.law_script.Sound.{is_asked, item_len}
use Rattle.law_legal.proofs.law_script.CommandSteps.{with_item}
use Rattle.law_legal.proofs.law_script.NamedJobs.{job_len, same_are}
use Rattle.law_legal.proofs.law_script.NamesAgain.{IsNamed, known_again, engine_again}
use Rattle.law_legal.proofs.law_script.VopsAgain.{whole_vop, vops_words, vops_again, no_vop_of, vops_inside, vops_said, vops_differ, vlens_again}
use Rattle.law_legal.proofs.law_script.Declared.{declared_of}
use Rattle.law_legal.proofs.law_script.CommandAgain.{not_more, told, name_solid, not_over, read_runs, write_runs, command_runs}
use Rattle.law_legal.proofs.law_script.LineRuns.{Runs, says, keeps_all}
use Rattle.law_legal.proofs.law_script.Solid.{is_word, small_word, number_small_word}
use Rattle.law_legal.proofs.law_items.Tests.{not_true, neither, both, joint, three_facts, four_facts, le_is, not_long}

-- what holds where a line of a thread is read
pub record HasRoom (s : Script) (n m : ℕ) (item : Item) : Type 0 where
  pub named_ones : IsNamed s
  pub few : n < 4096
  pub short : m + item_len item ≤ 67108864

-- ---- what the thread has mapped

map_runs : (s : Script) (n m : ℕ) (b : BufId) → HasRoom s n m (Alone (mark.Map b)) → eqb s.version 2 ≡ true → is_mark s (thread_mappings_at_end s) (mark.Map b) ≡ true
    → Runs (at phase.Threads s n m) (mark_line s (mark.Map b)) (with_mark_line (at phase.Threads s n m) (mark.Map b))
map_runs s n m b room v k =
    let p = at phase.Threads s n m in
    let h = room.named_ones in
    let f = both (is_declared s b) (not (has_buffer (thread_mappings_at_end s).mapped b)) k in
    let l = line_of.Map (Some b) in
    let words = joint true _ refl (joint (is_word (name_of s b)) true (name_solid s b h f.0) refl) in
    let r : Breaks_none p l = record { numbers = refl; names = refl; places = refl; ranges = refl; bytes = refl; jobs = refl; actors = refl; counts = not_more n room.few; lens = not_long (m + 0) room.short; maps = not_true (has_buffer (thread_mappings_at_end s).mapped b) f.1; pages = refl } in
    told s n m _ (codes "map") (name_of s b ∷ []) l words
    (says p key.Map (codes "map" ∷ name_of s b ∷ []) l refl v words (ap (λ x. made (line_of.Map x)) (known_again s b h f.0)) (keeps_all p l r)) refl

unmap_runs : (s : Script) (n m : ℕ) (b : BufId) → HasRoom s n m (Alone (mark.Unmap b)) → eqb s.version 2 ≡ true → is_declared s b ≡ true → is_mark s (thread_mappings_at_end s) (mark.Unmap b) ≡ true
    → Runs (at phase.Threads s n m) (mark_line s (mark.Unmap b)) (with_mark_line (at phase.Threads s n m) (mark.Unmap b))
unmap_runs s n m b room v d k =
    let p = at phase.Threads s n m in
    let h = room.named_ones in
    let l = line_of.Unmap (Some b) in
    let words = joint true _ refl (joint (is_word (name_of s b)) true (name_solid s b h d) refl) in
    let r : Breaks_none p l = record { numbers = refl; names = refl; places = refl; ranges = refl; bytes = refl; jobs = refl; actors = refl; counts = not_more n room.few; lens = not_long (m + 0) room.short; maps = ap not k; pages = refl } in
    told s n m _ (codes "unmap") (name_of s b ∷ []) l words
    (says p key.Unmap (codes "unmap" ∷ name_of s b ∷ []) l refl v words (ap (λ x. made (line_of.Unmap x)) (known_again s b h d)) (keeps_all p l r)) refl

-- ---- the space

not_past : (end n : ℕ) → nat_le n end ≡ true → nat_lt end n ≡ false
not_past end n h = grind (arith, nat_tests, h)

page_solid : (n : ℕ) → n ≤ 1048576 → is_word (decimal n) ≡ true
page_solid n h = small_word (decimal n) (number_small_word n (omega (arith, h)))

-- pages of the space
record IsPages (va n : ℕ) : Type 0 where
  va_small : va ≤ 1048575
  some : 1 ≤ n
  few : n ≤ 4096
  inside : nat_lt 1048576 (va + n) ≡ false

pages_are : (va n : ℕ) → is_page_range va n ≡ true → IsPages va n
pages_are va n k =
    let f = three_facts (nat_le va 1048575) (is_between 1 4096 n) (nat_le (va + n) 1048576) k in
    let g = between 1 4096 n f.1 in
    record { va_small = le_is va 1048575 f.0; some = g.0; few = g.1; inside = not_past 1048576 (va + n) f.2 }

vmap_runs : (s : Script) (n m : ℕ) (va pages : ℕ) (b : BufId) (off : ℕ) → HasRoom s n m (Alone (mark.Vmap va pages b off)) → eqb s.version 2 ≡ true → is_mark s (thread_mappings_at_end s) (mark.Vmap va pages b off) ≡ true
    → Runs (at phase.Threads s n m) (mark_line s (mark.Vmap va pages b off)) (with_mark_line (at phase.Threads s n m) (mark.Vmap va pages b off))
vmap_runs s n m va pages b off room v k =
    let p = at phase.Threads s n m in
    let h = room.named_ones in
    let f = four_facts (is_page_range va pages) (is_declared s b) (nat_le off 4095) (nat_le (off + pages) (decl s b).pages) k in
    let g = pages_are va pages f.0 in
    let va_small = g.va_small in
    let few = g.few in
    let off_small = le_is off 4095 f.2 in
    let l = line_of.Vmap (Some va) (Some pages) (Some b) (Some off) in
    let words = joint true _ refl (joint (is_word (decimal va)) _ (page_solid va (omega (arith, va_small))) (joint (is_word (decimal pages)) _ (page_solid pages (omega (arith, few)))
    (joint (is_word (name_of s b)) _ (name_solid s b h f.1) (joint (is_word (decimal off)) true (page_solid off (omega (arith, off_small))) refl)))) in
    let r : Breaks_none p l = record {
      numbers = refl;
      names = refl;
      places = refl;
      ranges = neither (nat_lt 1048576 (va + pages)) (nat_lt (decl s b).pages (off + pages)) g.inside (not_past (decl s b).pages (off + pages) f.3);
      bytes = refl;
      jobs = refl;
      actors = refl;
      counts = not_more n room.few;
      lens = not_long (m + 0) room.short;
      maps = refl;
      pages = refl;
    } in
    told s n m _ (codes "vmap") (decimal va ∷ decimal pages ∷ name_of s b ∷ decimal off ∷ []) l words
    (says p key.Vmap (codes "vmap" ∷ decimal va ∷ decimal pages ∷ name_of s b ∷ decimal off ∷ []) l refl v words
    (ap (λ x. made (line_of.Vmap x (number_in 1 4096 (decimal pages)) (known (names_of s.buffers) (name_of s b)) (number_in 0 4095 (decimal off)))) (number_again 0 1048575 va (omega arith) (omega arith) va_small)
    ∙ ap (λ x. made (line_of.Vmap (Some va) x (known (names_of s.buffers) (name_of s b)) (number_in 0 4095 (decimal off)))) (number_again 1 4096 pages (omega arith) g.some few)
    ∙ ap (λ x. made (line_of.Vmap (Some va) (Some pages) x (number_in 0 4095 (decimal off)))) (known_again s b h f.1)
    ∙ ap (λ x. made (line_of.Vmap (Some va) (Some pages) (Some b) x)) (number_again 0 4095 off (omega arith) (omega arith) off_small)) (keeps_all p l r)) refl

vunmap_runs : (s : Script) (n m : ℕ) (va pages : ℕ) → HasRoom s n m (Alone (mark.Vunmap va pages)) → eqb s.version 2 ≡ true → is_mark s (thread_mappings_at_end s) (mark.Vunmap va pages) ≡ true
    → Runs (at phase.Threads s n m) (mark_line s (mark.Vunmap va pages)) (with_mark_line (at phase.Threads s n m) (mark.Vunmap va pages))
vunmap_runs s n m va pages room v k =
    let p = at phase.Threads s n m in
    let g = pages_are va pages k in
    let va_small = g.va_small in
    let few = g.few in
    let l = line_of.Vunmap (Some va) (Some pages) in
    let words = joint true _ refl (joint (is_word (decimal va)) _ (page_solid va (omega (arith, va_small))) (joint (is_word (decimal pages)) true (page_solid pages (omega (arith, few))) refl)) in
    let r : Breaks_none p l = record { numbers = refl; names = refl; places = refl; ranges = g.inside; bytes = refl; jobs = refl; actors = refl; counts = not_more n room.few; lens = not_long (m + 0) room.short; maps = refl; pages = refl } in
    told s n m _ (codes "vunmap") (decimal va ∷ decimal pages ∷ []) l words
    (says p key.Vunmap (codes "vunmap" ∷ decimal va ∷ decimal pages ∷ []) l refl v words
    (ap (λ x. made (line_of.Vunmap x (number_in 1 4096 (decimal pages)))) (number_again 0 1048575 va (omega arith) (omega arith) va_small)
    ∙ ap (λ x. made (line_of.Vunmap (Some va) x)) (number_again 1 4096 pages (omega arith) g.some few)) (keeps_all p l r)) refl

-- ---- jobs with addresses

no_shape : (v : VOp) → is_no_vop (whole_vop v) ≡ false
no_shape (vop.Fill addr len byte) = refl
no_shape (vop.Copy addr from len) = refl
no_shape (vop.Xor addr from len) = refl
no_shape (vop.Probe addr len) = refl

no_number : (v : VOp) → lacks_number_in_vop (whole_vop v) ≡ false
no_number (vop.Fill addr len byte) = refl
no_number (vop.Copy addr from len) = refl
no_number (vop.Xor addr from len) = refl
no_number (vop.Probe addr len) = refl

no_byte : (v : VOp) → lacks_byte_in_vop (whole_vop v) ≡ false
no_byte (vop.Fill addr len byte) = refl
no_byte (vop.Copy addr from len) = refl
no_byte (vop.Xor addr from len) = refl
no_byte (vop.Probe addr len) = refl

job_of : (o : Option (List Op)) (ops : List Op) → is_job_of o ops ≡ true → o ≡ Some ops
job_of None ops h = absurd cc
job_of (Some named) ops h = ap (λ xs. Some xs) (same_are named ops h)

vsubmit_runs : (s : Script) (n m : ℕ) (vs : List VOp) (engine : ℕ) (ops : List Op) → HasRoom s n m (Asks (mark.Vsubmit vs ∷ []) (command.Submit engine ops)) → eqb s.version 2 ≡ true → s.sizes.engines < 2 ^ 64
    → is_command s (command.Submit engine ops) ≡ true → is_vsubmit (thread_mappings_at_end s) vs (command.Submit engine ops) ≡ true
    → Runs (at phase.Threads s n m) (line (addressed_words s vs (command.Submit engine ops))) (with_item (at phase.Threads s n m) (Asks (mark.Vsubmit vs ∷ []) (command.Submit engine ops)))
vsubmit_runs s n m vs engine ops room v small k w =
    let p = at phase.Threads s n m in
    let d = thread_mappings_at_end s in
    let f = four_facts (is_between 1 s.sizes.engines engine) (is_between 1 64 (length ops)) (list_all (is_op s) ops) (nat_le (length (named (command.Submit engine ops))) 16) k in
    let g = four_facts (is_between 1 64 (length vs)) (list_all is_vop vs) (list_all (has_apart_ranges d.regions) vs) (is_job_of (job_by_name d.regions vs) ops) w in
    let e = between 1 s.sizes.engines engine f.0 in
    let count = between 1 64 (length vs) g.0 in
    let xs = map whole_vop vs in
    let l = line_of.Vsubmit (engine_as.Is engine) xs in
    let job = job_of (job_by_name d.regions vs) ops g.3 in
    let names : named_job d xs ≡ Some ops = ap (job_by_name d.regions) (vops_said vs) ∙ job in
    let long : sum_by len_of_vop_word xs ≡ sum_by op_len ops = vlens_again vs ∙ sym (job_len d.regions vs ops job) in
    let some : 0 < length vs = let a = count.0 in omega (arith, a) in
    let words = joint true _ refl (joint (is_word (decimal engine)) _ (small_word (decimal engine) (number_small_word engine (let a = e.1 in omega (arith, a, small)))) (vops_words vs g.1)) in
    let big : is_big_named_job (named_job d xs) ≡ false = ap is_big_named_job names
    ∙ neither (nat_lt 64 (length ops)) (nat_lt 16 (length (first_mentions [] (flat_map buffers_of_op ops)))) (not_over 64 (length ops) (between 1 64 (length ops) f.1).1) (not_over 16 _ (le_is _ 16 f.3)) in
    let r : Breaks_none p l = record {
      numbers = no_vop_of lacks_number_in_vop no_number vs;
      names = refl;
      places = refl;
      ranges = vops_inside vs g.1;
      bytes = no_vop_of lacks_byte_in_vop no_byte vs;
      jobs = neither (list_any (has_buffer_twice d) xs) (is_big_named_job (named_job d xs)) (vops_differ d vs g.2) big;
      actors = refl;
      counts = not_more n room.few;
      lens = ap (λ x. nat_lt 67108864 (m + x)) long ∙ not_long (m + sum_by op_len ops) room.short;
      maps = refl;
      pages = ap is_none names;
    } in
    told s n m _ (codes "vsubmit") (decimal engine ∷ parted (map vop_words vs)) l words
    (says p key.Vsubmit (codes "vsubmit" ∷ decimal engine ∷ parted (map vop_words vs)) l refl v words
    (ap (λ x. vsubmit_of_ops x (vop_words_of (parted (map vop_words vs)))) (engine_again s.sizes.engines engine small f.0)
    ∙ ap (vsubmit_of_ops (engine_as.Is engine)) (vops_again vs some g.1)
    ∙ ap (λ b. cond b None (made l)) (no_vop_of is_no_vop no_shape vs)) (keeps_all p l r))
    (ap (λ ys. with_submit (with_mark p (mark.Vsubmit ys)) (command.Submit engine (unwrap_or (named_job d xs) [])) (sum_by len_of_vop_word xs)) (vops_said vs)
    ∙ ap (λ o. with_submit (with_mark p (mark.Vsubmit vs)) (command.Submit engine (unwrap_or o [])) (sum_by len_of_vop_word xs)) names
    ∙ ap (λ k. with_submit (with_mark p (mark.Vsubmit vs)) (command.Submit engine ops) k) long)

-- ---- a line of a thread

mapped_runs : (s : Script) (n m : ℕ) (c : Command) → HasRoom s n m (Asks (mark.Mapped ∷ []) c) → eqb s.version 2 ≡ true → is_command s c ≡ true → is_way (thread_mappings_at_end s) mark.Mapped (Some c) ≡ true
    → Runs (at phase.Threads s n m) (item_text s (Asks (mark.Mapped ∷ []) c)) (with_item (at phase.Threads s n m) (Asks (mark.Mapped ∷ []) c))
mapped_runs s n m (command.Read b off len) room v k w = read_runs access.Mapped s n m b off len (record { named_ones = room.named_ones; few = room.few; short = room.short }) (v, w) k
mapped_runs s n m (command.Write b off bytes) room v k w = write_runs access.Mapped s n m b off bytes (record { named_ones = room.named_ones; few = room.few; short = room.short }) (v, w) k
mapped_runs s n m (command.New b) room v k w = absurd cc
mapped_runs s n m (command.Free b) room v k w = absurd cc
mapped_runs s n m (command.Pin b) room v k w = absurd cc
mapped_runs s n m (command.Unpin b) room v k w = absurd cc
mapped_runs s n m (command.Find b) room v k w = absurd cc
mapped_runs s n m (command.SwapOut b) room v k w = absurd cc
mapped_runs s n m (command.Move b mem) room v k w = absurd cc
mapped_runs s n m (command.Touch group) room v k w = absurd cc
mapped_runs s n m (command.Submit engine ops) room v k w = absurd cc

addressed_runs : (s : Script) (n m : ℕ) (vs : List VOp) (c : Command) → HasRoom s n m (Asks (mark.Vsubmit vs ∷ []) c) → eqb s.version 2 ≡ true → s.sizes.engines < 2 ^ 64 → is_command s c ≡ true → is_way (thread_mappings_at_end s) (mark.Vsubmit vs) (Some c) ≡ true
    → Runs (at phase.Threads s n m) (item_text s (Asks (mark.Vsubmit vs ∷ []) c)) (with_item (at phase.Threads s n m) (Asks (mark.Vsubmit vs ∷ []) c))
addressed_runs s n m vs (command.Submit engine ops) room v small k w = vsubmit_runs s n m vs engine ops room v small k w
addressed_runs s n m vs (command.New b) room v small k w = absurd cc
addressed_runs s n m vs (command.Free b) room v small k w = absurd cc
addressed_runs s n m vs (command.Pin b) room v small k w = absurd cc
addressed_runs s n m vs (command.Unpin b) room v small k w = absurd cc
addressed_runs s n m vs (command.Find b) room v small k w = absurd cc
addressed_runs s n m vs (command.SwapOut b) room v small k w = absurd cc
addressed_runs s n m vs (command.Write b off bytes) room v small k w = absurd cc
addressed_runs s n m vs (command.Read b off len) room v small k w = absurd cc
addressed_runs s n m vs (command.Move b mem) room v small k w = absurd cc
addressed_runs s n m vs (command.Touch group) room v small k w = absurd cc

way_runs : (s : Script) (n m : ℕ) (way : MarkKind) (c : Command) → HasRoom s n m (Asks (way ∷ []) c) → eqb s.version 2 ≡ true → s.sizes.engines < 2 ^ 64 → is_command s c ≡ true → is_way (thread_mappings_at_end s) way (Some c) ≡ true
    → Runs (at phase.Threads s n m) (item_text s (Asks (way ∷ []) c)) (with_item (at phase.Threads s n m) (Asks (way ∷ []) c))
way_runs s n m mark.Mapped c room v small k w = mapped_runs s n m c room v k w
way_runs s n m (mark.Vsubmit vs) c room v small k w = addressed_runs s n m vs c room v small k w
way_runs s n m (mark.Map b) c room v small k w = absurd cc
way_runs s n m (mark.Unmap b) c room v small k w = absurd cc
way_runs s n m (mark.Vmap va pages b off) c room v small k w = absurd cc
way_runs s n m (mark.Vunmap va pages) c room v small k w = absurd cc

alone_runs : (s : Script) (n m : ℕ) (kind : MarkKind) → HasRoom s n m (Alone kind) → eqb s.version 2 ≡ true → list_all (is_declared s) (thread_mappings_at_end s).mapped ≡ true → is_mark s (thread_mappings_at_end s) kind ≡ true
    → Runs (at phase.Threads s n m) (mark_line s kind) (with_mark_line (at phase.Threads s n m) kind)
alone_runs s n m (mark.Map b) room v there k = map_runs s n m b room v k
alone_runs s n m (mark.Unmap b) room v there k = unmap_runs s n m b room v (declared_of s (thread_mappings_at_end s).mapped b there k) k
alone_runs s n m (mark.Vmap va pages b off) room v there k = vmap_runs s n m va pages b off room v k
alone_runs s n m (mark.Vunmap va pages) room v there k = vunmap_runs s n m va pages room v k
alone_runs s n m mark.Mapped room v there k = absurd cc
alone_runs s n m (mark.Vsubmit vs) room v there k = absurd cc

-- a line of a thread that keeps its rules is read
pub item_runs : (s : Script) (n m : ℕ) (item : Item) → HasRoom s n m item → s.sizes.engines < 2 ^ 64 → list_all (is_declared s) (thread_mappings_at_end s).mapped ≡ true → is_asked s item ≡ true → item_fits s (thread_mappings_at_end s) item ≡ true
    → Runs (at phase.Threads s n m) (item_text s item) (with_item (at phase.Threads s n m) item)
item_runs s n m (Alone kind) room small there k w = let f = both (eqb s.version 2) (is_mark s (thread_mappings_at_end s) kind) w in alone_runs s n m kind room f.0 there f.1
item_runs s n m (Asks [] c) room small there k w = command_runs s n m c (record { named_ones = room.named_ones; few = room.few; short = room.short }) small k
item_runs s n m (Asks (way ∷ []) c) room small there k w = let f = both (eqb s.version 2) (is_way (thread_mappings_at_end s) way (Some c)) w in way_runs s n m way c room f.0 small k f.1
item_runs s n m (Asks (way ∷ other ∷ ways) c) room small there k w = absurd cc
