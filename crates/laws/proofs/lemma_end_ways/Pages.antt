-- What a buffer's pages cost by its memory type, and what the steps of carrying leave of its slots.
use Rattle.std.proofs.Common.{◌≡◌, ℕ, ◌≤◌, ◌+◌, ◌*◌, zero, suc, Bool, true, false, List, [], ◌∷◌, length, length-append, Option, Some, None, refl, ap, arith}
use Rattle.std.specs.Prelude.{map, filter_map, sum_by, count_by, cond, not, option_map}
use Rattle.std.specs.List.{list_all}
use Rattle.std.proofs.lemmas.Bool.{and_parts}
use Rattle.std.proofs.lemmas.List.Sums.{sum_by-cons}
use Rattle.ttm_base.specs.ListWords.{count_from}
use Rattle.ttm_base.specs.declared.Mem.{Mem}
use Rattle.ttm_base.specs.declared.Mem.TheVariants.{System, Tt, Vram}
use Rattle.ttm_base.specs.declared.BufId.{BufId}
use Rattle.ttm_base.specs.declared.JobId.{JobId}
use Rattle.ttm_base.specs.declared.Loc.{Loc}
use Rattle.ttm_base.specs.declared.Loc.TheVariants as loc
use Rattle.journal_model.specs.declared.script.Command.{Command}
use Rattle.journal_model.specs.declared.script.Command.TheVariants as command
use Rattle.journal_model.specs.declared.state.Buffer.{Buffer}
use Rattle.journal_model.specs.declared.state.Job.{Job}
use Rattle.journal_model.specs.declared.state.Ghost.{Ghost}
use Rattle.journal_model.specs.declared.entry.Left.{Left}
use Rattle.journal_model.specs.declared.entry.Left.TheVariants as left
use Rattle.journal_model.specs.rules.State.{changed, target_spans}
use Rattle.journal_model.specs.rules.Places.{is_frame, slot_of, packet_place, name_in_spans}
use Rattle.journal_model.specs.rules.Holds.{has_number}
use Rattle.journal_model.specs.rules.ApplyPages.{bound, unbound}
use Rattle.journal_model.specs.rules.ApplyMoves.{with_job, copy_of_page, move_packets, table_left, moved, ghosts_left, ghost_of_moved}
use Rattle.laws.proofs.law_sound.Measure.{is_slot, slots_to_fill, page_left, left_of_buffer, job_left}
use Rattle.laws.proofs.lemma_end_measure.Slots.{OneFewer, Fewer}
use Rattle.laws.proofs.lemma_end_measure.Sums.{sum_pushed, fewer_kept}

-- ---- costs

pub system_left : (x : Buffer) → x.mem ≡ System → left_of_buffer (Some x) ≡ sum_by page_left x.table
system_left x e = ap (λ z. elim z [ System ↦ sum_by page_left x.table | Tt ↦ 71303168 * length x.table | Vram ↦ 75497472 * length x.table + count_by (λ l. not (is_frame l)) x.table ]) e

pub tt_left : (x : Buffer) → x.mem ≡ Tt → left_of_buffer (Some x) ≡ 71303168 * length x.table
tt_left x e = ap (λ z. elim z [ System ↦ sum_by page_left x.table | Tt ↦ 71303168 * length x.table | Vram ↦ 75497472 * length x.table + count_by (λ l. not (is_frame l)) x.table ]) e

page_most : (l : Loc) → page_left l ≤ 67108865
page_most loc.Zero = omega arith
page_most (loc.Frame f) = omega arith
page_most (loc.Slot k) = omega arith

pub pages_most : (table : List Loc) → sum_by page_left table ≤ 67108865 * length table
pages_most [] = omega arith
pages_most (l ∷ table) = let here = page_most l in let rest = pages_most table in omega (arith, here, rest, sum_by-cons page_left l table)

frame_left : (l : Loc) → is_frame l ≡ true → page_left l ≡ 67108864
frame_left (loc.Frame f) h = refl
frame_left loc.Zero h = cc
frame_left (loc.Slot k) h = cc

-- a table that is full of frames
pub full_left : (table : List Loc) → list_all is_frame table ≡ true → sum_by page_left table ≡ 67108864 * length table
full_left [] h = refl
full_left (l ∷ table) h =
    let p = and_parts (is_frame l) (list_all is_frame table) h in
    let here = frame_left l p.0 in
    let rest = full_left table p.1 in
    omega (arith, here, rest, sum_by-cons page_left l table)

-- ---- tables that are left

pub length-map : {X Y : Type 0} (f : X → Y) (xs : List X) → length (map f xs) ≡ length xs
length-map f [] = refl
length-map f (x ∷ xs) = ap suc (length-map f xs)

length-count : (n from : ℕ) → length (count_from 1 n from) ≡ n
length-count zero from = refl
length-count (suc n) from = ap suc (length-count n (1 + from))

pub length-left : (m : Mem) (table : List Loc) → length (table_left m table) ≡ length table
length-left System table = refl
length-left Tt table = length-map (λ l. loc.Zero) table
length-left Vram table = refl

zero_slots : (table : List Loc) → count_by is_slot (map (λ l. loc.Zero) table) ≡ 0
zero_slots [] = refl
zero_slots (l ∷ table) = let rest = zero_slots table in omega (arith, rest, sum_by-cons (λ y. cond (is_slot y) 1 0) loc.Zero (map (λ l. loc.Zero) table))

left_slots : (m : Mem) (table : List Loc) → count_by is_slot (table_left m table) ≤ count_by is_slot table
left_slots System table = omega arith
left_slots Tt table = let none = zero_slots table in omega (arith, none)
left_slots Vram table = omega arith

-- no slot more is to be filled
pub fewer_to_fill : (cmd : Command) (m : Mem) (x y : Buffer) → y.table ≡ table_left m x.table → slots_to_fill cmd y ≤ slots_to_fill cmd x
fewer_to_fill cmd m x y e = let less = left_slots m x.table in let is : count_by is_slot y.table ≡ count_by is_slot (table_left m x.table) = ap (count_by is_slot) e in by cmd (omega (arith, less, is))
  where
    by : (cmd : Command) → count_by is_slot y.table ≤ count_by is_slot x.table → slots_to_fill cmd y ≤ slots_to_fill cmd x
    by (command.SwapOut b) l = omega arith
    by cmd l = l

-- out of TT each page is one without a frame
others_most : (table : List Loc) → count_by (λ l. not (is_frame l)) table ≤ length table
others_most [] = omega arith
others_most (l ∷ table) = let rest = others_most table in let here = by (not (is_frame l)) in omega (arith, rest, here, sum_by-cons (λ y. cond (not (is_frame y)) 1 0) l table)
  where
    by : (q : Bool) → cond q 1 0 ≤ 1
    by true = omega arith
    by false = omega arith

pub vram_most : (x : Buffer) → x.mem ≡ Vram → left_of_buffer (Some x) ≤ 75497473 * length x.table
vram_most x e =
    let is : left_of_buffer (Some x) ≡ 75497472 * length x.table + count_by (λ l. not (is_frame l)) x.table =
    ap (λ z. elim z [ System ↦ sum_by page_left x.table | Tt ↦ 71303168 * length x.table | Vram ↦ 75497472 * length x.table + count_by (λ l. not (is_frame l)) x.table ]) e in
    let most = others_most x.table in
    omega (arith, is, most)

-- ---- slots

left_numbers : (m : Mem) (table : List Loc) (n : ℕ) → has_number (filter_map slot_of (table_left m table)) n ≡ true → has_number (filter_map slot_of table) n ≡ true
left_numbers System table n h = h
left_numbers Vram table n h = h
left_numbers Tt table n h = absurd (none table h)
  where
    none : (table : List Loc) → has_number (filter_map slot_of (map (λ l. loc.Zero) table)) n ≡ true → ⊥
    none [] h = cc
    none (l ∷ table) h = none table h

pub bound_fewer : (xs : List (Option Buffer)) (b : BufId) → Fewer xs (changed bound xs b)
bound_fewer xs b = fewer_kept (option_map bound) less xs b.0
  where
    less : (o : Option Buffer) → OneFewer o (option_map bound o)
    less None = tt
    less (Some x) = λ n h. h

pub unbound_fewer : (xs : List (Option Buffer)) (b : BufId) → Fewer xs (changed unbound xs b)
unbound_fewer xs b = fewer_kept (option_map unbound) less xs b.0
  where
    less : (o : Option Buffer) → OneFewer o (option_map unbound o)
    less None = tt
    less (Some x) = λ n h. h

pub moved_fewer : (mem : Mem) (job : JobId) (xs : List (Option Buffer)) (b : BufId) → Fewer xs (changed (moved mem job) xs b)
moved_fewer mem job xs b = fewer_kept (option_map (moved mem job)) less xs b.0
  where
    less : (o : Option Buffer) → OneFewer o (option_map (moved mem job) o)
    less None = tt
    less (Some x) = λ n h. left_numbers x.mem x.table n h

-- ---- the job and the ghost of a move

pub move_jobs_left : (job : JobId) (waits : List JobId) (x : Buffer) (mem : Mem) (jobs : List Job) → sum_by job_left (with_job job waits (move_packets x mem) jobs) ≡ sum_by job_left jobs + (length x.table + 1)
move_jobs_left job waits x mem jobs =
    let sum = sum_pushed job_left jobs (record { id = job; waits = waits; packets = move_packets x mem; ran = 0; finished = false }) in
    let len = length-map (λ i. copy_of_page (name_in_spans mem (target_spans mem x) i) (packet_place x i)) (count_from 1 (length x.table) 0) in
    let n = length-count (length x.table) 0 in
    omega (arith, sum, len, n)

pub move_ghosts_left : (x : Buffer) (job : JobId) (l : Left) (ghosts : List Ghost) → length (ghosts_left x job l ghosts) ≤ length ghosts + 1
move_ghosts_left x job left.Now ghosts = omega arith
move_ghosts_left x job (left.Ghost g) ghosts = let both = length-append ghosts (ghost_of_moved x job g ∷ []) in omega (arith, both)
