-- A page table of which one page changes.
use Rattle.std.proofs.Common.{◌≡◌, ℕ, ◌<◌, ◌≤◌, ◌+◌, ◌*◌, zero, suc, Bool, true, false, List, [], ◌∷◌, length, Option, Some, None, refl, sym, ap, ap₂, subst, arith, ⊎_elim}
use Rattle.std.specs.Prelude.{slice_get, slice_set, filter_map, sum_by, count_by, cond, not, nat_eq, nat_lt, position, unwrap_or, option_map, ◌&&◌, ◌||◌}
use Rattle.std.specs.List.{position_or_len, prefix_len}
use Rattle.std.specs.List.{list_any, list_all}
use Rattle.std.proofs.lemmas.Bool.{or_cases, or_left, or_right}
use Rattle.std.proofs.lemmas.Bool.Decides.{nat_tests}
use Rattle.std.proofs.Math.ListN.{length-set}
use Rattle.ttm_base.specs.declared.Mem.TheVariants.{System, Tt, Vram}
use Rattle.ttm_base.specs.declared.BufId.{BufId}
use Rattle.ttm_base.specs.declared.Loc.{Loc}
use Rattle.ttm_base.specs.declared.Loc.TheVariants as loc
use Rattle.journal_model.specs.declared.script.Script.{Script}
use Rattle.journal_model.specs.declared.script.Command.{Command}
use Rattle.journal_model.specs.declared.script.Command.TheVariants as command
use Rattle.journal_model.specs.declared.state.Buffer.{Buffer}
use Rattle.journal_model.specs.rules.Places.{is_frame, slot_of}
use Rattle.journal_model.specs.rules.Holds.{has_number}
use Rattle.journal_model.specs.rules.Ready.{meets, has_some_target, has_all_frames}
use Rattle.journal_model.specs.rules.PageSteps.{page_to_fill, first_frame_page}
use Rattle.journal_model.specs.rules.ApplyPages.{with_loc}
use Rattle.laws.proofs.law_sound.Measure.{carries_left, steps_left, is_slot, slots_to_fill, page_left, left_of_buffer}
use Rattle.laws.proofs.law_sound.MeasureFalls.{sum_set}
use Rattle.laws.proofs.lemma_end_measure.Giving.{vram_left}
use Rattle.laws.proofs.lemma_end_measure.Slots.{OneFewer}

-- ---- the first page that passes

-- the first element that passes
pub record Passing {X : Type 0} (p : X → Bool) (xs : List X) (i : ℕ) : Type 0 where
  pub element : X
  pub at : slice_get xs i ≡ Some element
  pub passes : p element ≡ true
  pub inside : i < length xs

first_at : {X : Type 0} (p : X → Bool) (xs : List X) → list_any p xs ≡ true → Passing p xs (position_or_len p xs)
first_at p [] h = cc
first_at {X = X} p (x ∷ xs) h = by (p x) refl h (λ k. first_at p xs k)
  where
    by : (q : Bool) → p x ≡ q → (q || list_any p xs) ≡ true → (list_any p xs ≡ true → Passing p xs (position_or_len p xs)) → Passing p (x ∷ xs) (cond (not q) (1 + prefix_len (λ z. not (p z)) xs) 0)
    by true e k rest = record { element = x; at = refl; passes = e; inside = omega arith }
    by false e k rest =
        let r = rest k in
        let l = r.inside in
        let on : suc (position_or_len p xs) ≡ 1 + position_or_len p xs = omega arith in
        record { element = r.element; at = subst (λ n. slice_get (x ∷ xs) n ≡ Some r.element) on r.at; passes = r.passes; inside = omega (arith, l) }

pub position_at : {X : Type 0} (p : X → Bool) (xs : List X) → list_any p xs ≡ true → Passing p xs (unwrap_or (position p xs) 0)
position_at p xs h =
    let r = first_at p xs h in
    let t : nat_lt (position_or_len p xs) (length xs) ≡ true = below (position_or_len p xs) (length xs) r.inside in
    subst (Passing p xs) (sym (ap (λ q. unwrap_or (cond q (Some (position_or_len p xs)) None) 0) t)) r
  where
    below : (a b : ℕ) → a < b → nat_lt a b ≡ true
    below a b l = grind (arith, nat_tests)

some_fails : {X : Type 0} (p : X → Bool) (xs : List X) → list_all p xs ≡ false → list_any (λ x. not (p x)) xs ≡ true
some_fails p [] h = cc
some_fails p (x ∷ xs) h = by (p x) h (λ k. some_fails p xs k)
  where
    by : (q : Bool) → (q && list_all p xs) ≡ false → (list_all p xs ≡ false → list_any (λ z. not (p z)) xs ≡ true) → (not q || list_any (λ z. not (p z)) xs) ≡ true
    by true k rest = rest k
    by false k rest = refl

-- the page to fill, and the first page with a frame
pub to_fill : (x : Buffer) → has_all_frames x ≡ false → Passing (λ l. not (is_frame l)) x.table (page_to_fill x)
to_fill x h = position_at (λ l. not (is_frame l)) x.table (some_fails is_frame x.table h)

pub first_frame : (x : Buffer) → list_any is_frame x.table ≡ true → Passing is_frame x.table (first_frame_page x)
first_frame x h = position_at is_frame x.table h

-- ---- steps and slots

meets_same : (script : Script) (cmd : Command) (b : BufId) (x : Buffer) (page : ℕ) (l : Loc) → meets script cmd b (with_loc page l x) ≡ meets script cmd b x
meets_same script (command.New c) b x page l = refl
meets_same script cmd b x page l = refl

steps_same : (script : Script) (cmd : Command) (b : BufId) (x : Buffer) (page : ℕ) (l : Loc) → steps_left script cmd b (with_loc page l x) ≡ steps_left script cmd b x
steps_same script cmd b x page l =
    ap (λ q. elim (not (has_some_target x) && q) [ true ↦ 0 | false ↦ elim (has_some_target x) [ true ↦ carries_left x | false ↦ 4 ] ]) (meets_same script cmd b x page l)

abbrev pub is_swap_out : Command → Bool
is_swap_out (command.SwapOut b) = true
is_swap_out _ = false

pub slots_fall : (cmd : Command) (x y : Buffer) (n : ℕ) → is_swap_out cmd ≡ false → count_by is_slot y.table + n ≤ count_by is_slot x.table → slots_to_fill cmd y + n ≤ slots_to_fill cmd x
slots_fall (command.SwapOut b) x y n q h = cc
slots_fall cmd x y n q h = h

pub slots_keep : (cmd : Command) (x y : Buffer) → count_by is_slot y.table ≤ count_by is_slot x.table → slots_to_fill cmd y ≤ slots_to_fill cmd x
slots_keep cmd x y h = by (is_swap_out cmd) refl
  where
    none : (d : Command) → is_swap_out d ≡ true → slots_to_fill d y ≤ slots_to_fill d x
    none (command.SwapOut b) q = omega arith
    none cmd q = cc

    by : (q : Bool) → is_swap_out cmd ≡ q → slots_to_fill cmd y ≤ slots_to_fill cmd x
    by true q = none cmd q
    by false q = let less = slots_fall cmd x y 0 q (omega (arith, h)) in omega (arith, less)

-- what a named buffer still costs, but for its slots
pub named_same : (script : Script) (cmd : Command) (b : BufId) (x : Buffer) (page : ℕ) (l : Loc) →
    (5 + 6291456 * steps_left script cmd b (with_loc page l x)) * length (slice_set x.table page l) ≡ (5 + 6291456 * steps_left script cmd b x) * length x.table
named_same script cmd b x page l = ap₂ (λ a n. (5 + 6291456 * a) * n) (steps_same script cmd b x page l) (length-set x.table page l)

-- ---- one page set

system_left : (y : Buffer) → y.mem ≡ System → left_of_buffer (Some y) ≡ sum_by page_left y.table
system_left y e = ap (λ z. elim z [ System ↦ sum_by page_left y.table | Tt ↦ 71303168 * length y.table | Vram ↦ 75497472 * length y.table + count_by (λ l. not (is_frame l)) y.table ]) e

module _ (x : Buffer) (page : ℕ) (a l : Loc) (at : slice_get x.table page ≡ Some a) where
  pub system_set : x.mem ≡ System → left_of_buffer (Some (with_loc page l x)) + page_left a ≡ left_of_buffer (Some x) + page_left l
  system_set e =
      let now = system_left (with_loc page l x) e in
      let was = system_left x e in
      let sum = sum_set page_left x.table page a l at in
      omega (arith, now, was, sum)

  pub vram_set : x.mem ≡ Vram → left_of_buffer (Some (with_loc page l x)) + cond (not (is_frame a)) 1 0 ≡ left_of_buffer (Some x) + cond (not (is_frame l)) 1 0
  vram_set e =
      let now = vram_left (with_loc page l x) e in
      let was = vram_left x e in
      let len = length-set x.table page l in
      let sum = sum_set (λ z. cond (not (is_frame z)) 1 0) x.table page a l at in
      omega (arith, now, was, len, sum)

  pub slots_set : count_by is_slot (slice_set x.table page l) + cond (is_slot a) 1 0 ≡ count_by is_slot x.table + cond (is_slot l) 1 0
  slots_set = sum_set (λ z. cond (is_slot z) 1 0) x.table page a l at

-- a frame in the place of what was there holds no slot more
pub frame_fewer : (page frame : ℕ) (o : Option Buffer) → OneFewer o (option_map (with_loc page (loc.Frame frame)) o)
frame_fewer page frame None = tt
frame_fewer page frame (Some x) = λ n h. slots x.table page n h
  where
    slots : (table : List Loc) (i n : ℕ) → has_number (filter_map slot_of (slice_set table i (loc.Frame frame))) n ≡ true → has_number (filter_map slot_of table) n ≡ true
    slots [] i n h = h
    slots (loc.Zero ∷ table) zero n h = h
    slots (loc.Frame f ∷ table) zero n h = h
    slots (loc.Slot k ∷ table) zero n h = or_right (nat_eq n k) (has_number (filter_map slot_of table) n) h
    slots (loc.Zero ∷ table) (suc i) n h = slots table i n h
    slots (loc.Frame f ∷ table) (suc i) n h = slots table i n h
    slots (loc.Slot k ∷ table) (suc i) n h =
        ⊎_elim (λ q. or_left (nat_eq n k) (has_number (filter_map slot_of table) n) q) (λ q. or_right (nat_eq n k) (has_number (filter_map slot_of table) n) (slots table i n q))
        (or_cases (nat_eq n k) (has_number (filter_map slot_of (slice_set table i (loc.Frame frame))) n) h)
