-- The number of frames in a page table, and its first pages without and with one, after a change.
use Rattle.std.proofs.Common.{◌≡◌, true, false, cond, ℕ, zero, suc, ◌+◌, ◌<◌, ◌≤◌, ◌^◌, min, List, [], ◌∷◌, Bool, Some, None, refl, sym, ◌∙◌, ap, arith, add-one, length, drop, replicate, subst}
use Rattle.std.proofs.lemmas.Bool.{cond_both, ltb-false}
use Rattle.std.proofs.lemmas.Option.{cond_some}
use Rattle.std.proofs.lemmas.List.{length-map, length-replicate}
use Rattle.std.specs.Prelude.{map, nat_lt, not, position, slice_get, slice_set, ◌≢◌}
use Rattle.std.specs.List.{position_or_len}
use Rattle.ttm_base.specs.declared.Loc.{Loc}
use Rattle.ttm_base.specs.declared.Loc.TheVariants.{Frame, Slot, Zero}
use Rattle.journal_model.specs.rules.Places.{is_frame}
use Rattle.journal_model.specs.rules.ApplyPages.{without_frame}
use Rattle.bo_table.proofs.Setting.{length_set}
use Rattle.bo_table.specs.Pages.{frame_count, first_filled, first_unfilled, IsCounted}

-- ---- the first item that passes, once one was set

-- to one that passes
pub first_lower : {X : Type 0} (p : X → Bool) (xs : List X) (i : ℕ) (y : X) → p y ≡ true → i < length xs → position_or_len p (slice_set xs i y) ≡ min (position_or_len p xs) i
first_lower p [] i y t h = absurd (omega arith)
first_lower p (x ∷ xs) zero y t h = rw t (omega arith)
first_lower p (x ∷ xs) (suc i) y t h =
    let more : position_or_len p (slice_set xs i y) ≡ min (position_or_len p xs) i = first_lower p xs i y t (omega arith) in
    elim (p x) as (λ b. cond (not b) (1 + position_or_len p (slice_set xs i y)) 0 ≡ min (cond (not b) (1 + position_or_len p xs) 0) (suc i)) [ true ↦ omega arith | false ↦ omega arith ]

-- to one that doesn't, elsewhere
pub first_other : {X : Type 0} (p : X → Bool) (xs : List X) (i : ℕ) (y : X) → p y ≡ false → i ≢ position_or_len p xs → position_or_len p (slice_set xs i y) ≡ position_or_len p xs
first_other p [] i y t h = refl
first_other p (x ∷ xs) zero y t h =
    rw t (elim (p x) as (λ b. (0 ≢ cond (not b) (1 + position_or_len p xs) 0) → 1 + position_or_len p xs ≡ cond (not b) (1 + position_or_len p xs) 0) [ true ↦ λ n. absurd (n refl) | false ↦ λ n. refl ] h)
first_other p (x ∷ xs) (suc i) y t h =
    elim (p x) as (λ b. (suc i ≢ cond (not b) (1 + position_or_len p xs) 0) → cond (not b) (1 + position_or_len p (slice_set xs i y)) 0 ≡ cond (not b) (1 + position_or_len p xs) 0) [
      | true ↦ λ n. refl
      | false ↦ λ n. ap (λ k. 1 + k) (first_other p xs i y t (λ e. n (omega arith)))
    ] h

raised : {X : Type 0} (p : X → Bool) (xs : List X) (i : ℕ) (y : X) → p y ≡ false → i ≡ position_or_len p xs → i < length xs → position_or_len p (slice_set xs i y) ≡ suc i + position_or_len p (drop (suc i) xs)
raised p [] i y t e h = absurd (omega arith)
raised p (x ∷ xs) zero y t e h = rw t refl
raised p (x ∷ xs) (suc i) y t e h =
    elim (p x) as (λ b. suc i ≡ cond (not b) (1 + position_or_len p xs) 0 → cond (not b) (1 + position_or_len p (slice_set xs i y)) 0 ≡ suc (suc i) + position_or_len p (drop (suc i) xs)) [
      | true ↦ λ n. absurd (omega arith)
      | false ↦ λ n. let more : position_or_len p (slice_set xs i y) ≡ suc i + position_or_len p (drop (suc i) xs) = raised p xs i y t (omega arith) (omega arith) in omega arith
    ] e

-- to one that doesn't, where it was the first
pub first_raised : {X : Type 0} (p : X → Bool) (xs : List X) (i : ℕ) (y : X) → p y ≡ false → i ≡ position_or_len p xs → i < length xs → position_or_len p (slice_set xs i y) ≡ i + 1 + position_or_len p (drop (i + 1) xs)
first_raised p xs i y t e h = subst (λ (n : ℕ). position_or_len p (slice_set xs i y) ≡ n + position_or_len p (drop n xs)) (sym (add-one i)) (raised p xs i y t e h)

-- the first item that passes, or the end
pub first_within : {X : Type 0} (p : X → Bool) (xs : List X) → position_or_len p xs ≤ length xs
first_within p [] = omega arith
first_within p (x ∷ xs) =
    let more : position_or_len p xs ≤ length xs = first_within p xs in
    elim (p x) as (λ b. cond (not b) (1 + position_or_len p xs) 0 ≤ suc (length xs)) [ true ↦ omega arith | false ↦ omega arith ]

pub first_is_some : {X : Type 0} (p : X → Bool) (xs : List X) (i : ℕ) → Some i ≡ position p xs → i ≡ position_or_len p xs
first_is_some p xs i e = sym (cond_some (nat_lt (position_or_len p xs) (length xs)) (position_or_len p xs) i (sym e)).1

pub first_is_none : {X : Type 0} (p : X → Bool) (xs : List X) → None ≡ position p xs → length xs ≡ position_or_len p xs
first_is_none p xs e =
    let within = first_within p xs in
    cond_both (nat_lt (position_or_len p xs) (length xs)) (Some (position_or_len p xs)) None (λ o. None ≡ o → length xs ≡ position_or_len p xs)
    (λ t n. absurd cc) (λ f n. let past : length xs ≤ position_or_len p xs = ltb-false (position_or_len p xs) (length xs) f in omega arith) e

-- ---- how many have frames

count_cons : (l : Loc) (places : List Loc) → frame_count (l ∷ places) ≡ frame_count places + cond (is_frame l) 1 0
count_cons (Frame f) places = omega arith
count_cons (Slot k) places = omega arith
count_cons Zero places = omega arith

-- a page gets another place
pub count_set : (places : List Loc) (page : ℕ) (old new : Loc) → slice_get places page ≡ Some old → frame_count (slice_set places page new) + cond (is_frame old) 1 0 ≡ frame_count places + cond (is_frame new) 1 0
count_set [] page old new h = cc
count_set (l ∷ places) zero old new h =
    let e : l ≡ old = cc in
    let same : cond {A = ℕ} (is_frame l) 1 0 ≡ cond {A = ℕ} (is_frame old) 1 0 = ap (λ (x : Loc). cond {A = ℕ} (is_frame x) 1 0) e in
    omega (arith, count_cons new places, count_cons l places)
count_set (l ∷ places) (suc page) old new h =
    omega (arith, count_cons l (slice_set places page new), count_cons l places, count_set places page old new h)

-- no more than there are
pub count_within : (places : List Loc) → frame_count places ≤ length places
count_within [] = omega arith
count_within (Frame f ∷ places) = omega (arith, count_within places)
count_within (Slot k ∷ places) = omega (arith, count_within places)
count_within (Zero ∷ places) = omega (arith, count_within places)

-- one that gives up its frame is counted
pub frame_counts : (places : List Loc) (page : ℕ) (l : Loc) → slice_get places page ≡ Some l → is_frame l ≡ true → 1 ≤ frame_count places
frame_counts places page l here t =
    let one : cond {A = ℕ} (is_frame l) 1 0 ≡ 1 = rw t refl in
    omega (arith, count_set places page l Zero here)

-- one that gets a frame has room in the count
pub frame_fits : (places : List Loc) (page : ℕ) (l : Loc) → slice_get places page ≡ Some l → is_frame l ≡ false → frame_count places + 1 ≤ length places
frame_fits places page l here t =
    let none : cond {A = ℕ} (is_frame l) 1 0 ≡ 0 = rw t refl in
    omega (arith, count_set places page l (Frame 0) here, count_within (slice_set places page (Frame 0)), length_set places page (Frame 0))

-- ---- whole tables without a frame

-- where none has one, the first that has one is the end
pub none_filled : (places : List Loc) → frame_count places ≡ 0 → first_filled places ≡ length places
none_filled [] h = refl
none_filled (Frame f ∷ places) h = absurd (omega arith)
none_filled (Slot k ∷ places) h = omega (arith, none_filled places h)
none_filled (Zero ∷ places) h = omega (arith, none_filled places h)

zeros : (pages : ℕ) → frame_count (replicate pages Zero) ≡ 0
zeros zero = refl
zeros (suc pages) = zeros pages

first_zero : (pages : ℕ) → first_unfilled (replicate pages Zero) ≡ 0
first_zero zero = refl
first_zero (suc pages) = refl

pub zeros_counted : (pages : ℕ) → pages < 2 ^ 32 → IsCounted (replicate pages Zero) 0 0 pages
zeros_counted pages h = record { frames_are = sym (zeros pages); unfilled_is = sym (first_zero pages); filled_is = sym (none_filled (replicate pages Zero) (zeros pages) ∙ length-replicate pages Zero); short = rw (length-replicate pages Zero) h }

dropped : (places : List Loc) → frame_count (map without_frame places) ≡ 0
dropped [] = refl
dropped (Frame f ∷ places) = dropped places
dropped (Slot k ∷ places) = dropped places
dropped (Zero ∷ places) = dropped places

first_dropped : (places : List Loc) → first_unfilled (map without_frame places) ≡ 0
first_dropped [] = refl
first_dropped (Frame f ∷ places) = refl
first_dropped (Slot k ∷ places) = refl
first_dropped (Zero ∷ places) = refl

pub dropped_counted : (places : List Loc) → length places < 2 ^ 32 → IsCounted (map without_frame places) 0 0 (length places)
dropped_counted places h = record { frames_are = sym (dropped places); unfilled_is = sym (first_dropped places); filled_is = sym (none_filled (map without_frame places) (dropped places) ∙ length-map places without_frame); short = rw (length-map places without_frame) h }

cleared : (places : List Loc) → frame_count (map (λ l. Zero) places) ≡ 0
cleared [] = refl
cleared (l ∷ places) = cleared places

first_cleared : (places : List Loc) → first_unfilled (map (λ l. Zero) places) ≡ 0
first_cleared [] = refl
first_cleared (l ∷ places) = refl

pub cleared_counted : (places : List Loc) → length places < 2 ^ 32 → IsCounted (map (λ l. Zero) places) 0 0 (length places)
cleared_counted places h = record { frames_are = sym (cleared places); unfilled_is = sym (first_cleared places); filled_is = sym (none_filled (map (λ l. Zero) places) (cleared places) ∙ length-map places (λ (l : Loc). Zero)); short = rw (length-map places (λ (l : Loc). Zero)) h }
