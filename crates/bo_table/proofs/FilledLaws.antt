-- Whether some page or each has a frame, from the count and the first page without one.
use Rattle.std.proofs.Common.{◌≡◌, true, false, cond, ℕ, ◌<◌, List, [], ◌∷◌, Bool, Some, None, refl, sym, ◌∙◌, ap, arith, length}
use Rattle.std.specs.Prelude.{is_none, nat_lt, not, position}
use Rattle.std.specs.List.{list_all, list_any}
use Rattle.std.proofs.lemmas.Bool.{ltb_from_iff}
use Rattle.ttm_base.specs.declared.Loc.{Loc}
use Rattle.ttm_base.specs.declared.Loc.TheVariants.{Frame, Slot, Zero}
use Rattle.journal_model.specs.rules.Places.{is_frame}
use Rattle.bo_table.specs.Pages.{frame_count, has_no_frame, first_unfilled}

counted : (places : List Loc) → list_any is_frame places ≡ true → 0 < frame_count places
counted [] t = absurd cc
counted (Frame f ∷ places) t = omega arith
counted (Slot k ∷ places) t = counted places t
counted (Zero ∷ places) t = counted places t

counts : (places : List Loc) → 0 < frame_count places → list_any is_frame places ≡ true
counts [] h = absurd (omega arith)
counts (Frame f ∷ places) h = refl
counts (Slot k ∷ places) h = counts places h
counts (Zero ∷ places) h = counts places h

-- some page has a frame exactly where the count isn't 0
pub some_frame : (places : List Loc) → nat_lt 0 (frame_count places) ≡ list_any is_frame places
some_frame places = sym (ltb_from_iff {b = list_any is_frame places} (counted places, counts places))

missing : (places : List Loc) → not (list_all is_frame places) ≡ true → first_unfilled places < length places
missing [] t = absurd cc
missing (Frame f ∷ places) t = omega (arith, missing places t)
missing (Slot k ∷ places) t = omega arith
missing (Zero ∷ places) t = omega arith

misses : (places : List Loc) → first_unfilled places < length places → not (list_all is_frame places) ≡ true
misses [] h = absurd (omega arith)
misses (Frame f ∷ places) h = misses places (omega arith)
misses (Slot k ∷ places) h = refl
misses (Zero ∷ places) h = refl

pub not_not : (b : Bool) → not (not b) ≡ b
not_not true = refl
not_not false = refl

none_if : (b : Bool) (n : ℕ) → is_none (cond b (Some n) None) ≡ not b
none_if true n = refl
none_if false n = refl

-- each page has one exactly where there is no page to fill
pub all_frames : (places : List Loc) → is_none (position has_no_frame places) ≡ list_all is_frame places
all_frames places =
    let some : not (list_all is_frame places) ≡ nat_lt (first_unfilled places) (length places) =
    ltb_from_iff {b = not (list_all is_frame places)} (missing places, misses places) in
    none_if (nat_lt (first_unfilled places) (length places)) (first_unfilled places) ∙ ap not (sym some) ∙ not_not (list_all is_frame places)
