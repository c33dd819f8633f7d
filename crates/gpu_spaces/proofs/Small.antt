-- What holds of the mappings of a space holds of them after a request.
use Rattle.std.proofs.Common.{◌≡◌, ℕ, ◌+◌, ◌-◌, ◌<◌, ◌≤◌, List, [], ◌∷◌, ◌++◌, Option, Some, None, arith, inl, inr, sym, ap, ◌∙◌}
use mathlib.Core.Path.{fun_ext}
use Rattle.std.specs.Prelude.{filter, flat_map, length, nat_lt, option_map, option_to_list, IfSome, IsTrue, Result, Ok, Err, OnOk, OnErr}
use Rattle.std.proofs.lemmas.Bool.{cases_Bool, ltb-true, lt-ltb}
use Rattle.ttm_base.specs.declared.Span.{Span}
use Rattle.ttm_base.specs.declared.BufId.{BufId}
use Rattle.ttm_base.specs.Holes.{has_page}
use Rattle.journal_model.specs.declared.script.MarkKind.{MarkKind}
use Rattle.journal_model.specs.declared.script.MarkKind.TheVariants as mark
use Rattle.journal_model.specs.declared.space.VStep.{VStep}
use Rattle.journal_model.specs.marks.Spaces.{Region, new_region, regions_after, regions_space, after_request, has_pages, steps_of, is_remap}
use Rattle.law_legal.specs.law_spaces.Rising.{IsRising}
use Rattle.law_legal.specs.law_spaces.Sides.{head_of, tail_of, sides}
use Rattle.law_legal.proofs.law_spaces.Sides.{after_is_sides, pages_of_rising}
use Rattle.law_legal.proofs.law_spaces.Points.{after_there}
use Rattle.law_legal.proofs.law_spaces.Remaps.{remaps_are_few}
use Rattle.gpu_spaces.specs.declared.mappings.Mapping.{Mapping}
use Rattle.gpu_spaces.specs.Kept.{region_of}
use Rattle.gpu_spaces.specs.Regions.{AreSmall, IsKept}
use Rattle.gpu_spaces.proofs.Changing.{having, found_small, rising_sides}
use Rattle.gpu_spaces.proofs.Meeting.{new_is}

small_append : (xs ys : List Region) → AreSmall xs → AreSmall ys → AreSmall (xs ++ ys)
small_append [] ys h k = k
small_append (x ∷ xs) ys h k = (h.0, h.1, small_append xs ys h.2 k)

small_heads : (range : Span) (rs : List Region) → AreSmall rs → AreSmall (flat_map (head_of range) rs)
small_heads range [] h = tt
small_heads range (r ∷ rs) h = elim (cases_Bool (nat_lt r.span.start range.start)) [
  | inl e ↦
      let a : r.span.end ≤ 1048576 = h.0 in
      let b : r.off + (r.span.end - r.span.start) ≤ 4096 = h.1 in
      rw e (omega arith, omega arith, small_heads range rs h.2)
  | inr e ↦ rw e (small_heads range rs h.2)
]

small_tails : (range : Span) (rs : List Region) → AreSmall rs → AreSmall (flat_map (tail_of range) rs)
small_tails range [] h = tt
small_tails range (r ∷ rs) h = elim (cases_Bool (nat_lt range.end r.span.end)) [
  | inl e ↦
      let l : range.end < r.span.end = ltb-true range.end r.span.end e in
      let a : r.span.end ≤ 1048576 = h.0 in
      let b : r.off + (r.span.end - r.span.start) ≤ 4096 = h.1 in
      rw e (omega arith, omega arith, small_tails range rs h.2)
  | inr e ↦ rw e (small_tails range rs h.2)
]

small_new : (range : Span) (new : Option Mapping) → range.end ≤ 1048576 → IfSome new (λ m. m.span ≡ range) → IfSome new (λ m. m.off + (m.span.end - m.span.start) ≤ 4096) →
    AreSmall (option_to_list (option_map region_of new))
small_new range None l h k = tt
small_new range (Some m) l h k = let e : m.span.end ≡ range.end = ap (λ (x : Span). x.end) h in (omega arith, k, tt)

pub kept_sides : (range : Span) (new : Option Mapping) (rs : List Region) → range.start < range.end → range.end ≤ 1048576 → IfSome new (λ m. m.span ≡ range) → IfSome new (λ m. m.off + (m.span.end - m.span.start) ≤ 4096) →
    IsKept rs → IsKept (sides range (option_to_list (option_map region_of new)) rs)
kept_sides range new rs w l h k kept = record {
  rising = rising_sides range (option_map region_of new) rs w (new_is range new h) kept.rising;
  small =
      small_append (flat_map (head_of range) rs) (option_to_list (option_map region_of new) ++ flat_map (tail_of range) rs) (small_heads range rs kept.small)
      (small_append (option_to_list (option_map region_of new)) (flat_map (tail_of range) rs) (small_new range new l h k) (small_tails range rs kept.small));
}

-- the pages of the mapping that has a page are few
pub around_is_small : (page : ℕ) (rs : List Region) (o : Option Mapping) (m : Mapping) → AreSmall rs → option_map region_of o ≡ having page rs → o ≡ Some m → m.off + (m.span.end - m.span.start) ≤ 4096
around_is_small page rs o m s e h = found_small (λ r. has_page page r.span) rs (region_of m) s (sym e ∙ ap (option_map region_of) h)

pub on_ok : {T E : Type 0} (r : Result T E) (P Q : Type 0) → (P → Q) → OnOk r P → OnOk r Q
on_ok (Ok x) P Q f p = f p
on_ok (Err e) P Q f p = tt

some_pages : (va n : ℕ) → 1 ≤ n → va < va + n
some_pages va n l = omega arith

pub sides_are_mapped : (now rs : List Region) (va n : ℕ) (b : BufId) (off : ℕ) → 1 ≤ n → IsRising rs → now ≡ sides (record { start = va; end = va + n }) (new_region (mark.Vmap va n b off)) rs → now ≡ regions_after rs (mark.Vmap va n b off)
sides_are_mapped now rs va n b off l r e = e ∙ sym (after_is_sides rs (mark.Vmap va n b off) (some_pages va n l) (pages_of_rising rs r))

pub sides_are_unmapped : (now rs : List Region) (va n : ℕ) → 1 ≤ n → IsRising rs → now ≡ sides (record { start = va; end = va + n }) [] rs → now ≡ regions_after rs (mark.Vunmap va n)
sides_are_unmapped now rs va n l r e = e ∙ sym (after_is_sides rs (mark.Vunmap va n) (some_pages va n l) (pages_of_rising rs r))

-- ---- what a request does to each page, and how many parts it leaves

pub asks_for_pages : (n : ℕ) → 1 ≤ n → IsTrue (nat_lt 0 n)
asks_for_pages n l = lt-ltb 0 n (omega (arith, l))

pub pages_are_given : (now rs : List Region) (q : MarkKind) → IsTrue (has_pages q) → IsRising rs → now ≡ regions_after rs q → regions_space now ≡ after_request (regions_space rs) q
pages_are_given now rs q p r e = ap regions_space e ∙ fun_ext (λ page. after_there rs q page p r)

pub few_remaps : {T E : Type 0} (result : Result T E) (steps : List VStep) (rs : List Region) (q : MarkKind) → IsRising rs → OnOk result (steps ≡ steps_of rs q) → OnErr result (steps ≡ []) → length (filter is_remap steps) ≤ 2
few_remaps (Ok x) steps rs q r e n = let few = remaps_are_few rs q r in let same : length (filter is_remap steps) ≡ length (filter is_remap (steps_of rs q)) = ap (λ xs. length (filter is_remap xs)) e in omega (arith, few, same)
few_remaps (Err x) steps rs q r e n = let same : length (filter is_remap steps) ≡ 0 = ap (λ xs. length (filter is_remap xs)) n in omega (arith, same)
