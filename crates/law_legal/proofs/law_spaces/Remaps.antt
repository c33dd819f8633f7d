-- A request leaves parts of at most two mappings: one that has its start, and one that has its end.
use Rattle.std.proofs.Common.{◌≡◌, ◌+◌, ◌<◌, ◌≤◌, true, false, List, [], ◌∷◌, ◌++◌, length, refl, ap, ◌∙◌, arith, inl, inr}
use Rattle.std.specs.Prelude.{map, filter, nat_le}
use Rattle.std.proofs.lemmas.Bool.{cases_Bool, le-leb, leb-true, leb-false}
use Rattle.std.proofs.lemmas.List.Elements.{filter-append}
use Rattle.ttm_base.specs.declared.Span.{Span}
use Rattle.ttm_base.specs.Reach.{is_inside}
use Rattle.journal_model.specs.declared.script.MarkKind.{MarkKind}
use Rattle.journal_model.specs.declared.space.VStep.{VStep}
use Rattle.journal_model.specs.marks.Spaces.{Region, range_of, new_region, does_meet, step_at, map_step, steps_of, is_remap}
use Rattle.law_legal.specs.law_spaces.Rising.{IsRising, IsPast}
use Rattle.law_legal.proofs.law_spaces.Sides.{meets_not}
use Rattle.law_legal.proofs.law_spaces.Order.{past_lower}

-- the steps that leave a part
abbrev pub remaps : Span → List Region → List VStep
remaps range rs = filter is_remap (map (step_at range) (filter (does_meet range) rs))

passed : (range : Span) (r : Region) (rs : List Region) → does_meet range r ≡ false → length (remaps range (r ∷ rs)) ≡ length (remaps range rs)
passed range r rs e = rw e refl

gone : (range : Span) (r : Region) (rs : List Region) → is_inside range r.span ≡ true → length (remaps range (r ∷ rs)) ≡ length (remaps range rs)
gone range r rs e = elim (cases_Bool (does_meet range r)) [
  | inl t ↦ rw (t, e) refl
  | inr f ↦ passed range r rs f
]

one_more : (range : Span) (r : Region) (rs : List Region) → length (remaps range (r ∷ rs)) ≤ 1 + length (remaps range rs)
one_more range r rs = elim (cases_Bool (does_meet range r)) [
  | inl t ↦ elim (cases_Bool (is_inside range r.span)) [
    | inl e ↦ let h = gone range r rs e in omega (arith, h)
    | inr e ↦ rw (t, e) (omega arith)
  ]
  | inr f ↦ let h = passed range r rs f in omega (arith, h)
]

none_behind : (range : Span) (rs : List Region) → IsPast range.end rs → length (remaps range rs) ≡ 0
none_behind range [] p = refl
none_behind range (r ∷ rs) p = passed range r rs (meets_not range r (inr p.0)) ∙ none_behind range rs p.1

one_from_start : (range : Span) (rs : List Region) → IsPast range.start rs → IsRising rs → length (remaps range rs) ≤ 1
one_from_start range [] p h = omega arith
one_from_start range (r ∷ rs) p h = elim (cases_Bool (nat_le r.span.end range.end)) [
  | inl e ↦
      let inside : is_inside range r.span ≡ true = rw (le-leb range.start r.span.start p.0, e) refl in
      let g = gone range r rs inside in
      let rest = one_from_start range rs p.1 h.2 in
      omega (arith, g, rest)
  | inr e ↦
      let l : range.end < r.span.end = leb-false r.span.end range.end e in
      let m = one_more range r rs in
      let rest = none_behind range rs (past_lower range.end r.span.end rs (omega arith) h.1) in
      omega (arith, m, rest)
]

two_at_most : (range : Span) (rs : List Region) → IsRising rs → length (remaps range rs) ≤ 2
two_at_most range [] h = omega arith
two_at_most range (r ∷ rs) h = elim (cases_Bool (nat_le r.span.end range.start)) [
  | inl e ↦
      let l : r.span.end ≤ range.start = leb-true r.span.end range.start e in
      let g = passed range r rs (meets_not range r (inl l)) in
      let rest = two_at_most range rs h.2 in
      omega (arith, g, rest)
  | inr e ↦
      let l : range.start < r.span.end = leb-false r.span.end range.start e in
      let m = one_more range r rs in
      let rest = one_from_start range rs (past_lower range.start r.span.end rs (omega arith) h.1) h.2 in
      omega (arith, m, rest)
]

no_remap : (rs : List Region) → filter is_remap (map map_step rs) ≡ []
no_remap [] = refl
no_remap (r ∷ rs) = no_remap rs

pub remaps_are_few : (rs : List Region) (q : MarkKind) → IsRising rs → length (filter is_remap (steps_of rs q)) ≤ 2
remaps_are_few rs q h =
    let range : Span = range_of q in
    let e : filter is_remap (steps_of rs q) ≡ remaps range rs ++ [] =
    filter-append is_remap (map (step_at range) (filter (does_meet range) rs)) (map map_step (new_region q)) ∙ ap (λ xs. remaps range rs ++ xs) (no_remap (new_region q)) in
    let f : length (filter is_remap (steps_of rs q)) ≡ length (remaps range rs) = ap length (e ∙ Rattle.std.proofs.lemmas.List.append-nil (remaps range rs)) in
    let few = two_at_most range rs h in
    omega (arith, f, few)
