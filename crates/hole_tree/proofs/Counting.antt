-- How many holes there are, when one comes or goes.
use Rattle.std.proofs.Common.{◌≡◌, ℕ, ◌+◌, ◌*◌, ◌^◌, ◌≤◌, true, false, cond, List, [], ◌∷◌, Some, length, inl, inr, ltb, arith}
use Rattle.std.specs.List.{find}
use Rattle.std.proofs.Math.Pow.{pow_mono}
use Rattle.std.proofs.lemmas.Bool.{cases_Bool, eqb-true}
use Rattle.ttm_base.specs.declared.Span.{Span}
use Rattle.hole_tree.specs.Shape.{Shape, IsLow}
use Rattle.hole_tree.specs.Rising.{IsRising}
use Rattle.hole_tree.specs.HoleSet.{starts_at, with_hole, without}
use Rattle.hole_tree.proofs.Rises.{left_past}

pub length-with : (x : Span) (ys : List Span) → length (with_hole x ys) ≡ length ys + 1
length-with x [] = omega arith
length-with x (y ∷ ys) = elim (ltb x.start y.start) as (λ b. length (cond b (x ∷ y ∷ ys) (y ∷ with_hole x ys)) ≡ length (y ∷ ys) + 1) [
  | true ↦ omega arith
  | false ↦ omega (arith, length-with x ys)
]

pub length-without : (start : ℕ) (ys : List Span) (x : Span) → IsRising ys → find (starts_at start) ys ≡ Some x → length (without start ys) + 1 ≡ length ys
length-without start [] x h e = cc
length-without start (y ∷ ys) x h e = elim (cases_Bool (starts_at start y)) [
  | inl t ↦
      let s : y.start ≡ start = eqb-true y.start start t in
      let q : y.start ≤ y.end = h.0 in
      rw (t, left_past start y.end ys (omega arith) h.1) (omega arith)
  | inr f ↦ let ih = length-without start ys x h.2 (rw f at e) in rw f (omega arith)
]

-- steps that the levels bound
pub steps_square : (s : Shape) (steps : ℕ) → IsLow s → steps ≤ s.height → 2 ^ steps ≤ (length s.spans + 1) * (length s.spans + 1)
steps_square s steps l p = let m : 2 ^ steps ≤ 2 ^ s.height = pow_mono p in omega (arith, l.square)
