-- The longest hole of a node, and of holes of which one comes or goes.
use Rattle.std.proofs.Common.{◌≡◌, max, Bool, true, false, cond, not, List, [], ◌∷◌, ◌++◌, Some, refl, ap, sym, inl, inr, arith}
use Rattle.std.specs.List.{find}
use Rattle.std.proofs.lemmas.Bool.{cases_Bool, and_parts}
use Rattle.ttm_base.specs.declared.Span.{Span}
use Rattle.ttm_base.specs.Reach.{length_of}
use Rattle.hole_tree.specs.declared.order.Order.{Order}
use Rattle.hole_tree.specs.Longest.{longest}
use Rattle.hole_tree.specs.Sorting.{before, ties, IsSorted, placed, untied}
use Rattle.hole_tree.proofs.Sorts.{goes_here}

pub longest_node : (l : List Span) (k : Span) (r : List Span) → longest (l ++ k ∷ r) ≡ max (longest l) (max (length_of k) (longest r))
longest_node [] k r = omega arith
longest_node (y ∷ t) k r = omega (arith, longest_node t k r)

pub longest_placed : (o : Order) (x : Span) (ys : List Span) → longest (placed o x ys) ≡ max (longest ys) (length_of x)
longest_placed o x [] = omega arith
longest_placed o x (y ∷ ys) = elim (before o x y) as (λ b. longest (cond b (x ∷ y ∷ ys) (y ∷ placed o x ys)) ≡ max (longest (y ∷ ys)) (length_of x)) [
  | true ↦ omega arith
  | false ↦ omega (arith, longest_placed o x ys)
]

not_true : (b : Bool) → not b ≡ true → b ≡ false
not_true true e = sym e
not_true false e = refl

pub longest_untied : (o : Order) (x h : Span) (ys : List Span) → IsSorted o ys → find (ties o x) ys ≡ Some h → longest ys ≡ max (length_of h) (longest (untied o x ys))
longest_untied o x h [] s e = absurd cc
longest_untied o x h (y ∷ ys) s e = elim (cases_Bool (ties o x y)) [
  | inl t ↦
      let parts = and_parts (not (before o x y)) (not (before o y x)) t in
      let goes = goes_here o x [] y ys (not_true _ parts.0) (not_true _ parts.1) s in
      let same : Some y ≡ Some h = rw t at e in
      let z : y ≡ h = cc in
      let own : length_of y ≡ length_of h = ap length_of z in
      let rest : longest (untied o x (y ∷ ys)) ≡ longest ys = ap longest goes.left in
      omega arith
  | inr f ↦
      let found : find (ties o x) ys ≡ Some h = rw f at e in
      rw f (omega (arith, longest_untied o x h ys s.1 found))
]
