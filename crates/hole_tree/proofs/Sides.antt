-- What holds of the sides of a node that was taken apart.
use Rattle.std.proofs.Common.{◌≡◌, ℕ, ◌+◌, true, false, ◌∷◌, ◌++◌, Some, length, refl, sym, ap, ◌∙◌, subst, arith, length-append}
use Rattle.std.specs.List.{find}
use Rattle.ttm_base.specs.declared.Span.{Span}
use Rattle.hole_tree.specs.declared.order.Order.{Order}
use Rattle.hole_tree.specs.Leaning.{Leans}
use Rattle.hole_tree.specs.Rising.{IsRising}
use Rattle.hole_tree.specs.Shape.{Shape, IsLow}
use Rattle.hole_tree.specs.Sorting.{before, ties, IsSorted, placed, untied}
use Rattle.hole_tree.specs.Trees.{height_of, shape_of, shape_of_node, IsNode, IsSound, IsTree}
use Rattle.hole_tree.specs.declared.tree.Node.{Node}
use Rattle.hole_tree.specs.declared.tree.Top.{Top}
use Rattle.hole_tree.specs.declared.tree.Top.TheVariants.{Empty, Full}
use Rattle.hole_tree.proofs.Heights.{low_node, differ}
use Rattle.hole_tree.proofs.Rises.{rising_left, rising_right}
use Rattle.hole_tree.proofs.Sorts.{sorted_left, sorted_right, placed_left, placed_right, Goes, goes_left, goes_right, goes_here}

pub node_count : {s l : Shape} {k : Span} {r : Shape} → IsNode s l k r → length s.spans ≡ length l.spans + length r.spans + 1
node_count {s} {l} {k} {r} n = ap length n.spans ∙ omega (arith, length-append l.spans (k ∷ r.spans))

pub node_sorted : {s l : Shape} {k : Span} {r : Shape} (o : Order) → IsNode s l k r → IsSorted o s.spans → IsSorted o (l.spans ++ k ∷ r.spans)
node_sorted o n h = subst (IsSorted o) n.spans h

pub node_sorted_left : {s l : Shape} {k : Span} {r : Shape} (o : Order) → IsNode s l k r → IsSorted o s.spans → IsSorted o l.spans
node_sorted_left {s} {l} {k} {r} o n h = sorted_left o l.spans (k ∷ r.spans) (node_sorted o n h)

pub node_sorted_right : {s l : Shape} {k : Span} {r : Shape} (o : Order) → IsNode s l k r → IsSorted o s.spans → IsSorted o r.spans
node_sorted_right {s} {l} {k} {r} o n h = sorted_right o l.spans k r.spans (node_sorted o n h)

pub node_placed_left : {s l : Shape} {k : Span} {r : Shape} (o : Order) (x : Span) → IsNode s l k r → before o x k ≡ true → placed o x s.spans ≡ placed o x l.spans ++ k ∷ r.spans
node_placed_left {s} {l} {k} {r} o x n p = ap (λ w. placed o x w) n.spans ∙ placed_left o x l.spans k r.spans p

pub node_placed_right : {s l : Shape} {k : Span} {r : Shape} (o : Order) (x : Span) → IsNode s l k r → IsSorted o s.spans → before o x k ≡ false → placed o x s.spans ≡ l.spans ++ k ∷ placed o x r.spans
node_placed_right {s} {l} {k} {r} o x n h p = ap (λ w. placed o x w) n.spans ∙ placed_right o x l.spans k r.spans p (node_sorted o n h)

pub node_goes_left : {s l : Shape} {k : Span} {r : Shape} (o : Order) (x : Span) → IsNode s l k r → IsSorted o s.spans → before o x k ≡ true → Goes o x s.spans (find (ties o x) l.spans) (untied o x l.spans ++ k ∷ r.spans)
node_goes_left {s} {l} {k} {r} o x n h p =
    let g = goes_left o x l.spans k r.spans p (node_sorted o n h) in
    record { found = ap (λ w. find (ties o x) w) n.spans ∙ g.found; left = ap (λ w. untied o x w) n.spans ∙ g.left }

pub node_goes_right : {s l : Shape} {k : Span} {r : Shape} (o : Order) (x : Span) → IsNode s l k r → IsSorted o s.spans → before o k x ≡ true → Goes o x s.spans (find (ties o x) r.spans) (l.spans ++ k ∷ untied o x r.spans)
node_goes_right {s} {l} {k} {r} o x n h p =
    let g = goes_right o x l.spans k r.spans p (node_sorted o n h) in
    record { found = ap (λ w. find (ties o x) w) n.spans ∙ g.found; left = ap (λ w. untied o x w) n.spans ∙ g.left }

pub node_goes_here : {s l : Shape} {k : Span} {r : Shape} (o : Order) (x : Span) → IsNode s l k r → IsSorted o s.spans → before o x k ≡ false → before o k x ≡ false → Goes o x s.spans (Some k) (l.spans ++ r.spans)
node_goes_here {s} {l} {k} {r} o x n h p q =
    let g = goes_here o x l.spans k r.spans p q (node_sorted o n h) in
    record { found = ap (λ w. find (ties o x) w) n.spans ∙ g.found; left = ap (λ w. untied o x w) n.spans ∙ g.left }

-- a node that was opened
pub opened : {S : Type 0} {keeps : ℕ → S} {s : Shape} {n m : Node S} → shape_of_node n ≡ s → IsSound keeps n → m ≡ n → IsNode s m.left m.hole m.right
opened {S} {keeps} {s} {n} {m} e i f =
    rw f (record {
      spans = sym (ap (λ t. t.spans) e);
      height = sym (ap (λ t. t.height) e);
      balance = differ n.lean n.left.height n.right.height i.lean;
    })

-- ---- a node that leans as it says is low

pub low_root : {S : Type 0} (n : Node S) → Leans n.lean n.left.height n.right.height → IsLow n.left → IsLow n.right → IsLow (shape_of_node n)
low_root n e l r = low_node n.left n.right n.hole (height_of n) l r (differ n.lean n.left.height n.right.height e) refl

pub low_sound : {S : Type 0} (keeps : ℕ → S) (n : Node S) → IsSound keeps n → IsLow (shape_of_node n)
low_sound keeps n s = low_root n s.lean s.sides.left s.sides.right

pub low_top : {S : Type 0} (keeps : ℕ → S) (t : Top S) → IsTree keeps t → IsLow (shape_of t)
low_top keeps Empty s = record { fewer = omega arith; square = omega arith }
low_top keeps (Full n) s = low_sound keeps n.value s

-- ---- a rising list

pub node_rising : {s l : Shape} {k : Span} {r : Shape} → IsNode s l k r → IsRising s.spans → IsRising (l.spans ++ k ∷ r.spans)
node_rising n h = subst IsRising n.spans h

pub node_rising_left : {s l : Shape} {k : Span} {r : Shape} → IsNode s l k r → IsRising s.spans → IsRising l.spans
node_rising_left {s} {l} {k} {r} n h = rising_left l.spans (k ∷ r.spans) (node_rising n h)

pub node_rising_right : {s l : Shape} {k : Span} {r : Shape} → IsNode s l k r → IsRising s.spans → IsRising r.spans
node_rising_right {s} {l} {k} {r} n h = rising_right l.spans k r.spans (node_rising n h)
