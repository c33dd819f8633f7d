-- Where a hole comes in a tree.
use Rattle.std.proofs.Common.{◌≡◌, ℕ, ◌+◌, ◌<◌, true, false, List, ◌∷◌, ◌++◌, length, ap, sym, ◌∙◌, arith}
use Rattle.ttm_base.specs.declared.Span.{Span}
use Rattle.hole_tree.specs.declared.order.Order.{Order}
use Rattle.hole_tree.specs.declared.tree.Node.{Node}
use Rattle.hole_tree.specs.Leaning.{Leans}
use Rattle.hole_tree.specs.Shape.{Shape}
use Rattle.hole_tree.specs.Sorting.{before, IsSorted, placed}
use Rattle.hole_tree.specs.Trees.{shape_of_node, IsNode, IsSound}
use Rattle.hole_tree.proofs.Heights.{leans_up}
use Rattle.hole_tree.proofs.Sides.{opened, node_count, node_sorted_left, node_sorted_right, node_placed_left, node_placed_right}

-- on the left of the root
pub record ComesLeft {S : Type 0} (o : Order) (x : Span) (s : Shape) (n : Node S) : Type 0 where
  pub fewer : length n.left.spans < length s.spans
  pub sorted : IsSorted o n.left.spans
  pub spans : (ys : List Span) → ys ≡ placed o x n.left.spans → ys ++ n.hole ∷ n.right.spans ≡ placed o x s.spans
  pub lean : (h a : ℕ) → h ≡ n.left.height + a → Leans n.lean h (n.right.height + a)

pub comes_left : {S : Type 0} {keeps : ℕ → S} {s : Shape} {n m : Node S} (o : Order) (x : Span) → shape_of_node n ≡ s → IsSound keeps n → m ≡ n → IsSorted o s.spans → before o x m.hole ≡ true → ComesLeft o x s m
comes_left {S} {keeps} {s} {n} {m} o x e i f h p =
    let node : IsNode s m.left m.hole m.right = opened e i f in
    record {
      fewer = omega (arith, node_count node);
      sorted = node_sorted_left o node h;
      spans = λ ys u. ap (λ w. w ++ m.hole ∷ m.right.spans) u ∙ sym (node_placed_left o x node p);
      lean = λ k a u. rw (u, f) (leans_up n.lean n.left.height n.right.height a i.lean);
    }

-- on the right
pub record ComesRight {S : Type 0} (o : Order) (x : Span) (s : Shape) (n : Node S) : Type 0 where
  pub fewer : length n.right.spans < length s.spans
  pub sorted : IsSorted o n.right.spans
  pub spans : (ys : List Span) → ys ≡ placed o x n.right.spans → n.left.spans ++ n.hole ∷ ys ≡ placed o x s.spans
  pub lean : (h a : ℕ) → h ≡ n.right.height + a → Leans n.lean (n.left.height + a) h

pub comes_right : {S : Type 0} {keeps : ℕ → S} {s : Shape} {n m : Node S} (o : Order) (x : Span) → shape_of_node n ≡ s → IsSound keeps n → m ≡ n → IsSorted o s.spans → before o x m.hole ≡ false → ComesRight o x s m
comes_right {S} {keeps} {s} {n} {m} o x e i f h p =
    let node : IsNode s m.left m.hole m.right = opened e i f in
    record {
      fewer = omega (arith, node_count node);
      sorted = node_sorted_right o node h;
      spans = λ ys u. ap (λ w. m.left.spans ++ m.hole ∷ w) u ∙ sym (node_placed_right o x node h p);
      lean = λ k a u. rw (u, f) (leans_up n.lean n.left.height n.right.height a i.lean);
    }
