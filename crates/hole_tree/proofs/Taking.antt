-- Where the hole is that is taken out of a tree.
use Rattle.std.proofs.Common.{◌≡◌, ℕ, ◌+◌, ◌<◌, max, true, List, ◌∷◌, ◌++◌, Some, length, ap, sym, ◌∙◌, arith}
use Rattle.std.specs.List.{find}
use Rattle.ttm_base.specs.declared.Span.{Span}
use Rattle.ttm_base.specs.Reach.{length_of}
use Rattle.hole_tree.specs.declared.order.Order.{Order}
use Rattle.hole_tree.specs.declared.tree.Node.{Node}
use Rattle.hole_tree.specs.Longest.{longest}
use Rattle.hole_tree.specs.Shape.{Shape}
use Rattle.hole_tree.specs.Sorting.{before, ties, IsSorted, untied}
use Rattle.hole_tree.specs.Trees.{shape_of_node, IsNode, IsSound}
use Rattle.hole_tree.proofs.LongestNode.{longest_untied}
use Rattle.hole_tree.proofs.Sides.{opened, node_count, node_sorted_left, node_sorted_right, node_goes_left, node_goes_right}

-- on the left of the root
pub record OnLeft {S : Type 0} (keeps : ℕ → S) (o : Order) (x : Span) (s : Shape) (n : Node S) : Type 0 where
  pub fewer : length n.left.spans < length s.spans
  pub sorted : IsSorted o n.left.spans
  pub found : find (ties o x) s.spans ≡ find (ties o x) n.left.spans
  pub left : (ys : List Span) → ys ≡ untied o x n.left.spans → ys ++ n.hole ∷ n.right.spans ≡ untied o x s.spans
  pub kept : (h : Span) (pages : ℕ) (ys : List Span) → find (ties o x) n.left.spans ≡ Some h → pages ≡ length_of h → ys ≡ untied o x n.left.spans → n.of_left ≡ keeps (max pages (longest ys))

pub on_left : {S : Type 0} {keeps : ℕ → S} {s : Shape} {n m : Node S} (o : Order) (x : Span) → shape_of_node n ≡ s → IsSound keeps n → m ≡ n → IsSorted o s.spans → before o x m.hole ≡ true → OnLeft keeps o x s m
on_left {S} {keeps} {s} {n} {m} o x e i f h p =
    let node : IsNode s m.left m.hole m.right = opened e i f in
    let goes = node_goes_left o x node h p in
    let sorted = node_sorted_left o node h in
    record {
      fewer = omega (arith, node_count node);
      sorted = sorted;
      found = goes.found;
      left = λ ys u. ap (λ w. w ++ m.hole ∷ m.right.spans) u ∙ sym goes.left;
      kept = λ k pages ys q a u. rw (a, u) (ap (λ w. w.of_left) f ∙ i.sides.of_left ∙ ap (λ w. keeps (longest w.left.spans)) (sym f) ∙ ap keeps (longest_untied o x k m.left.spans sorted q));
    }

-- on the right
pub record OnRight {S : Type 0} (keeps : ℕ → S) (o : Order) (x : Span) (s : Shape) (n : Node S) : Type 0 where
  pub fewer : length n.right.spans < length s.spans
  pub sorted : IsSorted o n.right.spans
  pub found : find (ties o x) s.spans ≡ find (ties o x) n.right.spans
  pub left : (ys : List Span) → ys ≡ untied o x n.right.spans → n.left.spans ++ n.hole ∷ ys ≡ untied o x s.spans
  pub kept : (h : Span) (pages : ℕ) (ys : List Span) → find (ties o x) n.right.spans ≡ Some h → pages ≡ length_of h → ys ≡ untied o x n.right.spans → n.of_right ≡ keeps (max pages (longest ys))

pub on_right : {S : Type 0} {keeps : ℕ → S} {s : Shape} {n m : Node S} (o : Order) (x : Span) → shape_of_node n ≡ s → IsSound keeps n → m ≡ n → IsSorted o s.spans → before o m.hole x ≡ true → OnRight keeps o x s m
on_right {S} {keeps} {s} {n} {m} o x e i f h p =
    let node : IsNode s m.left m.hole m.right = opened e i f in
    let goes = node_goes_right o x node h p in
    let sorted = node_sorted_right o node h in
    record {
      fewer = omega (arith, node_count node);
      sorted = sorted;
      found = goes.found;
      left = λ ys u. ap (λ w. m.left.spans ++ m.hole ∷ w) u ∙ sym goes.left;
      kept = λ k pages ys q a u. rw (a, u) (ap (λ w. w.of_right) f ∙ i.sides.of_right ∙ ap (λ w. keeps (longest w.right.spans)) (sym f) ∙ ap keeps (longest_untied o x k m.right.spans sorted q));
    }
