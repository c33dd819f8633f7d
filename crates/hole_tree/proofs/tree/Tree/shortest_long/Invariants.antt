use Rattle.std.specs.Prelude.{◌≡◌, ◌+◌, ◌≤◌, Some, None, if◌then◌else◌, length}
use Rattle.std.specs.List.{find}
use Rattle.std.specs.Option.{option_or}
use Rattle.hole_tree.specs.declared.order.Order.TheVariants as order
use Rattle.hole_tree.specs.Fitting.{is_long}
use Rattle.hole_tree.specs.Sorting.{IsSorted}
use Rattle.hole_tree.proofs.tree.Tree.shortest_long.Given as goal

abbrev pub invariant-loop-node : goal.invariant-loop-node
invariant-loop-node g l = record {
  sorted : IsSorted order.ByLength l.tree.spans;
  found : option_or (find (is_long l.pages) l.tree.spans) (if is_long l.pages l.found.hole then Some l.found.hole else None) ≡ find (is_long l.pages) l.self.spans;
  counts : l.initial.steps ≤ l.steps;
  cost : l.steps + l.tree.height + 1 ≤ l.initial.steps + l.self.height;
}

abbrev pub decreases-loop-node : goal.decreases-loop-node
decreases-loop-node g l = length l.tree.spans
