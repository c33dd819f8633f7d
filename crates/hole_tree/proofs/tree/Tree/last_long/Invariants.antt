use Rattle.std.specs.Prelude.{◌≡◌, ◌+◌, ◌≤◌, length}
use Rattle.hole_tree.specs.Fitting.{is_long, find_last}
use Rattle.hole_tree.proofs.tree.Tree.last_long.Given as goal

abbrev pub invariant-loop-node : goal.invariant-loop-node
invariant-loop-node g l = record {
  found : find_last (is_long l.pages) l.tree.spans ≡ find_last (is_long l.pages) l.self.spans;
  counts : l.initial.steps ≤ l.steps;
  cost : l.steps + l.tree.height ≤ l.initial.steps + l.self.height;
}

abbrev pub decreases-loop-node : goal.decreases-loop-node
decreases-loop-node g l = length l.tree.spans
