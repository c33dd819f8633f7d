use Rattle.std.specs.Prelude.{◌≡◌, ◌+◌, ◌≤◌, length}
use Rattle.std.specs.List.{find}
use Rattle.hole_tree.specs.Fitting.{is_long}
use Rattle.hole_tree.proofs.tree.Tree.first_long.Given as goal

abbrev pub invariant-loop-node : goal.invariant-loop-node
invariant-loop-node g l = record {
  found : find (is_long l.pages) l.tree.spans ≡ find (is_long l.pages) l.self.spans;
  counts : l.initial.steps ≤ l.steps;
  cost : l.steps + l.tree.height ≤ l.initial.steps + l.self.height;
}

abbrev pub decreases-loop-node : goal.decreases-loop-node
decreases-loop-node g l = length l.tree.spans
