use Rattle.std.proofs.Common.{◌≡◌, take, sum_by}
use Rattle.resource_core.specs.Resources.{pages_if}
use Rattle.resource_core.proofs.holding.pages_by.Given as goal

abbrev pub invariant-loop-holding : goal.invariant-loop-holding
invariant-loop-holding l = l.pages ≡ sum_by (pages_if l.kind) (take l.holding-index l.held)
