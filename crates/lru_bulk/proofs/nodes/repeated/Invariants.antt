use Rattle.std.proofs.Common.{◌≡◌, replicate}
use Rattle.lru_bulk.proofs.nodes.repeated.Given as goal

abbrev pub invariant-loop-done : goal.invariant-loop-done
invariant-loop-done g l = l.list ≡ replicate l._done l.item
