use Rattle.lru_bulk.specs.Sound.{AreClosed}
use Rattle.lru_bulk.proofs.rings.closed_ends.Given as goal

abbrev pub invariant-loop-list : goal.invariant-loop-list
invariant-loop-list l = AreClosed l.list l.ends
