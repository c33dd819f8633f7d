use Rattle.manager_walk.specs.Walk.{NoneOpen}
use Rattle.manager_walk.proofs.ranges.next_open.Given as goal

abbrev pub invariant-loop-page : goal.invariant-loop-page
invariant-loop-page l = NoneOpen l.manager.held l.manager.size l.from l.page
