use Rattle.manager_walk.specs.Walk.{NoneFrom}
use Rattle.manager_walk.proofs.blocks.next_block.Given as goal

abbrev pub invariant-loop-page : goal.invariant-loop-page
invariant-loop-page l = NoneFrom l.manager.held l.from l.page
