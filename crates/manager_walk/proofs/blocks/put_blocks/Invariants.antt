use Rattle.std.proofs.Common.{◌≡◌, ◌-◌, ◌++◌}
use Rattle.manager_walk.specs.Cutting.{blocks_from, blocks_of}
use Rattle.manager_walk.proofs.blocks.put_blocks.Given as goal

abbrev pub invariant-loop-page : goal.invariant-loop-page
invariant-loop-page l = l.blocks ++ blocks_from (l.hole.end - l._page) l.start l.hole.end ≡ l.initial.blocks ++ blocks_of l.hole
