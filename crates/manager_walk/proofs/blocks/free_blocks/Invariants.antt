use Rattle.std.proofs.Common.{◌≡◌, take}
use Rattle.std.specs.Prelude.{flat_map}
use Rattle.manager_walk.specs.Cutting.{blocks_of}
use Rattle.manager_walk.proofs.blocks.free_blocks.Given as goal

abbrev pub invariant-loop-hole : goal.invariant-loop-hole
invariant-loop-hole l = l.blocks ≡ flat_map blocks_of (take l.hole-index l.hole-items)
