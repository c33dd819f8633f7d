use Rattle.std.proofs.Common.{◌≡◌, drop}
use Rattle.std.specs.Prelude.{flat_map}
use Rattle.rules_stores.specs.Maps.{frame_beside, ghost_mapped}
use Rattle.rules_stores.proofs.pages.frame_in_ghosts.Given as goal

abbrev pub invariant-loop-left : goal.invariant-loop-left
invariant-loop-left l = frame_beside l.page (flat_map ghost_mapped (drop l.left-index l.ghosts)) ≡ frame_beside l.page (flat_map ghost_mapped l.ghosts)
