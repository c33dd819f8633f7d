use Rattle.std.proofs.Common.{◌≡◌, drop}
use Rattle.std.specs.Prelude.{flat_map}
use Rattle.rules_stores.specs.Maps.{frame_beside, live_mapped}
use Rattle.rules_stores.proofs.pages.frame_in_buffers.Given as goal

abbrev pub invariant-loop-slot : goal.invariant-loop-slot
invariant-loop-slot l = frame_beside l.page (flat_map live_mapped (drop l.slot-index l.buffers)) ≡ frame_beside l.page (flat_map live_mapped l.buffers)
