use Rattle.std.proofs.Common.{take}
use Rattle.std.specs.Prelude.{flat_map}
use Rattle.rules_holds.specs.Held.{frames_of_slot}
use Rattle.rules_holds.specs.Marked.{AreMarked}
use Rattle.rules_holds.proofs.free.mark_live_frames.Given as goal

abbrev pub invariant-loop-slot : goal.invariant-loop-slot
invariant-loop-slot l = AreMarked l.initial.marks.items (flat_map frames_of_slot (take l.slot-index l.buffers)) l.marks.items
