use Rattle.std.proofs.Common.{ap, ◌∙◌}
use Rattle.rules_holds.specs.Held.{frames_of_slot}
use Rattle.rules_holds.proofs.MarkLaws.{marked_more}
use Rattle.rules_holds.proofs.free.mark_live_frames.Goals as goal

pub loop-slot-preserved : goal.loop-slot-preserved
loop-slot-preserved c =
    marked_more frames_of_slot c.args.buffers.now c.loop-slot.slot-index c.slot-item.result _ _ _ _ c.loop-slot-test.true
    (c.table_of.ensures.frames ∙ ap frames_of_slot c.slot-item.is) c.loop-slot.invariant c.mark_frames.ensures
