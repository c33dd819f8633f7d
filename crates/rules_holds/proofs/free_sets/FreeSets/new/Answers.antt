use Rattle.journal_model.specs.rules.Holds.{held_frames, held_slots}
use Rattle.rules_holds.proofs.FreeLaws.{unheld_of}
use Rattle.rules_holds.proofs.free_sets.FreeSets.new.Goals as goal

pub returns : goal.returns
returns c =
    let script = c.args.script.now in
    let core = c.args.core.now in
    record {
      frames =
          unheld_of script.sizes.frames (held_frames core) c.in_ok-frame_marks.field-0.items c.in_ok-frames.frames c.in_ok-frame_marks.ensures.marked c.in_ok-frames.ensures;
      slots =
          unheld_of script.sizes.swap (held_slots core) c.in_ok-slot_marks.field-0.items c.in_ok-slots.slots c.in_ok-slot_marks.ensures.marked c.in_ok-slots.ensures;
    }
