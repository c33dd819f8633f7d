use Rattle.std.proofs.Common.{◌∙◌}
use Rattle.journal_model.specs.rules.Holds.{held_frames}
use Rattle.rules_holds.proofs.MarkLaws.{count_of}
use Rattle.rules_holds.proofs.free.count_free_frames.Goals as goal

pub returns : goal.returns
returns c =
    let count = count_of c.args.script.now.sizes.frames (held_frames c.args.core.now) c.in_ok-marks.marks.items c.in_ok-marks.ensures.marked in
    (rw c.deref.ensures.value at c.count_unmarked.ensures) ∙ count
