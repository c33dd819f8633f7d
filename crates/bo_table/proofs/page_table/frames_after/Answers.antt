use Rattle.std.proofs.Common.{arith, sym}
use Rattle.bo_table.proofs.PageLaws.{frame_counts, frame_fits}
use Rattle.bo_table.proofs.page_table.frames_after.Goals as goal

pub overflow_sub-result : goal.overflow_sub-result
overflow_sub-result c =
    let had = frame_counts c.args.places.now c.args.page c.at.result c.at.ensures (sym c.in-true-false.ensures) in
    omega arith

pub overflow_add-result : goal.overflow_add-result
overflow_add-result c =
    let fits = frame_fits c.args.places.now c.args.page c.at.result c.at.ensures (sym c.in-false-true.ensures) in
    omega arith
