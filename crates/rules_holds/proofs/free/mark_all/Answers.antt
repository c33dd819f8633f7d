use Rattle.std.proofs.Common.{take}
use Rattle.std.proofs.lemmas.List.{take_more}
use Rattle.rules_holds.proofs.MarkLaws.{marked_then}
use Rattle.rules_holds.proofs.free.mark_all.Goals as goal

pub loop-n-preserved : goal.loop-n-preserved
loop-n-preserved c =
    let more = take_more c.args.numbers.now c.loop-n.n-index 0 c.loop-n-test.true in
    rw more (marked_then _ _ _ (take c.loop-n.n-index c.args.numbers.now) _ c.loop-n.invariant c.mark.ensures)
