use Rattle.std.proofs.Common.{false, get_or, length, arith}
use Rattle.std.specs.Prelude.{not}
use Rattle.std.proofs.lemmas.Grind.{common_steps}
use Rattle.rules_state.proofs.FindLaws.{find_here, find_none_more}
use Rattle.rules_holds.proofs.MarkLaws.{none_in_front}
use Rattle.rules_holds.proofs.free.lowest_unmarked.Goals as goal

pub loop-n-init : goal.loop-n-init
loop-n-init c = none_in_front _ _ c.set_front-n.ensures.set

pub returns-then-not-marks-n : goal.returns-then-not-marks-n
returns-then-not-marks-n c =
    let here = find_here (λ n. not (get_or c.args.marks.now n false)) c.loop-n.n (length c.args.marks.now) c.loop-n.invariant in
    grind (arith, common_steps, here)

pub loop-n-preserved : goal.loop-n-preserved
loop-n-preserved c =
    let none = find_none_more (λ n. not (get_or c.args.marks.now n false)) c.loop-n.n c.loop-n.invariant in
    grind (arith, common_steps, none)
