use Rattle.std.proofs.Common.{arith, length}
use Rattle.std.proofs.lemmas.Grind.{common_steps}
use Rattle.ttm_base.specs.BuddyChoice.{candidate}
use Rattle.rules_choice.specs.Marks.{marked}
use Rattle.rules_choice.proofs.StartLaws.{first_candidate_here}
use Rattle.rules_choice.proofs.candidates.first_candidate.Goals as goal

pub returns-then-is_some : goal.returns-then-is_some
returns-then-is_some c =
    let here = first_candidate_here (candidate (marked c.args.free.now.marks.items) (length c.args.free.now.marks.items) c.args.range c.args.topdown) c.loop-order.order c.loop-order-test.true in
    grind (arith, common_steps, here)
