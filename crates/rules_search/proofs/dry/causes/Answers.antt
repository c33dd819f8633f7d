use Rattle.std.proofs.Common.{arith}
use Rattle.std.proofs.lemmas.Grind.{common_steps}
use Rattle.rules_search.proofs.CauseLaws.{causes_more}
use Rattle.rules_search.proofs.dry.causes.Goals as goal

pub loop-i-preserved : goal.loop-i-preserved
loop-i-preserved c =
    let more =
    causes_more c.args.script.now c.args.state.now.reservations c.args.place c.items-slots.result.now c.loop-i.i c.index-slots-i.result c.loop-i-test.true
    in
    grind (arith, common_steps, more)
