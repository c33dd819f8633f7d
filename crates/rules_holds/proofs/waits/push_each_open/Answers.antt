use Rattle.std.proofs.Common.{arith}
use Rattle.std.proofs.lemmas.Grind.{common_steps}
use Rattle.rules_holds.proofs.RunJobs.{run_more}
use Rattle.rules_holds.proofs.waits.push_each_open.Goals as goal

pub loop-at-preserved : goal.loop-at-preserved
loop-at-preserved c =
    let more = run_more c.args.core.now c.args.run.ctx c.args.run.first c.loop-at.at in
    grind (arith, common_steps, more)
