use Rattle.std.proofs.Common.{arith}
use Rattle.std.proofs.lemmas.Grind.{common_steps}
use Rattle.rules_holds.proofs.RunJobs.{runs_more}
use Rattle.rules_holds.proofs.waits.waited_for.Goals as goal

pub loop-run-preserved : goal.loop-run-preserved
loop-run-preserved c =
    let more =
    runs_more c.args.core.now c.runs-run-items.result.now c.loop-run.run-index (record { ctx = 0; first = 0; count = 0 }) c.loop-run-test.true
    in
    (grind (arith, common_steps, more), c.last_open.ensures.look)
