use Rattle.std.proofs.Common.{arith}
use Rattle.std.proofs.lemmas.Grind.{common_steps}
use Rattle.ttm_base.specs.declared.Usage.TheVariants.{Kernel}
use Rattle.rules_holds.proofs.RunJobs.{waited_fences_more}
use Rattle.rules_holds.proofs.waits.waited_before.Goals as goal

pub loop-run-preserved : goal.loop-run-preserved
loop-run-preserved c =
    let more =
    waited_fences_more c.args.core.now c.args.before c.runs-run-items.result.now c.loop-run.run-index
    (record { jobs = record { ctx = 0; first = 0; count = 0 }; usage = Kernel }) c.loop-run-test.true
    in
    (grind (arith, common_steps, more), c.last_open.ensures.look)
