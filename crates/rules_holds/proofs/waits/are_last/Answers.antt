use Rattle.rules_holds.proofs.RunJobs.{all_within}
use Rattle.rules_holds.proofs.waits.are_last.Goals as goal

pub returns-else-run-eq0 : goal.returns-else-run-eq0
returns-else-run-eq0 c h =
    let within = c.is_within.ensures h in
    all_within c.args.core.now c.args.run c.row.result within.0 within.1 within.2 c.row.ensures.open
