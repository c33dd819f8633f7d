use Rattle.std.proofs.Common.{◌≡◌, true, subst}
use Rattle.rules_holds.specs.Least.{is_counted}
use Rattle.rules_holds.proofs.LeastJobs.{counted_more}
use Rattle.rules_holds.proofs.least.least_numbers.Goals as goal

pub loop-job-preserved : goal.loop-job-preserved
loop-job-preserved c =
    let own = subst (λ j. is_counted c.lower.new.least j ≡ true) c.job-item.is c.lower.ensures.new in
    counted_more c.loop-job.least c.lower.new.least c.args.jobs.now c.loop-job.job-index c.job-item.result c.loop-job-test.true c.lower.ensures.others own c.loop-job.invariant
