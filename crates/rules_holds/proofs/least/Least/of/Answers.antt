use Rattle.rules_holds.proofs.LeastJobs.{are_least}
use Rattle.rules_holds.proofs.least.Least.of.Goals as goal

pub returns : goal.returns
returns c = are_least c.args.core.now c.pending.result.now c.least_numbers.result c.pending.ensures c.least_numbers.ensures
