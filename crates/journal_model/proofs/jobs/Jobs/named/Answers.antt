use Rattle.std.proofs.Common.{arith}
use Rattle.std.proofs.lemmas.Grind.{common_steps}
use Rattle.journal_model.proofs.SplitJobs.{named_pending, named_closed}
use Rattle.journal_model.proofs.jobs.Jobs.named.Goals as goal

pub returns-in-Some : goal.returns-in-Some
returns-in-Some c =
    let first = named_pending c.self.inside.all c.self.inside.closed c.args.id c.in-Some.job.now c.self.invariant.split in
    grind (arith, common_steps, first)

pub returns-in-None : goal.returns-in-None
returns-in-None c =
    let first = named_closed c.self.inside.all c.self.inside.closed c.args.id in
    grind (arith, common_steps, first)
