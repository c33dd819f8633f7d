use Rattle.std.proofs.Common.{◌≡◌, take, drop, true, arith}
use Rattle.std.proofs.lemmas.Grind.{common_steps}
use Rattle.std.specs.List.{list_any}
use Rattle.journal_model.specs.rules.JobNames.{same_job}
use Rattle.journal_model.proofs.SplitJobs.{pending_apart}
use Rattle.journal_model.proofs.jobs.list.start_of.Goals as goal

pub returns-then-is_among-clause-apart : goal.returns-then-is_among-clause-apart
returns-then-is_among-clause-apart c =
    let pending : list_any (λ j. same_job c.args.id j.id) (drop c.args.closed c.args.jobs.now) ≡ true = grind (arith, common_steps) in
    pending_apart (take c.args.closed c.args.jobs.now) (drop c.args.closed c.args.jobs.now) c.args.id c.requires.parts pending
