use Rattle.std.proofs.Common.{◌∙◌, sym}
use Rattle.journal_model.specs.code.JobRuns.{jobs_of_run}
use Rattle.rules_holds.proofs.BeforeLaws.{all_of_run, none_of_run}
use Rattle.rules_holds.proofs.waits.jobs_of.Goals as goal

pub returns-then-counts-clause-jobs : goal.returns-then-counts-clause-jobs
returns-then-counts-clause-jobs c = sym (all_of_run c.args.before c.args.run.usage (jobs_of_run c.args.run.jobs) (sym c.counts.ensures ∙ c.if-counts.true))

pub returns-else-counts-clause-jobs : goal.returns-else-counts-clause-jobs
returns-else-counts-clause-jobs c = sym (none_of_run c.args.before c.args.run.usage (jobs_of_run c.args.run.jobs) (sym c.counts.ensures ∙ c.if-counts.false))
