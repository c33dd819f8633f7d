use Rattle.std.proofs.Common.{sym, ◌∙◌}
use Rattle.journal_model.proofs.SplitJobs.{past_named_apart}
use Rattle.journal_model.proofs.jobs.list.closed_apart.Goals as goal

pub returns-then-is_past-clause-apart : goal.returns-then-is_past-clause-apart
returns-then-is_past-clause-apart c = past_named_apart c.args.greatest.now c.args.id c.args.jobs.now c.args.closed (sym c.is_past.ensures ∙ c.if-is_past.true) c.requires.bounded
