use Rattle.std.proofs.Common.{arith, sym, ◌∙◌}
use Rattle.journal_model.proofs.SplitJobs.{split_more}
use Rattle.journal_model.proofs.jobs.list.closed_from.Goals as goal

pub loop-count-preserved : goal.loop-count-preserved
loop-count-preserved c = split_more _ _ c.loop-count.invariant (omega arith) (sym c.can_close.ensures ∙ c.if-can_close.true)
