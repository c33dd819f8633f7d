use Rattle.std.proofs.Common.{length, ◌-◌}
use Rattle.journal_model.specs.code.Jobs.{IsSplit}
use Rattle.journal_model.proofs.jobs.list.closed_from.Given as goal

abbrev pub invariant-loop-count : goal.invariant-loop-count
invariant-loop-count l = IsSplit l.jobs l.count

abbrev pub decreases-loop-count : goal.decreases-loop-count
decreases-loop-count l = length l.jobs - l.count
