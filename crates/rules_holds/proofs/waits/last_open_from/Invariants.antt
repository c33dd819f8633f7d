use Rattle.std.proofs.Common.{◌≡◌, ◌≤◌}
use Rattle.journal_model.specs.code.JobRuns.{jobs_of_run}
use Rattle.journal_model.specs.rules.Waits.{waited_for}
use Rattle.rules_holds.proofs.waits.last_open_from.Given as goal

abbrev pub invariant-loop-left : goal.invariant-loop-left
invariant-loop-left l = (waited_for l.core (jobs_of_run l.run) ≡ waited_for l.core (jobs_of_run (record l.run { count = l.left }))) × (l.left ≤ l.run.count)

abbrev pub decreases-loop-left : goal.decreases-loop-left
decreases-loop-left l = l.left
