use Rattle.std.proofs.Common.{◌≡◌, ◌++◌}
use Rattle.journal_model.specs.code.JobRuns.{jobs_of_run}
use Rattle.journal_model.specs.rules.Waits.{unfinished}
use Rattle.rules_holds.proofs.waits.push_each_open.Given as goal

abbrev pub invariant-loop-at : goal.invariant-loop-at
invariant-loop-at l = l.jobs ≡ l.initial.jobs ++ unfinished l.core (jobs_of_run (record l.run { count = l.at }))
