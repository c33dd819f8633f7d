use Rattle.std.proofs.Common.{◌≡◌, ◌++◌, take, drop, length, true}
use Rattle.journal_model.specs.rules.ApplyJobs.{changed_job}
use Rattle.journal_model.proofs.jobs.list.finish_between.Given as goal

abbrev pub invariant-loop-i : goal.invariant-loop-i
invariant-loop-i l =
    (l.jobs ≡ changed_job (λ j. record j { finished = true }) l.id (take l.i l.initial.jobs) ++ drop l.i l.initial.jobs)
    × (length l.jobs ≡ length l.initial.jobs)
