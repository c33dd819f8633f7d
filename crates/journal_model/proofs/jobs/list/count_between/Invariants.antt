use Rattle.std.proofs.Common.{◌≡◌, ◌+◌, ◌++◌, take, drop, length}
use Rattle.journal_model.specs.rules.ApplyJobs.{changed_job}
use Rattle.journal_model.proofs.jobs.list.count_between.Given as goal

abbrev pub invariant-loop-i : goal.invariant-loop-i
invariant-loop-i l =
    (l.jobs ≡ changed_job (λ j. record j { ran = j.ran + 1 }) l.id (take l.i l.initial.jobs) ++ drop l.i l.initial.jobs)
    × (length l.jobs ≡ length l.initial.jobs)
