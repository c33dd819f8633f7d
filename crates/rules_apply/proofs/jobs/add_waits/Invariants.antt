use Rattle.std.proofs.Common.{◌≡◌, ◌++◌, take}
use Rattle.std.specs.Prelude.{flat_map}
use Rattle.journal_model.specs.rules.Waits.{jobs_before_use}
use Rattle.rules_apply.proofs.jobs.add_waits.Given as goal

abbrev pub invariant-loop-b : goal.invariant-loop-b
invariant-loop-b l = l.jobs ≡ l.initial.jobs ++ flat_map (jobs_before_use l.core l.ops) (take l.b-index l.bs)
