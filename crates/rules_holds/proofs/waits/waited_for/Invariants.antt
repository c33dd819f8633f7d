use Rattle.std.proofs.Common.{◌≡◌, take}
use Rattle.std.specs.Prelude.{flat_map}
use Rattle.journal_model.specs.code.JobRuns.{jobs_of_run}
use Rattle.journal_model.specs.rules.Waits.{waited_for}
use Rattle.rules_holds.specs.Least.{IsLook}
use Rattle.rules_holds.proofs.waits.waited_for.Given as goal

abbrev pub invariant-loop-run : goal.invariant-loop-run
invariant-loop-run l = (l.named ≡ waited_for l.core (flat_map jobs_of_run (take l.run-index l.run-items))) × IsLook l.core l.look
