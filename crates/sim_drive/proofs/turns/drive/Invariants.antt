use Rattle.std.proofs.Common.{◌≡◌, ◌≤◌, ◌-◌, length}
use Rattle.journal_model.specs.statements.Scheduled.{scheduled, scheduled_actors}
use Rattle.sim_drive.specs.Ends.{NotBefore}
use Rattle.sim_drive.proofs.turns.drive.Given as goal

abbrev pub invariant-loop-who : goal.invariant-loop-who
invariant-loop-who l =
    (l.device ≡ record { script = l.fn.device.script; journal = scheduled l.fn.device.script l.turns })
    × NotBefore l.fn.device.script l.turns
    × (l.turns ≡ l.who-index)
    × (l.turns ≤ l.allowed)
    × (l.who-items ≡ scheduled_actors l.fn.device.script)

abbrev pub invariant-loop-turns : goal.invariant-loop-turns
invariant-loop-turns l =
    (l.device ≡ record { script = l.fn.device.script; journal = scheduled l.fn.device.script l.turns })
    × NotBefore l.fn.device.script l.turns
    × (l.turns ≤ l.allowed)
    × (length (scheduled_actors l.fn.device.script) ≤ l.turns)

abbrev pub decreases-loop-turns : goal.decreases-loop-turns
decreases-loop-turns l = l.allowed - l.turns
