use Rattle.std.proofs.Common.{◌≡◌, take}
use Rattle.journal_model.specs.rules.ApplyCommands.{released}
use Rattle.rules_state.proofs.parts.reservations.release_all.Given as goal

abbrev pub invariant-loop-b : goal.invariant-loop-b
invariant-loop-b l = l.reservations ≡ released l.initial.reservations (take l.b-index l.bs)
