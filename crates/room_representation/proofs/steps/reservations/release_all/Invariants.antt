use Rattle.std.proofs.Common.{◌≡◌, take}
use Rattle.journal_model.specs.rules.ApplyCommands.{released}
use Rattle.room_representation.proofs.steps.reservations.release_all.Given as goal

abbrev pub invariant-loop-b : goal.invariant-loop-b
invariant-loop-b l = l.bos ≡ record l.initial.bos { reservations = released l.initial.bos.reservations (take l.b-index l.bs) }
