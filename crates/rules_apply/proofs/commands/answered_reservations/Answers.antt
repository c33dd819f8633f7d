use Rattle.std.proofs.Common.{◌≡◌, Some, subst, sym, ap, ◌∙◌}
use Rattle.journal_model.specs.rules.ApplyCommands.{released}
use Rattle.rules_state.specs.parts.Pins.{HasPinsLeft}
use Rattle.rules_state.proofs.parts.PinLaws.{pins_left_released}
use Rattle.rules_apply.proofs.commands.answered_reservations.Goals as goal

pub change_pins-requires : goal.change_pins-requires
change_pins-requires c =
    let same : c.release_all.new.reservations ≡ released c.args.reservations.now c.args.held.now = c.release_all.ensures ∙ ap (λ reservations. released reservations c.args.held.now) c.in_ok-new.ensures in
    subst (λ reservations. HasPinsLeft reservations (Some c.in-Some.command.now)) (sym same)
    (pins_left_released c.args.reservations.now c.args.held.now c.in-Some.command.now (rw c.in-Some.is at c.requires))
