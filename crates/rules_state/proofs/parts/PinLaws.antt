-- Pins that can be counted once held buffers are let go.
use Rattle.std.proofs.Common.{List, Some}
use Rattle.ttm_base.specs.declared.BufId.{BufId}
use Rattle.journal_model.specs.declared.script.Command.{Command}
use Rattle.journal_model.specs.declared.script.Command.TheVariants as command
use Rattle.journal_model.specs.declared.state.Reservation.{Reservation}
use Rattle.journal_model.specs.rules.ApplyCommands.{released}
use Rattle.state_words.proofs.Pins.{pins-released}
use Rattle.rules_state.specs.parts.Pins.{HasPinsLeft}

pub pins_left_released : (reservations : List Reservation) (bs : List BufId) (cmd : Command) → HasPinsLeft reservations (Some cmd) → HasPinsLeft (released reservations bs) (Some cmd)
pins_left_released reservations bs (command.Pin b) h = rw (pins-released reservations bs b) h
pins_left_released reservations bs (command.New b) h = tt
pins_left_released reservations bs (command.Free b) h = tt
pins_left_released reservations bs (command.Unpin b) h = tt
pins_left_released reservations bs (command.Find b) h = tt
pins_left_released reservations bs (command.SwapOut b) h = tt
pins_left_released reservations bs (command.Write b off bytes) h = tt
pins_left_released reservations bs (command.Read b off len) h = tt
pins_left_released reservations bs (command.Move b mem) h = tt
pins_left_released reservations bs (command.Touch group) h = tt
pins_left_released reservations bs (command.Submit engine ops) h = tt
