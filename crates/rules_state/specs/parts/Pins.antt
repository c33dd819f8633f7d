-- Whether a buffer can be pinned once more.
use Rattle.std.specs.Prelude.{◌<◌, List, Option, Some}
use Rattle.ttm_base.specs.declared.BufId.{BufId}
use Rattle.journal_model.specs.declared.script.Command.{Command}
use Rattle.journal_model.specs.declared.script.Command.TheVariants as command
use Rattle.journal_model.specs.declared.state.Reservation.{Reservation}
use Rattle.journal_model.specs.rules.State.{reservation_in}

-- the buffer can be pinned once more
abbrev pub CanPin : List Reservation → BufId → Type 0
CanPin reservations b = (reservation_in reservations b).pins < 255

-- the command pins no buffer that is pinned as often as can be counted
abbrev pub HasPinsLeft : List Reservation → Option Command → Type 0
HasPinsLeft reservations (Some (command.Pin b)) = CanPin reservations b
HasPinsLeft reservations _ = Unit {0}
