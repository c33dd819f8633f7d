-- What holds of pins and of courses in every state that a legal journal leads to.
use Rattle.std.specs.Prelude.{◌≡◌, ℕ, ◌≤◌, Bool, true, false, List, Some, slice_get}
use Rattle.ttm_base.specs.declared.BufId.{BufId}
use Rattle.journal_model.specs.declared.script.Script.{Script}
use Rattle.journal_model.specs.declared.script.Command.{Command}
use Rattle.journal_model.specs.declared.script.Command.TheVariants as command
use Rattle.journal_model.specs.declared.state.State.{State}
use Rattle.journal_model.specs.declared.state.Reservation.{Reservation}
use Rattle.journal_model.specs.rules.State.{course, reservation_in}
use Rattle.journal_model.specs.rules.Commands.{commands_of}

-- the command has an entry of its own before its result
abbrev pub makes : Command → Bool
makes (command.New b) = true
makes (command.Free b) = true
makes (command.Touch group) = true
makes (command.Submit engine ops) = true
makes _ = false

-- no buffer has more pins than can be counted
abbrev pub HaveFewPins : List Reservation → Type 0
HaveFewPins reservations = (b : BufId) → (reservation_in reservations b).pins ≤ 255

-- no buffer has more pins than can be counted, and only a command that makes something is made
pub record GoodCourses (script : Script) (s : State) : Type 0 where
  pub pins : HaveFewPins s.reservations
  pub makes : (t : ℕ) (cmd : Command) → slice_get (commands_of script t) (course s t).answered ≡ Some cmd → (course s t).made ≡ true → makes cmd ≡ true
