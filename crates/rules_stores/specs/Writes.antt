-- What must hold for an entry's bytes to be stored. A script that meets the grammar meets it in each state.
use Rattle.std.specs.Prelude.{◌<◌, ◌^◌, Option, Some, length}
use Rattle.ttm_base.specs.declared.Actor.{Actor}
use Rattle.journal_model.specs.declared.script.Script.{Script}
use Rattle.journal_model.specs.declared.script.Command.{Command}
use Rattle.journal_model.specs.declared.script.Command.TheVariants as command
use Rattle.journal_model.specs.declared.state.State.{State}
use Rattle.journal_model.specs.declared.entry.Kind.{Kind}
use Rattle.journal_model.specs.declared.entry.Kind.TheVariants as kind
use Rattle.journal_model.specs.rules.Commands.{command_at_work}
use Rattle.journal_model.specs.rules.Apply.{thread_of}

-- the bytes of a write can be counted
abbrev pub IsShortWrite : Option Command → Type 0
IsShortWrite (Some (command.Write b off bytes)) = length bytes < 2 ^ 32
IsShortWrite _ = Unit {0}

-- what must hold for the bytes of an entry of each kind to be stored
abbrev pub CanStore : Script → State → Actor → Kind → Type 0
CanStore script s who (kind.Result r) = IsShortWrite (command_at_work script s (thread_of who))
CanStore script s who _ = Unit {0}
