-- What a command does once all is held, in place and filled.
use Rattle.std.specs.Prelude.{◌≡◌, ◌<◌, Bool, true, false, Option, Some, None, Result, length}
use Rattle.ttm_base.specs.declared.BufId.{BufId}
use Rattle.ttm_base.specs.declared.Deny.{Deny}
use Rattle.ttm_base.specs.declared.Need.{Need}
use Rattle.journal_model.specs.declared.script.Command.{Command}
use Rattle.journal_model.specs.declared.script.Command.TheVariants as command
use Rattle.journal_model.specs.declared.state.Task.{Task}
use Rattle.journal_model.specs.declared.state.Task.TheVariants as task
use Rattle.journal_model.specs.declared.entry.Kind.{Kind}
use Rattle.journal_model.specs.declared.entry.Kind.TheVariants as kind
use Rattle.journal_model.specs.declared.entry.Shown.TheVariants as shown
use Rattle.journal_model.specs.rules.State.{buffer, has_buffer}
use Rattle.journal_model.specs.rules.Commands.{named}
use Rattle.journal_model.specs.scripts.CommandRules.{is_command}
use Rattle.journal_model.specs.rules.Next.{step_of_act}
use Rattle.journal_model.specs.rules.PageSteps.{unless_waiting}
use Rattle.journal_model.specs.rules.Stores.{bytes_of}
use Rattle.journal_model.specs.rules.Waits.{waited_for, jobs_before_read}
use Rattle.laws.specs.lemma_bytes_told.Told.{IsThere}
use Rattle.room_state.specs.turns.Turns.{Kept, state_behind, world_behind}
use Rattle.room_state.specs.turns.Acting.{frees, swaps}

-- the command shows bytes of a buffer
abbrev pub is_read : Command → Bool
is_read (command.Read b off len) = true
is_read _ = false

-- the step of a command itself, with the bytes that a read shows
abbrev pub act_of : Kept → Command → Result Kind Need
act_of k (command.Read b off len) =
    unless_waiting
    (waited_for (state_behind k).core (jobs_before_read (buffer (state_behind k) b)))
    (kind.Result (shown.Read (bytes_of (world_behind k).stores (buffer (state_behind k) b) off len)))
act_of k cmd = step_of_act k.script (state_behind k) cmd

-- a command of the script is at work. Its buffers are live, and neither its Free nor its SwapOut is due
pub record IsActing (k : Kept) (cmd : Command) : Type 0 where
  pub fits : is_command k.script cmd ≡ true
  pub there : (b : BufId) → has_buffer (named cmd) b ≡ true → IsThere (state_behind k) b
  pub declared : (b : BufId) → has_buffer (named cmd) b ≡ true → b.0 < length k.script.buffers
  pub no_free : frees (Some cmd) ≡ false
  pub no_swap : swaps k.script (state_behind k) (Some cmd) ≡ false

-- why the task refuses the command, if it does
abbrev pub denied : Task → Option Deny
denied (task.Refuse d) = Some d
denied (task.GiveUp d) = Some d
denied _ = None
