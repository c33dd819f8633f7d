-- A thread's next entry on the rooms, by its task.
use Rattle.std.proofs.Common.{◌≡◌, ℕ, Bool, true, false, Option, Some, None, Ok, Err, IsSome, refl, sym, ◌∙◌, ap}
use Rattle.std.specs.Prelude.{option_and_then, slice_get}
use Rattle.ttm_base.specs.declared.Actor.TheVariants as actor
use Rattle.ttm_base.specs.declared.Need.{Need}
use Rattle.ttm_base.specs.declared.Need.TheVariants as need
use Rattle.journal_model.specs.declared.script.Script.{Script}
use Rattle.journal_model.specs.declared.script.Command.{Command}
use Rattle.journal_model.specs.declared.state.Course.{Course}
use Rattle.journal_model.specs.declared.state.State.{State}
use Rattle.journal_model.specs.declared.state.Stage.{Stage}
use Rattle.journal_model.specs.declared.state.Stage.TheVariants as stage
use Rattle.journal_model.specs.declared.state.Task.{Task}
use Rattle.journal_model.specs.declared.state.Task.TheVariants as task
use Rattle.journal_model.specs.declared.entry.Kind.{Kind}
use Rattle.journal_model.specs.declared.entry.Kind.TheVariants as kind
use Rattle.journal_model.specs.rules.State.{course, course_of}
use Rattle.journal_model.specs.rules.Commands.{command_at_work, commands_of}
use Rattle.journal_model.specs.rules.Next.{next, step_of_task}
use Rattle.journal_model.specs.rules.Tasks.{task_of, task_of_command, stage_of}
use Rattle.journal_model.specs.rules.Legal.{World, shown_step}
use Rattle.room_state.specs.Kept.{Kept, state_behind, world_behind}
use Rattle.room_state.specs.turns.Turns.{entry_of}

-- ---- the command at work

-- a thread without a command is idle
pub command_left : (script : Script) (s : State) (t : ℕ) → (stage_of (task_of script s t) ≡ stage.Idle → ⊥) → (cmd : Command) × (command_at_work script s t ≡ Some cmd)
command_left script s t h = by (command_at_work script s t) refl
  where
    by : (o : Option Command) → command_at_work script s t ≡ o → (cmd : Command) × (command_at_work script s t ≡ Some cmd)
    by None e = absurd (h (ap (λ o. stage_of (elim o [ None ↦ task.Idle | Some cmd ↦ task_of_command script s (course s t) cmd ])) e))
    by (Some cmd) e = (cmd, e)

-- so of each other stage there is one
pub command_at : (script : Script) (s : State) (t : ℕ) (g : Stage) → stage_of (task_of script s t) ≡ g → (stage.Idle ≡ g → ⊥) → (cmd : Command) × (command_at_work script s t ≡ Some cmd)
command_at script s t g e n = command_left script s t (λ i. n (sym i ∙ e))

-- a thread with a command is there
pub course_there : (script : Script) (s : State) (t : ℕ) (cmd : Command) → command_at_work script s t ≡ Some cmd → IsSome (course_of s t)
course_there script s t cmd h = by (course_of s t) h
  where
    by : (o : Option Course) → option_and_then (λ (c : Course). slice_get (commands_of script t) c.answered) o ≡ Some cmd → IsSome o
    by None e = cc
    by (Some c) e = refl

-- its task is that of its command
pub task_at : (script : Script) (s : State) (t : ℕ) (cmd : Command) → command_at_work script s t ≡ Some cmd → task_of script s t ≡ task_of_command script s (course s t) cmd
task_at script s t cmd h = ap (λ o. elim o [ None ↦ task.Idle | Some cmd ↦ task_of_command script s (course s t) cmd ]) h

-- ---- the step

-- the step of its task is its next one
pub next_at : (script : Script) (s : State) (t : ℕ) (cmd : Command) (x : Task) → command_at_work script s t ≡ Some cmd → task_of script s t ≡ x → next script s (actor.Thread t) ≡ step_of_task script s (course s t) cmd x
next_at script s t cmd x at is =
    ap (λ o. elim o [ None ↦ Err need.NoCommand | Some cmd ↦ step_of_task script s (course s t) cmd (task_of script s t) ]) at
    ∙ ap (step_of_task script s (course s t) cmd) is

-- ---- the entry

-- the kinds that show no bytes
abbrev pub is_quiet : Kind → Bool
is_quiet (kind.Packet n k piece) = false
is_quiet (kind.Result r) = false
is_quiet _ = true

-- such a step is shown as it is
quiet_shown : (script : Script) (w : World) (t : ℕ) (k : Kind) → is_quiet k ≡ true → shown_step script w (actor.Thread t) (Ok k) ≡ Ok (record { who = actor.Thread t; kind = k })
quiet_shown script w t (kind.Packet n i piece) h = cc
quiet_shown script w t (kind.Result r) h = cc
quiet_shown script w t k h = refl

-- a step that shows no bytes is the entry
pub entry_is : (r : Kept) (t : ℕ) (k : Kind) → is_quiet k ≡ true → next r.script (state_behind r) (actor.Thread t) ≡ Ok k → entry_of r (actor.Thread t) ≡ Ok (record { who = actor.Thread t; kind = k })
entry_is r t k quiet h = ap (shown_step r.script (world_behind r) (actor.Thread t)) h ∙ quiet_shown r.script (world_behind r) t k quiet

-- a need stays what it is
pub need_is : (r : Kept) (t : ℕ) (n : Need) → next r.script (state_behind r) (actor.Thread t) ≡ Err n → entry_of r (actor.Thread t) ≡ Err n
need_is r t n h = ap (shown_step r.script (world_behind r) (actor.Thread t)) h
