-- What a thread is at beside a search: which of its entries is due, and what it waits for.
use Rattle.std.specs.Prelude.{ℕ, Bool, true, false, Option, Some, None, Result, Ok, Err, ◌&&◌, is_some, not, if◌then◌else◌}
use Rattle.ttm_base.specs.declared.JobId.{JobId}
use Rattle.ttm_base.specs.declared.Stamp.{Stamp}
use Rattle.ttm_base.specs.declared.Mem.TheVariants.{Vram}
use Rattle.ttm_base.specs.declared.Actor.TheVariants as actor
use Rattle.ttm_base.specs.declared.Need.{Need}
use Rattle.ttm_base.specs.Reach.{same_mem}
use Rattle.journal_model.specs.declared.script.Script.{Script}
use Rattle.journal_model.specs.declared.script.Command.{Command}
use Rattle.journal_model.specs.declared.script.Command.TheVariants as command
use Rattle.journal_model.specs.declared.state.State.{State}
use Rattle.journal_model.specs.declared.state.Course.{Course}
use Rattle.journal_model.specs.declared.state.Task.{Task}
use Rattle.journal_model.specs.declared.state.Task.TheVariants as task
use Rattle.journal_model.specs.declared.entry.Entry.{Entry}
use Rattle.journal_model.specs.declared.entry.Kind.{Kind}
use Rattle.journal_model.specs.rules.State.{buffer, course, reservation, is_live}
use Rattle.journal_model.specs.rules.Commands.{command_at_work}
use Rattle.journal_model.specs.rules.Dry.{has_frame}
use Rattle.journal_model.specs.rules.Holds.{free_slot}
use Rattle.journal_model.specs.rules.Next.{backs_off}
use Rattle.journal_model.specs.rules.Tasks.{task_of}
use Rattle.journal_model.specs.rules.Waits.{waited_for, jobs_before_read, jobs_before_write}
use Rattle.room_state.specs.declared.turns.Step.{Step}
use Rattle.room_state.specs.declared.turns.Step.TheVariants as step

-- the thread's entry of the given kind, or its need
abbrev pub entry_by : ℕ → Result Kind Need → Result Entry Need
entry_by thread (Ok k) = Ok (record { who = actor.Thread thread; kind = k })
entry_by thread (Err n) = Err n

-- the step that makes an entry, unless something is needed first
abbrev pub made_unless : Option Need → Step
made_unless None = step.Made
made_unless (Some n) = step.Need n

-- ---- locking

-- the holder from which the thread doesn't back off
abbrev pub holder_before : Course → Option Stamp → Option Stamp
holder_before c None = None
holder_before c (Some holder) = if backs_off c holder then None else Some holder

-- the holder that a task waits for
abbrev pub holder_in : State → Course → Task → Option Stamp
holder_in s c (task.Lock b) = if is_live s b then holder_before c (reservation s b).holder else None
holder_in s c _ = None

-- the holder that the thread's task waits for
abbrev pub holder_awaited : Script → State → ℕ → Option Stamp
holder_awaited script s thread = holder_in s (course s thread) (task_of script s thread)

-- ---- acting

-- the command, if it is itself at work: all its buffers are held, in place and filled
abbrev pub command_in : Option Command → Task → Option Command
command_in o task.Act = o
command_in o _ = None

-- the thread's command, if it is itself at work
abbrev pub command_due : Script → State → ℕ → Option Command
command_due script s thread = command_in (command_at_work script s thread) (task_of script s thread)

-- the command frees a buffer
abbrev pub frees : Option Command → Bool
frees (Some (command.Free b)) = true
frees _ = false

-- the command swaps a page out: its buffer has a frame, and a slot is free
abbrev pub swaps : Script → State → Option Command → Bool
swaps script s (Some (command.SwapOut b)) = has_frame (buffer s b) && is_some (free_slot script s.core)
swaps script s _ = false

-- the thread's Free is due
abbrev pub free_due : Script → State → ℕ → Bool
free_due script s thread = frees (command_due script s thread)

-- the thread's SwapOut is due
abbrev pub swap_due : Script → State → ℕ → Bool
swap_due script s thread = swaps script s (command_due script s thread)

-- the job that a read or a write waits for
abbrev pub job_before : State → Option Command → Option JobId
job_before s (Some (command.Write b off bytes)) = waited_for s.core (jobs_before_write (buffer s b))
job_before s (Some (command.Read b off len)) = waited_for s.core (jobs_before_read (buffer s b))
job_before s _ = None

-- the job that the thread's command waits for, if the command is due
abbrev pub job_awaited : Script → State → ℕ → Option JobId
job_awaited script s thread = job_before s (command_due script s thread)

-- ---- carrying

-- the job that an Unbind waits for
abbrev pub job_before_unbind : State → Task → Option JobId
job_before_unbind s (task.Unbind b) = waited_for s.core (jobs_before_write (buffer s b))
job_before_unbind s _ = None

-- ---- failing

-- a search failed and has nothing left to give back
abbrev pub gives_up : Task → Bool
gives_up (task.GiveUp d) = true
gives_up _ = false

-- a target is left to give back, and no frame in VRAM
abbrev pub is_untake : State → Task → Bool
is_untake s (task.GiveBack b) = not (same_mem (buffer s b).mem Vram && has_frame (buffer s b))
is_untake s _ = false
