-- Which entries of a thread take frames from buffers, and what a buffer that is filled needs first (ttm_bo_swapout, ttm_tt_unpopulate,
-- ttm_tt_populate).
use Rattle.std.specs.Prelude.{ℕ, Bool, false, Option, Some, None, ◌&&◌, ◌||◌, is_some, option_and_then, option_map, if◌then◌else◌}
use Rattle.ttm_base.specs.declared.BufId.{BufId}
use Rattle.ttm_base.specs.declared.JobId.{JobId}
use Rattle.ttm_base.specs.declared.Mem.TheVariants.{Vram}
use Rattle.ttm_base.specs.declared.Need.{Need}
use Rattle.ttm_base.specs.declared.Need.TheVariants as need
use Rattle.ttm_base.specs.Reach.{same_mem}
use Rattle.journal_model.specs.declared.script.Script.{Script}
use Rattle.journal_model.specs.declared.script.Command.{Command}
use Rattle.journal_model.specs.declared.script.Command.TheVariants as command
use Rattle.journal_model.specs.declared.state.State.{State}
use Rattle.journal_model.specs.declared.state.Course.{Course}
use Rattle.journal_model.specs.declared.state.Task.{Task}
use Rattle.journal_model.specs.declared.state.Task.TheVariants as task
use Rattle.journal_model.specs.declared.entry.Why.{Why}
use Rattle.journal_model.specs.declared.entry.Why.TheVariants as why
use Rattle.journal_model.specs.rules.State.{buffer, course}
use Rattle.journal_model.specs.rules.Commands.{command_at_work}
use Rattle.journal_model.specs.rules.Dry.{ghost_with_frame, has_frame, swap_victim}
use Rattle.journal_model.specs.rules.Holds.{free_frame, free_slot}
use Rattle.journal_model.specs.rules.PageSteps.{why_caught}
use Rattle.journal_model.specs.rules.Tasks.{task_of}
use Rattle.journal_model.specs.rules.Waits.{waited_for, jobs_before_write}

-- ---- a page goes to a slot

-- the victim `b`, where it was caught for swap
abbrev pub if_for_swap : BufId → Option Why → Option BufId
if_for_swap b (Some why.Swap) = Some b
if_for_swap b _ = None

-- the buffer of the command, if it is a swapout
abbrev pub if_swapout : Option Command → Option BufId
if_swapout (Some (command.SwapOut b)) = Some b
if_swapout _ = None

-- the buffer whose frames go to slots: a victim that was caught for swap, or that of a command at work
abbrev pub swapped_at : Option Command → Course → Task → Option BufId
swapped_at cmd c (task.Empty b) = if_for_swap b (why_caught c b)
swapped_at cmd c task.Act = if_swapout cmd
swapped_at cmd c _ = None

-- the buffer of the thread whose frames go to slots
abbrev pub swapped : Script → State → ℕ → Option BufId
swapped script s thread = swapped_at (command_at_work script s thread) (course s thread) (task_of script s thread)

-- a page of the buffer can go to a slot: the buffer has a frame, and a slot is free
abbrev pub can_swap : Script → State → Option BufId → Bool
can_swap script s None = false
can_swap script s (Some b) = has_frame (buffer s b) && is_some (free_slot script s.core)

-- a thread's SwapOut is due, whether the buffer is idle or not
abbrev pub swap_out_due : Script → State → ℕ → Bool
swap_out_due script s thread = can_swap script s (swapped script s thread)

-- the job of the swapped buffer that isn't done yet
abbrev pub job_before_swap : Script → State → ℕ → Option JobId
job_before_swap script s thread = option_and_then (λ b. waited_for s.core (jobs_before_write (buffer s b))) (swapped script s thread)

-- ---- frames are given back

-- a buffer that gives back what its search took stands in VRAM and has a frame
abbrev pub gives_frames : State → Task → Bool
gives_frames s (task.GiveBack b) = same_mem (buffer s b).mem Vram && has_frame (buffer s b)
gives_frames s _ = false

-- a thread's Depopulate is due
abbrev pub depopulate_due : Script → State → ℕ → Bool
depopulate_due script s thread = gives_frames s (task_of script s thread)

-- ---- a page gets a frame

-- a frame is free, or a buffer that can be swapped will give one
abbrev pub finds_frame : Script → State → Bool
finds_frame script s = is_some (free_frame script s.core) || (is_some (free_slot script s.core) && is_some (swap_victim s))

-- the first ghost that holds a frame, where none is available otherwise
abbrev pub ghost_before_frame : Script → State → Option Need
ghost_before_frame script s = if finds_frame script s then None else option_map (λ g. need.Ghost g.num) (ghost_with_frame s)
