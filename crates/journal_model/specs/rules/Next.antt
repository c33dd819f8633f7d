-- The entry that an actor makes next in a state, or what it needs first. Rules are those of `Tasks`, which says which one applies; here each
-- gives its entry or need. What a read or a probe shows is left empty, since the bytes are not in the state.
use Rattle.std.specs.Prelude.{ℕ, ◌+◌, Bool, true, false, [], Option, Some, None, Ok, Err, ◌==◌, ◌&&◌, not, nat_lt, find, length, slice_get, if◌then◌else◌}
use Rattle.journal_model.specs.Types.{Actor, BufId, Command, Course, Job, Kind, Script, Stamp, State, Task}
use Rattle.ttm_base.specs.declared.Actor.TheVariants as actor
use Rattle.ttm_base.specs.declared.Need.TheVariants as need
use Rattle.ttm_base.specs.declared.Deny.TheVariants as deny
use Rattle.journal_model.specs.declared.script.Command.TheVariants as command
use Rattle.journal_model.specs.declared.entry.Kind.TheVariants as kind
use Rattle.journal_model.specs.declared.entry.Shown.TheVariants as shown
use Rattle.journal_model.specs.declared.state.Task.TheVariants as task
use Rattle.journal_model.specs.rules.State.{buffer, reservation, is_live, course}
use Rattle.journal_model.specs.rules.Commands.{command_at_work}
use Rattle.journal_model.specs.rules.Waits.{waited_for, jobs_before_read, is_idle}
use Rattle.journal_model.specs.rules.Search.{Step, place_search, step_of_place_search}
use Rattle.journal_model.specs.rules.PageSteps.{unless_waiting, once_idle, step_of_fill, step_of_swap_out, step_of_empty, step_of_move, step_of_give_back, next_job, next_ghost}
use Rattle.journal_model.specs.rules.Tasks.{task_of}

-- ---- starting and locking (ww_mutex, wait-die)

-- rule 4: takes the next stamp
abbrev pub next_ticket : State → Kind
next_ticket s = kind.Ticket (record { 0 = s.last_stamp + 1 })

-- rules 3 and 4: the first step of a command. `new` is refused where the buffer is live; `touch` is its bulk move; any other takes a ticket
abbrev pub step_of_start : State → Command → Step
step_of_start s (command.New b) = Ok (if is_live s b then kind.Refused deny.Exists else kind.New b)
step_of_start s (command.Touch group) = Ok (kind.Bulk group)
step_of_start s _ = Ok (next_ticket s)

-- rule 5: the thread has a younger stamp than the `holder` of the buffer, and holds a buffer itself, so it backs off
abbrev pub backs_off : Course → Stamp → Bool
backs_off c holder = elim c.stamp [ None ↦ false | Some mine ↦ nat_lt holder.0 mine.0 && nat_lt 0 (length c.held) ]

-- rule 5: reserves a live buffer that nobody holds; where it has a holder, backs off or waits for that one
abbrev pub step_of_holder : Course → BufId → Option Stamp → Step
step_of_holder c b None = Ok (kind.Reserve b)
step_of_holder c b (Some holder) = if backs_off c holder then Ok (kind.Backoff b holder) else Err (need.Holder holder)

-- rule 5: the next named buffer; refused where it is dead
abbrev pub step_of_lock : State → Course → BufId → Step
step_of_lock s c b = elim (is_live s b) [ false ↦ Ok (kind.Refused deny.NoBuffer) | true ↦ step_of_holder c b (reservation s b).holder ]

-- ---- acting

-- rule 2, and rule 10 of commands that have nothing more to do: a result that shows nothing
abbrev pub plain : Step
plain = Ok (kind.Result shown.Plain)

-- rule 10: the command itself, once all is held, in place and filled
abbrev pub step_of_act : Script → State → Command → Step
step_of_act script s (command.Submit engine ops) = Ok (kind.Arm engine (next_job s engine))
step_of_act script s (command.Free b) = Ok (kind.Free b (if is_idle s.core (buffer s b) then 0 else next_ghost s))
step_of_act script s (command.SwapOut b) = step_of_swap_out script s b plain (Ok (kind.Refused deny.NoSwap))
step_of_act script s (command.Write b off bytes) = once_idle s.core b (kind.Result shown.Plain)
step_of_act script s (command.Read b off len) =
    unless_waiting (waited_for s.core (jobs_before_read (buffer s b))) (kind.Result (shown.Read []))
step_of_act script s (command.Find b) = Ok (kind.Result (shown.Find (buffer s b).mem (buffer s b).spans))
step_of_act script s (command.Pin b) = plain
step_of_act script s (command.Unpin b) = plain
step_of_act script s (command.Move b mem) = plain
step_of_act script s (command.New b) = plain
step_of_act script s (command.Touch group) = plain

-- ---- the actors

-- the step of each task. A search, a move, a fill and so on may come of more than one rule
abbrev pub step_of_task : Script → State → Course → Command → Task → Step
step_of_task script s c cmd task.Idle = Err need.NoCommand
step_of_task script s c cmd task.Answer = plain
step_of_task script s c cmd task.Start = step_of_start s cmd
step_of_task script s c cmd (task.Lock b) = step_of_lock s c b
step_of_task script s c cmd (task.Search b aim) = step_of_place_search script s c b (place_search script cmd c b aim)
step_of_task script s c cmd (task.Bind b) = Ok (kind.Bind b)
step_of_task script s c cmd (task.Unbind b) = once_idle s.core b (kind.Unbind b)
step_of_task script s c cmd (task.Move b mem) = step_of_move s c b mem
step_of_task script s c cmd (task.Fill b) = step_of_fill script s b
step_of_task script s c cmd (task.Empty b) = step_of_empty script s c b
step_of_task script s c cmd (task.GiveBack b) = step_of_give_back s b
step_of_task script s c cmd (task.Skip b) = Ok (kind.Skip b)
step_of_task script s c cmd (task.GiveUp d) = Ok (kind.Refused d)
step_of_task script s c cmd (task.Refuse d) = Ok (kind.Refused d)
step_of_task script s c cmd task.Act = step_of_act script s cmd

-- a thread's step, by rule 1 where no command is left, and else by the first of the others that applies
abbrev pub step_of_thread : Script → State → ℕ → Step
step_of_thread script s thread =
    elim (command_at_work script s thread) [
      | None ↦ Err need.NoCommand
      | Some cmd ↦ step_of_task script s (course s thread) cmd (task_of script s thread)
    ]

-- the job at the head of a context
abbrev pub head_of : State → ℕ → Option Job
head_of s ctx = find (λ j. (j.id.ctx == ctx) && not j.finished) s.core.jobs

-- the job's next packet, once all that the job waits for is done, or its end where no packet is left
abbrev pub step_of_job : State → Job → Step
step_of_job s j =
    elim (nat_lt j.ran (length j.packets)) [
      | true ↦ unless_waiting (waited_for s.core j.waits) (kind.Packet j.id.num j.ran [])
      | false ↦ Ok (kind.Done j.id.num)
    ]

-- an engine works on the job at the head of its context
abbrev pub step_of_engine : State → ℕ → Step
step_of_engine s ctx = elim (head_of s ctx) [ None ↦ Err need.NoJob | Some j ↦ step_of_job s j ]

-- the first ghost goes once its jobs are done (ttm_bo_delayed_delete)
abbrev pub step_of_reaper : State → Step
step_of_reaper s =
    elim (slice_get s.core.ghosts 0) [ None ↦ Err need.NoGhost | Some g ↦ unless_waiting (waited_for s.core g.jobs) (kind.Reap g.num) ]

-- the entry that an actor makes next, or what it needs first
abbrev pub next : Script → State → Actor → Step
next script s (actor.Thread t) = step_of_thread script s t
next script s (actor.Engine e) = step_of_engine s e
next script s actor.Reaper = step_of_reaper s
