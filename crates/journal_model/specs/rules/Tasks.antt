-- What a thread has to do next: the rules for a command at work, the first that applies. Each function tells which of the ten rules it is
-- part of; `task_of_command` has them in their order.
use Rattle.std.specs.Prelude.{ℕ, Bool, true, false, ◌++◌, Option, Some, None, ◌==◌, ◌&&◌, ◌||◌, not, nat_lt, find, option_to_list, is_none, if◌then◌else◌}
use Rattle.ttm_base.specs.ListWords.{last_of}
use Rattle.journal_model.specs.Types.{BufId, Buffer, Command, Course, Deny, Mem, Reservation, Script, Stage, State, Task, Victim}
use Rattle.journal_model.specs.Limits.{max_pins}
use Rattle.ttm_base.specs.declared.Mem.TheVariants.{System, Tt, Vram}
use Rattle.ttm_base.specs.declared.Deny.TheVariants as deny
use Rattle.ttm_base.specs.Reach.{same_mem}
use Rattle.journal_model.specs.declared.entry.Why.TheVariants as why
use Rattle.journal_model.specs.declared.script.Command.TheVariants as command
use Rattle.journal_model.specs.declared.state.SearchAim.TheVariants.{Asked, Hop}
use Rattle.journal_model.specs.declared.state.Task.TheVariants as task
use Rattle.journal_model.specs.declared.state.Stage.TheVariants as stage
use Rattle.journal_model.specs.rules.State.{course, buffer, reservation, has_buffer, has_target}
use Rattle.journal_model.specs.rules.Commands.{named, command_at_work}
use Rattle.journal_model.specs.rules.Dry.{has_frame}
use Rattle.journal_model.specs.rules.Ready.{has_all_frames, has_some_target, is_in_place, first_unready}

-- rules 3 and 4: the command has yet to begin. `new` and `touch` take no ticket, and have nothing else to do; each other command takes one
abbrev pub starts : Course → Command → Bool
starts c (command.New b) = true
starts c (command.Touch group) = true
starts c _ = is_none c.stamp

-- rule 5: the first buffer that isn't held, of the one of the last backoff and then those that the command names, in their order
abbrev pub first_missing : Course → Command → Option BufId
first_missing c cmd = find (λ b. not (has_buffer c.held b)) (option_to_list c.first ++ named cmd)

-- rules 6 and 9: fill the buffer first where a page of it has no frame, and only then go on with `next`
abbrev pub filled_then : Task → BufId → Buffer → Task
filled_then next b x = elim (has_all_frames x) [ true ↦ next | false ↦ task.Fill b ]

-- rules 6 and 8: the buffer has a target, or frames while it is in VRAM, that a search or fill took and that can be given back
abbrev pub gives_back : Buffer → Bool
gives_back x = (same_mem x.mem Vram && has_frame x) || has_some_target x

-- rule 6: a victim that is still in VRAM searches pages in TT, is filled with frames and is moved there. Where its search or fill failed it
-- gives back what it took, and is skipped
abbrev pub task_in_vram : Victim → Buffer → Task
task_in_vram v x =
    elim v.fail [
      | Some deny ↦ elim (gives_back x) [ true ↦ task.GiveBack v.b | false ↦ task.Skip v.b ]
      | None ↦ elim (has_target Tt x) [ true ↦ filled_then (task.Move v.b Tt) v.b x | false ↦ task.Search v.b Hop ]
    ]

-- rule 6: the last victim that was caught. With a target in SYSTEM it is unbound; one for swap or out of TT is emptied and let go, and so is
-- one that has left VRAM
abbrev pub task_of_victim : Victim → Buffer → Task
task_of_victim v x =
    elim (has_target System x) [
      | true ↦ task.Unbind v.b
      | false ↦ elim v.why [
        | why.Tt ↦ task.Empty v.b
        | why.Swap ↦ task.Empty v.b
        | why.Vram ↦ elim (same_mem x.mem Vram) [ true ↦ task_in_vram v x | false ↦ task.Empty v.b ]
      ]
    ]

-- rule 7: why the command may not be asked of its buffer, if it may not: one pin too many, no pin to take away, or a pinned buffer
abbrev pub forbidden : State → Command → Option Deny
forbidden s (command.Pin b) = if (reservation s b).pins == max_pins then Some deny.PinMax else None
forbidden s (command.Unpin b) = if (reservation s b).pins == 0 then Some deny.NotPinned else None
forbidden s (command.Free b) = if nat_lt 0 (reservation s b).pins then Some deny.Pinned else None
forbidden s (command.SwapOut b) = if nat_lt 0 (reservation s b).pins then Some deny.Pinned else None
forbidden s _ = None

-- rule 8: the search or the fill failed. The buffer at work gives back what it took, piece by piece; then the command is refused
abbrev pub task_of_failed : Script → State → Command → Deny → Task
task_of_failed script s cmd d =
    elim (first_unready script s cmd) [
      | Some b ↦ elim (gives_back (buffer s b)) [ true ↦ task.GiveBack b | false ↦ task.GiveUp d ]
      | None ↦ task.GiveUp d
    ]

-- rule 9: how a buffer with targets goes on, by where it stands. From SYSTEM it is filled and bound to TT, or searches TT for the hop; from TT
-- it is unbound to SYSTEM or moved to VRAM; within VRAM it is moved; from VRAM it is filled and moved to TT, or searches TT for the hop
abbrev pub carried : Mem → BufId → Buffer → Task
carried System b x = elim (has_target Tt x) [ true ↦ filled_then (task.Bind b) b x | false ↦ task.Search b Hop ]
carried Tt b x = elim (has_target System x || has_target Tt x) [ true ↦ task.Unbind b | false ↦ task.Move b Vram ]
carried Vram b x =
    elim (has_target Vram x) [
      | true ↦ task.Move b Vram
      | false ↦ elim (has_target Tt x) [ true ↦ filled_then (task.Move b Tt) b x | false ↦ task.Search b Hop ]
    ]

-- rule 9: a buffer that isn't in place. Refused where it is pinned; carried on where it has a target; else it searches the places asked for
abbrev pub task_of_misplaced : BufId → Reservation → Buffer → Task
task_of_misplaced b g x =
    elim (nat_lt 0 g.pins) [
      | true ↦ task.Refuse deny.Pinned
      | false ↦ elim (has_some_target x) [ true ↦ carried x.mem b x | false ↦ task.Search b Asked ]
    ]

-- rule 9: the first named buffer that isn't in place or isn't filled. In place it is filled
abbrev pub task_of_unready : Script → State → Command → BufId → Task
task_of_unready script s cmd b =
    elim (is_in_place script cmd b (buffer s b)) [ true ↦ task.Fill b | false ↦ task_of_misplaced b (reservation s b) (buffer s b) ]

-- rules 7 to 10: what is left once each buffer is held and no victim is caught
abbrev pub task_of_held : Script → State → Course → Command → Task
task_of_held script s c cmd =
    elim (forbidden s cmd) [
      | Some d ↦ task.Refuse d
      | None ↦ elim c.fail [
        | Some d ↦ task_of_failed script s cmd d
        | None ↦ elim (first_unready script s cmd) [ Some b ↦ task_of_unready script s cmd b | None ↦ task.Act ]
      ]
    ]

-- The rules in their order, the first that applies. 1: no command is left (`task_of`). 2: the command has done what it is for.
-- 3, 4: it begins. 5: a named buffer isn't held. 6: a victim is caught. 7: the command may not be asked of its buffer. 8: its search
-- or fill failed. 9: a named buffer isn't in place or isn't filled. 10: the command itself.
abbrev pub task_of_command : Script → State → Course → Command → Task
task_of_command script s c cmd =
    elim c.made [
      | true ↦ task.Answer
      | false ↦ elim (starts c cmd) [
        | true ↦ task.Start
        | false ↦ elim (first_missing c cmd) [
          | Some b ↦ task.Lock b
          | None ↦ elim (last_of c.caught) [ Some v ↦ task_of_victim v (buffer s v.b) | None ↦ task_of_held script s c cmd ]
        ]
      ]
    ]

-- rule 1, where no command is left, and then the others
abbrev pub task_of : Script → State → ℕ → Task
task_of script s thread =
    elim (command_at_work script s thread) [ None ↦ task.Idle | Some cmd ↦ task_of_command script s (course s thread) cmd ]

-- the group of rules that a task belongs to
abbrev pub stage_of : Task → Stage
stage_of task.Idle = stage.Idle
stage_of task.Answer = stage.Act
stage_of task.Start = stage.Start
stage_of (task.Lock b) = stage.Lock
stage_of (task.Search b aim) = stage.Search
stage_of (task.Bind b) = stage.Carry
stage_of (task.Unbind b) = stage.Carry
stage_of (task.Move b mem) = stage.Carry
stage_of (task.Fill b) = stage.Fill
stage_of (task.Empty b) = stage.Empty
stage_of (task.GiveBack b) = stage.Fail
stage_of (task.Skip b) = stage.Fail
stage_of (task.GiveUp d) = stage.Fail
stage_of (task.Refuse d) = stage.Act
stage_of task.Act = stage.Act
