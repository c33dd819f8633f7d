-- What a thread's entry tells of its command.
use Rattle.std.proofs.Common.{◌≡◌, ℕ, Bool, true, false, Option, Some, None, Ok, Err, refl, arith}
use Rattle.std.specs.Prelude.{not, ◌&&◌, ◌==◌}
use Rattle.std.proofs.lemmas.Grind.{common_steps}
use Rattle.std.proofs.lemmas.Bool.Decides.{nat_tests}
use Rattle.ttm_base.specs.declared.BufId.{BufId}
use Rattle.ttm_base.specs.declared.Need.TheVariants as need
use Rattle.ttm_base.specs.declared.Actor.TheVariants as actor
use Rattle.journal_model.specs.declared.script.Script.{Script}
use Rattle.journal_model.specs.declared.script.Command.{Command}
use Rattle.journal_model.specs.declared.script.Command.TheVariants as command
use Rattle.journal_model.specs.declared.state.State.{State}
use Rattle.journal_model.specs.declared.state.Course.{Course}
use Rattle.journal_model.specs.declared.state.Task.{Task}
use Rattle.journal_model.specs.declared.state.Task.TheVariants as task
use Rattle.journal_model.specs.declared.entry.Kind.{Kind}
use Rattle.journal_model.specs.declared.entry.Kind.TheVariants as kind
use Rattle.journal_model.specs.rules.State.{course, same_buffer}
use Rattle.journal_model.specs.rules.Commands.{command_at_work}
use Rattle.journal_model.specs.rules.Tasks.{task_of_command}
use Rattle.journal_model.specs.rules.Search.{Step}
use Rattle.journal_model.specs.rules.PageSteps.{next_job}
use Rattle.journal_model.specs.rules.Next.{next, step_of_task, step_of_act}

-- ---- kinds on jobs

abbrev pub is_move : Kind → Bool
is_move (kind.Move b mem n l) = true
is_move _ = false

abbrev pub is_arm : Kind → Bool
is_arm (kind.Arm engine n) = true
is_arm _ = false

-- packets, their ends, and reaped ghosts
abbrev pub is_of_worker : Kind → Bool
is_of_worker (kind.Packet n k piece) = true
is_of_worker (kind.Done n) = true
is_of_worker (kind.Reap g) = true
is_of_worker _ = false

-- the move of a buffer by the next job of the move engine
abbrev pub is_move_of : State → BufId → Kind → Bool
is_move_of s b (kind.Move c mem n l) = same_buffer b c && (n == next_job s 0)
is_move_of s b _ = false

-- an arm is that of a job, and its number is the next one
abbrev pub is_arm_of : State → Command → Kind → Bool
is_arm_of s (command.Submit engine ops) (kind.Arm e n) = (e == engine) && (n == next_job s engine)
is_arm_of s cmd (kind.Arm e n) = false
is_arm_of s cmd _ = true

-- ---- what a thread's entry tells

-- a thread with an entry is at a command, and the entry is the step of its task
pub record ThreadStep (script : Script) (s : State) (t : ℕ) (k : Kind) : Type 0 where
  pub cmd : Command
  pub at_work : command_at_work script s t ≡ Some cmd
  pub task : Task
  pub is_task : task ≡ task_of_command script s (course s t) cmd
  pub step : step_of_task script s (course s t) cmd task ≡ Ok k

abbrev task_at : Script → State → Course → Option Command → Task
task_at script s c o = elim o [ None ↦ task.Idle | Some cmd ↦ task_of_command script s c cmd ]

abbrev step_at : Script → State → Course → Option Command → Task → Step
step_at script s c o t = elim o [ None ↦ Err need.NoCommand | Some cmd ↦ step_of_task script s c cmd t ]

pub thread_step : (script : Script) (s : State) (t : ℕ) (k : Kind) → next script s (actor.Thread t) ≡ Ok k → ThreadStep script s t k
thread_step script s t k h = by (command_at_work script s t) refl h
  where
    by : (o : Option Command) → command_at_work script s t ≡ o → step_at script s (course s t) o (task_at script s (course s t) o) ≡ Ok k → ThreadStep script s t k
    by None e g = cc
    by (Some cmd) e g = record { cmd = cmd; at_work = e; task = task_of_command script s (course s t) cmd; is_task = refl; step = g }

-- which task makes which of the kinds on jobs
abbrev pub is_made_by : State → Command → Task → Kind → Bool
is_made_by s cmd (task.Move b mem) k = is_move_of s b k
is_made_by s cmd task.Act k = not (is_move k) && not (is_of_worker k) && is_arm_of s cmd k
is_made_by s cmd t k = not (is_move k) && not (is_of_worker k) && not (is_arm k)

act_makes : (script : Script) (s : State) (cmd : Command) (k : Kind) → step_of_act script s cmd ≡ Ok k → is_made_by s cmd task.Act k ≡ true
act_makes script s (command.New b) k h = grind (arith, common_steps, nat_tests)
act_makes script s cmd k h = grind (arith, common_steps, nat_tests)

-- each step tells what made it
pub made_by_task : (script : Script) (s : State) (c : Course) (cmd : Command) (t : Task) (k : Kind) → step_of_task script s c cmd t ≡ Ok k → is_made_by s cmd t k ≡ true
made_by_task script s c cmd task.Act k h = act_makes script s cmd k h
made_by_task script s c cmd t k h = grind (arith, common_steps, nat_tests)
