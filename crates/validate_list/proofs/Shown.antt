-- What a thread's step is as an entry.
use Rattle.std.proofs.Common.{◌≡◌, ℕ, Bool, true, false, [], Option, Some, None, Ok, Err, refl, ◌∙◌, ap}
use Rattle.std.specs.Prelude.{Result, ◌&&◌, is_some, if◌then◌else◌}
use Rattle.ttm_base.specs.declared.BufId.{BufId}
use Rattle.ttm_base.specs.declared.Deny.{Deny}
use Rattle.ttm_base.specs.declared.Deny.TheVariants as deny
use Rattle.ttm_base.specs.declared.Actor.TheVariants as actor
use Rattle.ttm_base.specs.declared.JobId.{JobId}
use Rattle.ttm_base.specs.declared.Need.{Need}
use Rattle.journal_model.specs.declared.script.Script.{Script}
use Rattle.journal_model.specs.declared.script.Command.{Command}
use Rattle.journal_model.specs.declared.script.Command.TheVariants as command
use Rattle.journal_model.specs.declared.state.State.{State}
use Rattle.journal_model.specs.declared.state.Task.{Task}
use Rattle.journal_model.specs.declared.state.Task.TheVariants as task
use Rattle.journal_model.specs.declared.state.Stage.TheVariants as stage
use Rattle.journal_model.specs.declared.entry.Entry.{Entry}
use Rattle.journal_model.specs.declared.entry.Kind.{Kind}
use Rattle.journal_model.specs.declared.entry.Kind.TheVariants as kind
use Rattle.journal_model.specs.declared.entry.Shown.{Shown}
use Rattle.journal_model.specs.declared.entry.Shown.TheVariants as shown
use Rattle.journal_model.specs.rules.State.{buffer, course}
use Rattle.journal_model.specs.rules.Commands.{command_at_work}
use Rattle.journal_model.specs.rules.Dry.{has_frame}
use Rattle.journal_model.specs.rules.Holds.{free_slot}
use Rattle.journal_model.specs.rules.Search.{Step}
use Rattle.journal_model.specs.rules.PageSteps.{first_frame_page, once_idle, unless_waiting}
use Rattle.journal_model.specs.rules.Next.{plain, step_of_act, step_of_task}
use Rattle.journal_model.specs.rules.Legal.{World, shown_step}
use Rattle.journal_model.specs.rules.Stores.{bytes_of, shown_by_read}
use Rattle.journal_model.specs.rules.Tasks.{stage_of, task_of}
use Rattle.journal_model.specs.rules.Waits.{waited_for, jobs_before_read, jobs_before_write}
use Rattle.room_state.specs.turns.Turns.{Kept, state_behind, world_behind}
use Rattle.room_state.specs.turns.Acting.{entry_by, swaps}
use Rattle.room_state.specs.turns.Turns.{entry_of}
use Rattle.room_state.proofs.turns.Threads.{command_at, next_at}
use Rattle.validate_list.specs.Acts.{act_of, denied, is_read}

-- the answer shows no bytes
abbrev pub is_mute : Shown → Bool
is_mute (shown.Read bytes) = false
is_mute shown.Plain = true
is_mute (shown.Find mem spans) = true

-- nor does the kind
abbrev pub is_bare : Kind → Bool
is_bare (kind.Packet n k piece) = false
is_bare (kind.Result r) = is_mute r
is_bare _ = true

-- nor the step
abbrev pub is_bare_step : Step → Bool
is_bare_step (Ok k) = is_bare k
is_bare_step (Err n) = true

mute_same : (script : Script) (w : World) (t : ℕ) (r : Shown) → is_mute r ≡ true → shown_step script w (actor.Thread t) (Ok (kind.Result r)) ≡ entry_by t (Ok (kind.Result r))
mute_same script w t (shown.Read bytes) h = cc
mute_same script w t shown.Plain h = refl
mute_same script w t (shown.Find mem spans) h = refl

kind_same : (script : Script) (w : World) (t : ℕ) (k : Kind) → is_bare k ≡ true → shown_step script w (actor.Thread t) (Ok k) ≡ entry_by t (Ok k)
kind_same script w t (kind.Packet n k piece) h = cc
kind_same script w t (kind.Result r) h = mute_same script w t r h
kind_same script w t k h = refl

-- such a step is shown as it is
bare_same : (script : Script) (w : World) (t : ℕ) (x : Step) → is_bare_step x ≡ true → shown_step script w (actor.Thread t) x ≡ entry_by t x
bare_same script w t (Ok k) h = kind_same script w t k h
bare_same script w t (Err n) h = refl

-- so the step of such a task is its entry
pub bare_entry : (k : Kept) (t : ℕ) (cmd : Command) (x : Task) → command_at_work k.script (state_behind k) t ≡ Some cmd → task_of k.script (state_behind k) t ≡ x → is_bare_step (step_of_task k.script (state_behind k) (course (state_behind k) t) cmd x) ≡ true →
    entry_of k (actor.Thread t) ≡ entry_by t (step_of_task k.script (state_behind k) (course (state_behind k) t) cmd x)
bare_entry k t cmd x at is bare =
    ap (shown_step k.script (world_behind k) (actor.Thread t)) (next_at k.script (state_behind k) t cmd x at is)
    ∙ bare_same k.script (world_behind k) t (step_of_task k.script (state_behind k) (course (state_behind k) t) cmd x) bare

-- a refusal's entry
pub denied_entry : (k : Kept) (t : ℕ) (d : Deny) → denied (task_of k.script (state_behind k) t) ≡ Some d → entry_of k (actor.Thread t) ≡ Ok (record { who = actor.Thread t; kind = kind.Refused d })
denied_entry k t d h = by (task_of k.script (state_behind k) t) refl h
  where
    by : (x : Task) → task_of k.script (state_behind k) t ≡ x → denied x ≡ Some d → entry_of k (actor.Thread t) ≡ Ok (record { who = actor.Thread t; kind = kind.Refused d })
    by (task.Refuse e) is h =
        let work = command_at k.script (state_behind k) t stage.Act (ap stage_of is) (λ e. cc) in
        let same : e ≡ d = cc in
        bare_entry k t work.0 (task.Refuse e) work.1 is refl ∙ ap (λ x. Ok (record { who = actor.Thread t; kind = kind.Refused x })) same
    by (task.GiveUp e) is h =
        let work = command_at k.script (state_behind k) t stage.Fail (ap stage_of is) (λ e. cc) in
        let same : e ≡ d = cc in
        bare_entry k t work.0 (task.GiveUp e) work.1 is refl ∙ ap (λ x. Ok (record { who = actor.Thread t; kind = kind.Refused x })) same
    by x is h = cc

-- ---- acting

waiting_bare : (o : Option JobId) (k : Kind) → is_bare k ≡ true → is_bare_step (unless_waiting o k) ≡ true
waiting_bare None k h = h
waiting_bare (Some job) k h = refl

-- of a buffer that is swapped out
module _ (script : Script) (s : State) (b : BufId) where
  abbrev out : Option ℕ → Step
  out o = elim o [ None ↦ Ok (kind.Refused deny.NoSwap) | Some slot ↦ once_idle s.core b (kind.SwapOut b (first_frame_page (buffer s b)) slot) ]

  abbrev swapped : Bool → Step
  swapped q = elim q [ false ↦ plain | true ↦ out (free_slot script s.core) ]

  swap_bare : is_bare_step (swapped (has_frame (buffer s b))) ≡ true
  swap_bare = by (has_frame (buffer s b))
    where
      by_slot : (o : Option ℕ) → is_bare_step (out o) ≡ true
      by_slot None = refl
      by_slot (Some slot) = waiting_bare (waited_for s.core (jobs_before_write (buffer s b))) (kind.SwapOut b (first_frame_page (buffer s b)) slot) refl

      by : (q : Bool) → is_bare_step (swapped q) ≡ true
      by false = refl
      by true = by_slot (free_slot script s.core)

  -- where nothing is swapped out the command ends
  pub swap_over : swaps script s (Some (command.SwapOut b)) ≡ false → swapped (has_frame (buffer s b)) ≡ (if has_frame (buffer s b) then Ok (kind.Refused deny.NoSwap) else plain)
  swap_over h = by (has_frame (buffer s b)) (free_slot script s.core) refl h
    where
      by : (q : Bool) (o : Option ℕ) → free_slot script s.core ≡ o → (q && is_some o) ≡ false → swapped q ≡ (if q then Ok (kind.Refused deny.NoSwap) else plain)
      by false o e f = refl
      by true None e f = ap out e
      by true (Some slot) e f = cc

-- all but a read
act_bare : (script : Script) (s : State) (cmd : Command) → is_read cmd ≡ false → is_bare_step (step_of_act script s cmd) ≡ true
act_bare script s (command.Read b off len) h = cc
act_bare script s (command.SwapOut b) h = swap_bare script s b
act_bare script s (command.Write b off bytes) h = waiting_bare (waited_for s.core (jobs_before_write (buffer s b))) (kind.Result shown.Plain) refl
act_bare script s cmd h = refl

module _ (k : Kept) (t : ℕ) where
  abbrev s : State
  s = state_behind k

  abbrev as_shown : Step → Result Entry Need
  as_shown x = shown_step k.script (world_behind k) (actor.Thread t) x

  -- a read with its bytes
  read_same : (b : BufId) (off len : ℕ) → command_at_work k.script s t ≡ Some (command.Read b off len) → as_shown (step_of_act k.script s (command.Read b off len)) ≡ entry_by t (act_of k (command.Read b off len))
  read_same b off len at = by (waited_for s.core (jobs_before_read (buffer s b)))
    where
      by : (o : Option JobId) → as_shown (unless_waiting o (kind.Result (shown.Read []))) ≡ entry_by t (unless_waiting o (kind.Result (shown.Read (bytes_of (world_behind k).stores (buffer s b) off len))))
      by None = ap (λ c. Ok (record { who = actor.Thread t; kind = kind.Result (shown.Read (shown_by_read (world_behind k).stores s c)) })) at
      by (Some job) = refl

  act_same : (cmd : Command) → command_at_work k.script s t ≡ Some cmd → as_shown (step_of_act k.script s cmd) ≡ entry_by t (act_of k cmd)
  act_same (command.Read b off len) at = read_same b off len at
  act_same (command.SwapOut b) at = bare_same k.script (world_behind k) t (step_of_act k.script s (command.SwapOut b)) (act_bare k.script s (command.SwapOut b) refl)
  act_same (command.Write b off bytes) at = bare_same k.script (world_behind k) t (step_of_act k.script s (command.Write b off bytes)) (act_bare k.script s (command.Write b off bytes) refl)
  act_same cmd at = refl

  -- the command's own entry
  pub act_entry : (cmd : Command) → command_at_work k.script s t ≡ Some cmd → task_of k.script s t ≡ task.Act → entry_of k (actor.Thread t) ≡ entry_by t (act_of k cmd)
  act_entry cmd at is = ap as_shown (next_at k.script s t cmd task.Act at is) ∙ act_same cmd at
