-- For what a thread waits that locks or acts.
use Rattle.std.proofs.Common.{◌≡◌, ℕ, ◌<◌, Bool, true, false, ◌⊎◌, ⊎_elim, Option, Some, None, Ok, Err, IsTrue, length, refl, sym, ◌∙◌, ap, arith}
use Rattle.std.specs.Prelude.{◌&&◌, nat_lt, option_map, if◌then◌else◌}
use Rattle.std.proofs.lemmas.Bool.Decides.{nat_tests}
use Rattle.ttm_base.specs.declared.Actor.TheVariants as actor
use Rattle.ttm_base.specs.declared.BufId.{BufId}
use Rattle.ttm_base.specs.declared.JobId.{JobId}
use Rattle.ttm_base.specs.declared.Stamp.{Stamp}
use Rattle.ttm_base.specs.declared.Deny.TheVariants as deny
use Rattle.ttm_base.specs.declared.Need.TheVariants as need
use Rattle.journal_model.specs.declared.script.Command.{Command}
use Rattle.journal_model.specs.declared.script.Command.TheVariants as command
use Rattle.journal_model.specs.declared.state.Course.{Course}
use Rattle.journal_model.specs.declared.state.State.{State}
use Rattle.journal_model.specs.declared.state.Stage.TheVariants as stage
use Rattle.journal_model.specs.declared.state.Task.{Task}
use Rattle.journal_model.specs.declared.state.Task.TheVariants as task
use Rattle.journal_model.specs.declared.entry.Kind.{Kind}
use Rattle.journal_model.specs.declared.entry.Kind.TheVariants as kind
use Rattle.journal_model.specs.declared.entry.Shown.TheVariants as shown
use Rattle.journal_model.specs.rules.State.{buffer, course, reservation, is_live}
use Rattle.journal_model.specs.rules.Commands.{command_at_work}
use Rattle.journal_model.specs.rules.Dry.{has_frame}
use Rattle.journal_model.specs.rules.Legal.{IsLegal}
use Rattle.journal_model.specs.scripts.ScriptRules.{is_script}
use Rattle.journal_model.specs.rules.Next.{backs_off, plain, step_of_holder, step_of_lock, step_of_task}
use Rattle.journal_model.specs.rules.PageSteps.{unless_waiting}
use Rattle.journal_model.specs.rules.Search.{Step}
use Rattle.journal_model.specs.rules.Stores.{bytes_of}
use Rattle.journal_model.specs.rules.Tasks.{task_of, stage_of}
use Rattle.journal_model.specs.rules.Waits.{waited_for, jobs_before_read, jobs_before_write}
use Rattle.room_state.specs.turns.Turns.{Kept, state_behind, world_behind}
use Rattle.room_state.specs.declared.turns.Step as answers
use Rattle.room_state.specs.turns.Acting.{command_due, command_in, entry_by, holder_awaited, holder_before, holder_in, job_awaited, job_before, made_unless, swap_due, swaps}
use Rattle.room_state.specs.turns.Turns.{entry_of, step_of}
use Rattle.room_state.proofs.turns.Threads.{command_at}
use Rattle.room_state.proofs.turns.Works.{lock_other}
use Rattle.validate_list.specs.Acts.{act_of}
use Rattle.validate_list.proofs.Acting.{due_is}
use Rattle.validate_list.proofs.Shown.{act_entry, bare_entry, is_bare_step, swap_over}

-- a holder is backed off from, by the ticket and what is held
abbrev backs_by : Option Stamp → Stamp → ℕ → Bool
backs_by o holder count = elim o [ None ↦ false | Some mine ↦ nat_lt holder.0 mine.0 && nat_lt 0 count ]

-- what is answered to a step
abbrev pub answer_to : ℕ → Step → answers.Step
answer_to t x = step_of (entry_by t x)

-- ---- locking

module _ (c : Course) (mine : Stamp) (count : ℕ) (b : BufId) (o : Option Stamp) (h : Stamp) (stamp : c.stamp ≡ Some mine) (many : count ≡ length c.held) (is : o ≡ Some h) where
  decided : (q : Bool) → (nat_lt h.0 mine.0 && nat_lt 0 count) ≡ q → step_of_holder c b o ≡ (if q then Ok (kind.Backoff b h) else Err (need.Holder h))
  decided q e =
      let back : backs_off c h ≡ q = ap (λ x. backs_by x h (length c.held)) stamp ∙ ap (λ n. nat_lt h.0 mine.0 && nat_lt 0 n) (sym many) ∙ e in
      ap (step_of_holder c b) is ∙ ap (λ (q : Bool). if q then Ok (kind.Backoff b h) else Err (need.Holder h)) back

  -- an older holder is backed off from
  pub backs : h.0 < mine.0 → IsTrue (nat_lt 0 count) → Ok (kind.Backoff b h) ≡ step_of_holder c b o
  backs older holds = let e : (nat_lt h.0 mine.0 && nat_lt 0 count) ≡ true = grind (arith, nat_tests) in sym (decided true e)

  -- any other is waited for
  pub stays : (mine.0 < h.0) ⊎ (nat_lt 0 count ≡ false) → Err (need.Holder h) ≡ step_of_holder c b o
  stays younger =
      let e : (nat_lt h.0 mine.0 && nat_lt 0 count) ≡ false = ⊎_elim (λ (y : mine.0 < h.0). grind (arith, nat_tests)) (λ (n : nat_lt 0 count ≡ false). grind (arith, nat_tests)) younger in
      sym (decided false e)

module _ (s : State) (c : Course) (t : ℕ) (b : BufId) where
  holder_waits : (o : Option Stamp) → answer_to t (step_of_holder c b o) ≡ made_unless (option_map need.Holder (holder_before c o))
  holder_waits None = refl
  holder_waits (Some h) = by (backs_off c h)
    where
      by : (q : Bool) → answer_to t (if q then Ok (kind.Backoff b h) else Err (need.Holder h)) ≡ made_unless (option_map need.Holder (if q then None else Some h))
      by true = refl
      by false = refl

  lock_waits : answer_to t (step_of_lock s c b) ≡ made_unless (option_map need.Holder (holder_in s c (task.Lock b)))
  lock_waits = by (is_live s b)
    where
      by : (q : Bool) → answer_to t (elim q [ false ↦ Ok (kind.Refused deny.NoBuffer) | true ↦ step_of_holder c b (reservation s b).holder ]) ≡ made_unless (option_map need.Holder (if q then holder_before c (reservation s b).holder else None))
      by false = refl
      by true = holder_waits (reservation s b).holder

  -- the step of a lock shows no bytes
  pub lock_bare : is_bare_step (step_of_lock s c b) ≡ true
  lock_bare = by (is_live s b)
    where
      by_holder : (o : Option Stamp) → is_bare_step (step_of_holder c b o) ≡ true
      by_holder None = refl
      by_holder (Some h) = by_age (backs_off c h)
        where
          by_age : (q : Bool) → is_bare_step (if q then Ok (kind.Backoff b h) else Err (need.Holder h)) ≡ true
          by_age true = refl
          by_age false = refl

      by : (q : Bool) → is_bare_step (elim q [ false ↦ Ok (kind.Refused deny.NoBuffer) | true ↦ step_of_holder c b (reservation s b).holder ]) ≡ true
      by false = refl
      by true = by_holder (reservation s b).holder

module _ (k : Kept) (t : ℕ) where
  abbrev s : State
  s = state_behind k

  -- who locks is at a command
  locker : (b : BufId) → task_of k.script s t ≡ task.Lock b → (cmd : Command) × (command_at_work k.script s t ≡ Some cmd)
  locker b is = command_at k.script s t stage.Lock (ap stage_of is) (λ e. cc)

  -- for whom a thread waits that locks
  pub lock_awaits : (b : BufId) → task_of k.script s t ≡ task.Lock b → step_of (entry_of k (actor.Thread t)) ≡ made_unless (option_map need.Holder (holder_awaited k.script s t))
  lock_awaits b is =
      let work = locker b is in
      ap step_of (bare_entry k t work.0 (task.Lock b) work.1 is (lock_bare s (course s t) t b))
      ∙ lock_waits s (course s t) t b
      ∙ ap (λ x. made_unless (option_map need.Holder (holder_in s (course s t) x))) (sym is)

  -- never for itself
  pub locks_other : (b : BufId) → task_of k.script s t ≡ task.Lock b → IsTrue (is_script k.script) → IsLegal k.script k.journal → (mine : Stamp) → (course s t).stamp ≡ Some mine → (reservation s b).holder ≡ Some mine → ⊥
  locks_other b is fits legal mine stamp holder = let work = locker b is in lock_other k.script k.journal fits legal t work.0 work.1 b is mine stamp holder

  -- ---- acting

  fence_waits : (x : Kind) (o : Option JobId) → answer_to t (unless_waiting o x) ≡ made_unless (option_map need.Fence o)
  fence_waits x None = refl
  fence_waits x (Some job) = refl

  swap_waits : (b : BufId) → swaps k.script s (Some (command.SwapOut b)) ≡ false → answer_to t (act_of k (command.SwapOut b)) ≡ made_unless None
  swap_waits b h = ap (answer_to t) (swap_over k.script s b h) ∙ by (has_frame (buffer s b))
    where
      by : (q : Bool) → answer_to t (if q then Ok (kind.Refused deny.NoSwap) else plain) ≡ made_unless None
      by true = refl
      by false = refl

  -- for which job a command waits
  act_waits : (cmd : Command) → swaps k.script s (Some cmd) ≡ false → answer_to t (act_of k cmd) ≡ made_unless (option_map need.Fence (job_before s (Some cmd)))
  act_waits (command.SwapOut b) h = swap_waits b h
  act_waits (command.Write b off bytes) h = fence_waits (kind.Result shown.Plain) (waited_for s.core (jobs_before_write (buffer s b)))
  act_waits (command.Read b off len) h = fence_waits (kind.Result (shown.Read (bytes_of (world_behind k).stores (buffer s b) off len))) (waited_for s.core (jobs_before_read (buffer s b)))
  act_waits cmd h = refl

  -- and a thread
  module _ (no_swap : swap_due k.script s t ≡ false) where
    own_waits : (cmd : Command) → command_at_work k.script s t ≡ Some cmd → task_of k.script s t ≡ task.Act → step_of (entry_of k (actor.Thread t)) ≡ made_unless (option_map need.Fence (job_awaited k.script s t))
    own_waits cmd at is =
        let due = due_is k t cmd at is in
        let out : swaps k.script s (Some cmd) ≡ false = sym (ap (swaps k.script s) due) ∙ no_swap in
        ap step_of (act_entry k t cmd at is) ∙ act_waits cmd out ∙ ap (λ o. made_unless (option_map need.Fence (job_before s o))) (sym due)

    plain_waits : (cmd : Command) (x : Task) (y : Kind) → command_at_work k.script s t ≡ Some cmd → task_of k.script s t ≡ x → step_of_task k.script s (course s t) cmd x ≡ Ok y → is_bare_step (Ok y) ≡ true → command_in (Some cmd) x ≡ None →
        step_of (entry_of k (actor.Thread t)) ≡ made_unless (option_map need.Fence (job_awaited k.script s t))
    plain_waits cmd x y at is step bare out =
        let bares : is_bare_step (step_of_task k.script s (course s t) cmd x) ≡ true = ap is_bare_step step ∙ bare in
        let none : command_due k.script s t ≡ None = ap (command_in (command_at_work k.script s t)) is ∙ ap (λ o. command_in o x) at ∙ out in
        ap step_of (bare_entry k t cmd x at is bares) ∙ ap (answer_to t) step ∙ ap (λ o. made_unless (option_map need.Fence (job_before s o))) (sym none)

    task_waits : (cmd : Command) (x : Task) → command_at_work k.script s t ≡ Some cmd → task_of k.script s t ≡ x → stage_of x ≡ stage.Act → step_of (entry_of k (actor.Thread t)) ≡ made_unless (option_map need.Fence (job_awaited k.script s t))
    task_waits cmd task.Act at is h = own_waits cmd at is
    task_waits cmd task.Answer at is h = plain_waits cmd task.Answer (kind.Result shown.Plain) at is refl refl refl
    task_waits cmd (task.Refuse d) at is h = plain_waits cmd (task.Refuse d) (kind.Refused d) at is refl refl refl
    task_waits cmd x at is h = cc

    -- for which job a thread waits that acts
    pub task_awaits : stage_of (task_of k.script s t) ≡ stage.Act → step_of (entry_of k (actor.Thread t)) ≡ made_unless (option_map need.Fence (job_awaited k.script s t))
    task_awaits h = let work = command_at k.script s t stage.Act h (λ e. cc) in task_waits work.0 (task_of k.script s t) work.1 refl h
