-- Where every job is finished and there is no ghost, a thread at a command has an entry, unless it waits for a holder.
use Rattle.std.proofs.Common.{◌≡◌, subst, Err, ℕ, Bool, true, false, List, [], Option, Some, None, refl, sym, arith}
use Rattle.std.proofs.lemmas.Grind.{common_steps}
use Rattle.std.specs.Prelude.{Ok, is_ok}
use Rattle.ttm_base.specs.declared.Mem.{Mem}
use Rattle.ttm_base.specs.declared.Mem.TheVariants.{System, Tt, Vram}
use Rattle.ttm_base.specs.declared.Deny.{Deny}
use Rattle.ttm_base.specs.declared.Deny.TheVariants as deny
use Rattle.ttm_base.specs.declared.Need.TheVariants as need
use Rattle.ttm_base.specs.ListWords.{last_of}
use Rattle.ttm_base.specs.declared.BufId.{BufId}
use Rattle.ttm_base.specs.declared.Stamp.{Stamp}
use Rattle.ttm_base.specs.declared.Place.{Place}
use Rattle.ttm_base.specs.declared.JobId.{JobId}
use Rattle.ttm_base.specs.declared.Actor.TheVariants as actor
use Rattle.journal_model.specs.declared.script.Script.{Script}
use Rattle.journal_model.specs.declared.state.State.{State}
use Rattle.journal_model.specs.declared.state.Buffer.{Buffer}
use Rattle.journal_model.specs.declared.state.Course.{Course}
use Rattle.journal_model.specs.declared.state.Reservation.{Reservation}
use Rattle.ttm_base.specs.Placement.{forced_places}
use Rattle.journal_model.specs.declared.state.Victim.{Victim}
use Rattle.journal_model.specs.declared.entry.Kind.{Kind}
use Rattle.journal_model.specs.declared.entry.Kind.TheVariants as kind
use Rattle.journal_model.specs.declared.script.Command.{Command}
use Rattle.journal_model.specs.declared.script.Command.TheVariants as command
use Rattle.journal_model.specs.declared.state.Task.{Task}
use Rattle.journal_model.specs.declared.state.Task.TheVariants as task
use Rattle.journal_model.specs.rules.State.{course, buffer, reservation, is_live}
use Rattle.journal_model.specs.rules.Commands.{command_at_work}
use Rattle.journal_model.specs.rules.Waits.{waited_for, jobs_before_write, jobs_before_read}
use Rattle.journal_model.specs.rules.Dry.{ghost_in, ghost_with_frame}
use Rattle.journal_model.specs.rules.Ready.{is_in_place, first_unready}
use Rattle.journal_model.specs.rules.Tasks.{carried, task_of_misplaced, task_of_unready, task_of_failed, gives_back, forbidden, task_of_command, task_of_held, task_of_victim, first_missing, starts}
use Rattle.journal_model.specs.rules.Search.{Step, PlaceSearch, place_search, step_of_place_search, step_of_forced, step_of_forced_place, step_of_crowded}
use Rattle.journal_model.specs.rules.PageSteps.{step_of_fill, step_without_frame, step_without_victim, step_of_empty, step_of_swap_out, once_idle}
use Rattle.journal_model.specs.rules.Next.{step_of_task, step_of_act, step_of_start, step_of_lock, step_of_holder, backs_off}
use Rattle.journal_model.specs.statements.DeadEnd.{can_step}
use Rattle.laws.specs.law_sound.Sound.{wants, wanted}

-- all jobs are done and all ghosts are gone
pub record Quiet (s : State) : Type 0 where
  pub jobs : (is : List JobId) → waited_for s.core is ≡ None
  pub ghosts : s.core.ghosts ≡ []

module _ (script : Script) (s : State) (quiet : Quiet s) where
  no_ghost_in : (place : Place) → ghost_in script s place ≡ None
  no_ghost_in place = let g : s.core.ghosts ≡ [] = quiet.ghosts in grind (arith, common_steps)

  no_ghost_with_frame : ghost_with_frame s ≡ None
  no_ghost_with_frame = let g : s.core.ghosts ≡ [] = quiet.ghosts in grind (arith, common_steps)

  crowded_ok : (c : Course) (b : BufId) (k : ℕ) (place : Place) → is_ok (step_of_crowded script s c b k place) ≡ true
  crowded_ok c b k place = let g : ghost_in script s place ≡ None = no_ghost_in place in grind (arith, common_steps)

  forced_ok : (c : Course) (b : BufId) (k : ℕ) (place : Place) → is_ok (step_of_forced_place script s c b k place) ≡ true
  forced_ok c b k place = let g : is_ok (step_of_crowded script s c b k place) ≡ true = crowded_ok c b k place in grind (arith, common_steps)

  place_search_ok : (c : Course) (b : BufId) (q : PlaceSearch) → is_ok (step_of_place_search script s c b q) ≡ true
  place_search_ok c b q = let g : is_ok (step_of_forced script s c b q.dry (forced_places q.list)) ≡ true = forced_ok c b q.dry _ in grind (arith, common_steps)

  without_victim_ok : (b : BufId) → is_ok (step_without_victim s b) ≡ true
  without_victim_ok b = let g : ghost_with_frame s ≡ None = no_ghost_with_frame in grind (arith, common_steps)

  without_frame_ok : (b : BufId) → is_ok (step_without_frame script s b) ≡ true
  without_frame_ok b = let g : is_ok (step_without_victim s b) ≡ true = without_victim_ok b in grind (arith, common_steps)

  fill_ok : (b : BufId) → is_ok (step_of_fill script s b) ≡ true
  fill_ok b = let g : is_ok (step_without_frame script s b) ≡ true = without_frame_ok b in grind (arith, common_steps)

  idle_ok : (b : BufId) (k : Kind) → is_ok (once_idle s.core b k) ≡ true
  idle_ok b k = let g : waited_for s.core (jobs_before_write (buffer s b)) ≡ None = quiet.jobs _ in grind (arith, common_steps)

  swap_out_ok : (b : BufId) (k l : Kind) → is_ok (step_of_swap_out script s b (Ok k) (Ok l)) ≡ true
  swap_out_ok b k l = let g : waited_for s.core (jobs_before_write (buffer s b)) ≡ None = quiet.jobs _ in grind (arith, common_steps)

  -- every task but these two
  abbrev goes_on : Task → Bool
  goes_on task.Idle = false
  goes_on (task.Lock b) = false
  goes_on _ = true

  act_ok : (cmd : Command) → is_ok (step_of_act script s cmd) ≡ true
  act_ok (command.SwapOut b) = swap_out_ok b _ _
  act_ok (command.Write b off bytes) = idle_ok b _
  act_ok (command.Read b off len) = let g : waited_for s.core (jobs_before_read (buffer s b)) ≡ None = quiet.jobs _ in grind (arith, common_steps)
  act_ok cmd = refl

  start_ok : (cmd : Command) → is_ok (step_of_start s cmd) ≡ true
  start_ok (command.New b) = refl
  start_ok cmd = refl

  empty_ok : (c : Course) (b : BufId) → is_ok (step_of_empty script s c b) ≡ true
  empty_ok c b = let g : is_ok (step_of_swap_out script s b (Ok (kind.Loose b)) (Ok (kind.Loose b))) ≡ true = swap_out_ok b _ _ in grind (arith, common_steps)

  task_ok : (c : Course) (cmd : Command) (k : Task) → goes_on k ≡ true → is_ok (step_of_task script s c cmd k) ≡ true
  task_ok c cmd task.Idle h = cc
  task_ok c cmd task.Start h = start_ok cmd
  task_ok c cmd (task.Lock b) h = cc
  task_ok c cmd (task.Search b aim) h = place_search_ok c b (place_search script cmd c b aim)
  task_ok c cmd (task.Unbind b) h = idle_ok b _
  task_ok c cmd (task.Fill b) h = fill_ok b
  task_ok c cmd (task.Empty b) h = empty_ok c b
  task_ok c cmd task.Act h = act_ok cmd
  task_ok c cmd x h = refl

  victim_goes_on : (v : Victim) (x : Buffer) → goes_on (task_of_victim v x) ≡ true
  victim_goes_on v x = grind (arith, common_steps)

  carried_goes_on : (mem : Mem) (b : BufId) (x : Buffer) → goes_on (carried mem b x) ≡ true
  carried_goes_on System b x = grind (arith, common_steps)
  carried_goes_on Tt b x = grind (arith, common_steps)
  carried_goes_on Vram b x = grind (arith, common_steps)

  misplaced_goes_on : (b : BufId) (g : Reservation) (x : Buffer) → goes_on (task_of_misplaced b g x) ≡ true
  misplaced_goes_on b g x = let on : goes_on (carried x.mem b x) ≡ true = carried_goes_on x.mem b x in grind (arith, common_steps)

  unready_goes_on : (cmd : Command) (b : BufId) → goes_on (task_of_unready script s cmd b) ≡ true
  unready_goes_on cmd b =
      by_place (is_in_place script cmd b (buffer s b)) b (misplaced_goes_on b (reservation s b) (buffer s b))
    where
      by_place : (q : Bool) (b : BufId) → goes_on (task_of_misplaced b (reservation s b) (buffer s b)) ≡ true → goes_on (elim q [ true ↦ task.Fill b | false ↦ task_of_misplaced b (reservation s b) (buffer s b) ]) ≡ true
      by_place true b h = refl
      by_place false b h = h

  failed_goes_on : (cmd : Command) (d : Deny) → goes_on (task_of_failed script s cmd d) ≡ true
  failed_goes_on cmd d = by_buffer (first_unready script s cmd)
    where
      by_gift : (q : Bool) (b : BufId) → goes_on (elim q [ true ↦ task.GiveBack b | false ↦ task.GiveUp d ]) ≡ true
      by_gift true b = refl
      by_gift false b = refl

      by_buffer : (o : Option BufId) → goes_on (elim o [ Some b ↦ elim (gives_back (buffer s b)) [ true ↦ task.GiveBack b | false ↦ task.GiveUp d ] | None ↦ task.GiveUp d ]) ≡ true
      by_buffer None = refl
      by_buffer (Some b) = by_gift (gives_back (buffer s b)) b

  held_goes_on : (c : Course) (cmd : Command) → goes_on (task_of_held script s c cmd) ≡ true
  held_goes_on c cmd = by_ban (forbidden s cmd) c.fail (first_unready script s cmd)
    where
      by_ban : (o : Option Deny) (f : Option Deny) (u : Option BufId) →
          goes_on (elim o [
            | Some d ↦ task.Refuse d
            | None ↦ elim f [
              | Some d ↦ task_of_failed script s cmd d
              | None ↦ elim u [ Some b ↦ task_of_unready script s cmd b | None ↦ task.Act ]
            ]
          ]) ≡ true
      by_ban (Some d) f u = refl
      by_ban None (Some d) u = failed_goes_on cmd d
      by_ban None None (Some b) = unready_goes_on cmd b
      by_ban None None None = refl

  pub task_goes_on : (c : Course) (cmd : Command) → wants c cmd ≡ None → goes_on (task_of_command script s c cmd) ≡ true
  task_goes_on c cmd h = by_phase c.made (starts c cmd) (first_missing c cmd) (last_of c.caught) h
    where
      by_phase : (made began : Bool) (m : Option BufId) (v : Option Victim) → wanted made began m ≡ None →
          goes_on (elim made [
            | true ↦ task.Answer
            | false ↦ elim began [
              | true ↦ task.Start
              | false ↦ elim m [
                | Some b ↦ task.Lock b
                | None ↦ elim v [ Some w ↦ task_of_victim w (buffer s w.b) | None ↦ task_of_held script s c cmd ]
              ]
            ]
          ]) ≡ true
      by_phase true began m v h = refl
      by_phase false true m v h = refl
      by_phase false false (Some b) v h = cc
      by_phase false false None (Some w) h = victim_goes_on w (buffer s w.b)
      by_phase false false None None h = held_goes_on c cmd

  abbrev task_at : Course → Option Command → Task
  task_at c o = elim o [ None ↦ task.Idle | Some cmd ↦ task_of_command script s c cmd ]

  abbrev step_at : Course → Option Command → Task → Step
  step_at c o k = elim o [ None ↦ Err need.NoCommand | Some cmd ↦ step_of_task script s c cmd k ]

  pub thread_goes_on : (t : ℕ) (cmd : Command) → command_at_work script s t ≡ Some cmd → wants (course s t) cmd ≡ None → can_step script s (actor.Thread t) ≡ true
  thread_goes_on t cmd w h =
      let k : is_ok (step_of_task script s (course s t) cmd (task_of_command script s (course s t) cmd)) ≡ true =
      task_ok (course s t) cmd (task_of_command script s (course s t) cmd) (task_goes_on (course s t) cmd h) in
      subst (λ o. is_ok (step_at (course s t) o (task_at (course s t) o)) ≡ true) (sym w) k

  -- a thread that wants a buffer has an entry, but where it needs its holder
  pub locking_goes_on : (t : ℕ) (cmd : Command) (b : BufId) → command_at_work script s t ≡ Some cmd → wants (course s t) cmd ≡ Some b →
      ((st : Stamp) → (reservation s b).holder ≡ Some st → backs_off (course s t) st ≡ true) → can_step script s (actor.Thread t) ≡ true
  locking_goes_on t cmd b w h backs =
      let lock : task_of_command script s (course s t) cmd ≡ task.Lock b = is_lock (course s t) cmd b h in
      let k : is_ok (step_of_lock s (course s t) b) ≡ true = lock_ok (course s t) b (is_live s b) (reservation s b).holder backs in
      let m : is_ok (step_of_task script s (course s t) cmd (task_of_command script s (course s t) cmd)) ≡ true =
      subst (λ d. is_ok (step_of_task script s (course s t) cmd d) ≡ true) (sym lock) k in
      subst (λ o. is_ok (step_at (course s t) o (task_at (course s t) o)) ≡ true) (sym w) m
    where
      is_lock : (c : Course) (cmd : Command) (b : BufId) → wants c cmd ≡ Some b → task_of_command script s c cmd ≡ task.Lock b
      is_lock c cmd b h = by_phase c.made (starts c cmd) (first_missing c cmd) (elim (last_of c.caught) [ Some v ↦ task_of_victim v (buffer s v.b) | None ↦ task_of_held script s c cmd ]) h
        where
          by_phase : (made began : Bool) (m : Option BufId) (k : Task) → wanted made began m ≡ Some b →
              (elim made [ true ↦ task.Answer | false ↦ elim began [ true ↦ task.Start | false ↦ elim m [ Some d ↦ task.Lock d | None ↦ k ] ] ]) ≡ task.Lock b
          by_phase true began m k h = cc
          by_phase false true m k h = cc
          by_phase false false (Some d) k h = cc
          by_phase false false None k h = cc

      lock_ok : (c : Course) (b : BufId) (live : Bool) (o : Option Stamp) → ((st : Stamp) → o ≡ Some st → backs_off c st ≡ true) →
          is_ok (elim live [ false ↦ Ok (kind.Refused deny.NoBuffer) | true ↦ step_of_holder c b o ]) ≡ true
      lock_ok c b false o k = refl
      lock_ok c b true None k = refl
      lock_ok c b true (Some st) k = let e : backs_off c st ≡ true = k st refl in grind (arith, common_steps)
