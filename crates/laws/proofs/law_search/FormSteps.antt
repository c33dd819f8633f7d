-- Neither the version nor the marks of a script change a step or a state.
use Rattle.std.proofs.Common.{◌≡◌, ℕ, true, false, List, [], ◌∷◌, length, Option, Some, None, Result, Ok, Err, refl, ◌∙◌, ap}
use Rattle.std.specs.Prelude.{◌&&◌, not, find, fold, if◌then◌else◌}
use Rattle.ttm_base.specs.ListWords.{last_of}
use Rattle.ttm_base.specs.declared.BufId.{BufId}
use Rattle.ttm_base.specs.declared.Deny.{Deny}
use Rattle.ttm_base.specs.declared.Deny.TheVariants as deny
use Rattle.ttm_base.specs.declared.Need.{Need}
use Rattle.ttm_base.specs.declared.Need.TheVariants as need
use Rattle.ttm_base.specs.declared.Actor.{Actor}
use Rattle.ttm_base.specs.declared.Actor.TheVariants as actor
use Rattle.ttm_base.specs.Placement.{forced_places}
use Rattle.journal_model.specs.declared.script.Script.{Script}
use Rattle.journal_model.specs.declared.script.Mark.{Mark}
use Rattle.journal_model.specs.declared.script.Command.{Command}
use Rattle.journal_model.specs.declared.script.Command.TheVariants as command
use Rattle.journal_model.specs.declared.entry.Entry.{Entry}
use Rattle.journal_model.specs.declared.entry.Kind.{Kind}
use Rattle.journal_model.specs.declared.entry.Kind.TheVariants as kind
use Rattle.journal_model.specs.declared.state.State.{State}
use Rattle.journal_model.specs.declared.state.Course.{Course}
use Rattle.journal_model.specs.declared.state.Buffer.{Buffer}
use Rattle.journal_model.specs.declared.state.Reservation.{Reservation}
use Rattle.journal_model.specs.declared.state.Task.{Task}
use Rattle.journal_model.specs.declared.state.Task.TheVariants as task
use Rattle.journal_model.specs.rules.State.{buffer, reservation, reservation_in, live_in, course, changed, with_course, reservation_changed}
use Rattle.journal_model.specs.rules.Commands.{named, command_at_work}
use Rattle.journal_model.specs.rules.Lists.{listed_as, touched}
use Rattle.journal_model.specs.rules.Ready.{first_unready, has_some_target, is_filled}
use Rattle.journal_model.specs.rules.Search.{is_caught, aim_of}
use Rattle.journal_model.specs.rules.Tasks.{forbidden, gives_back, starts, first_missing, task_of_victim, task_of_misplaced, task_of_unready, task_of_failed, task_of_held, task_of_command}
use Rattle.journal_model.specs.rules.Next.{step_of_act, step_of_task, step_of_thread, next}
use Rattle.journal_model.specs.rules.ApplyCommands.{with_holder, released, with_pins, held_as_named}
use Rattle.journal_model.specs.rules.ApplyPages.{bound, unbound, with_changed}
use Rattle.journal_model.specs.rules.ApplyMoves.{moved}
use Rattle.journal_model.specs.rules.ApplyVictims.{with_fail, gone_dry, course_after_dry}
use Rattle.journal_model.specs.rules.Apply.{applied, thread_of}
use Rattle.journal_model.specs.rules.Stores.{Stores, stores_after, showing, within}
use Rattle.journal_model.specs.rules.Legal.{World, world_after, next_entry, shown_step}
use Rattle.laws.proofs.law_search.FormSearches.{in_form, place_search_same, search_same, meets_same}

module _ (v : ℕ) (ms : List Mark) (script : Script) where
  -- ---- tasks

  pub unready_same : (s : State) (cmd : Command) → first_unready (in_form v ms script) s cmd ≡ first_unready script s cmd
  unready_same s cmd = λ i.
      find (λ b. not ((not (has_some_target (buffer s b)) && meets_same v ms script cmd b (buffer s b) i) && is_filled cmd (buffer s b))) (named cmd)

  unready_task_same : (s : State) (cmd : Command) (b : BufId) → task_of_unready (in_form v ms script) s cmd b ≡ task_of_unready script s cmd b
  unready_task_same s cmd b = λ i.
      elim (not (has_some_target (buffer s b)) && meets_same v ms script cmd b (buffer s b) i) [
        | true ↦ task.Fill b
        | false ↦ task_of_misplaced b (reservation s b) (buffer s b)
      ]

  failed_same : (s : State) (cmd : Command) (d : Deny) → task_of_failed (in_form v ms script) s cmd d ≡ task_of_failed script s cmd d
  failed_same s cmd d = λ i.
      elim (unready_same s cmd i) [
        | Some b ↦ elim (gives_back (buffer s b)) [ true ↦ task.GiveBack b | false ↦ task.GiveUp d ]
        | None ↦ task.GiveUp d
      ]

  held_same : (s : State) (c : Course) (cmd : Command) → task_of_held (in_form v ms script) s c cmd ≡ task_of_held script s c cmd
  held_same s c cmd = λ i.
      elim (forbidden s cmd) [
        | Some d ↦ task.Refuse d
        | None ↦ elim c.fail [
          | Some d ↦ failed_same s cmd d i
          | None ↦ elim (unready_same s cmd i) [ Some b ↦ unready_task_same s cmd b i | None ↦ task.Act ]
        ]
      ]

  command_same : (s : State) (c : Course) (cmd : Command) → task_of_command (in_form v ms script) s c cmd ≡ task_of_command script s c cmd
  command_same s c cmd = λ i.
      elim c.made [
        | true ↦ task.Answer
        | false ↦ elim (starts c cmd) [
          | true ↦ task.Start
          | false ↦ elim (first_missing c cmd) [
            | Some b ↦ task.Lock b
            | None ↦ elim (last_of c.caught) [ Some w ↦ task_of_victim w (buffer s w.b) | None ↦ held_same s c cmd i ]
          ]
        ]
      ]

  -- ---- steps

  act_same : (s : State) (cmd : Command) → step_of_act (in_form v ms script) s cmd ≡ step_of_act script s cmd
  act_same s (command.New b) = refl
  act_same s cmd = refl

  step_same : (s : State) (c : Course) (cmd : Command) (t : Task) → step_of_task (in_form v ms script) s c cmd t ≡ step_of_task script s c cmd t
  step_same s c cmd (task.Search b aim) = λ i. search_same v ms script s c b (place_search_same v ms script cmd c b aim i) i
  step_same s c cmd task.Act = act_same s cmd
  step_same s c cmd x = refl

  thread_same : (s : State) (t : ℕ) → step_of_thread (in_form v ms script) s t ≡ step_of_thread script s t
  thread_same s t = λ i.
      elim (command_at_work script s t) [
        | None ↦ Err need.NoCommand
        | Some cmd ↦ step_same s (course s t) cmd (elim (command_at_work script s t) [ None ↦ task.Idle | Some k ↦ command_same s (course s t) k i ]) i
      ]

  pub next_same : (s : State) (who : Actor) → next (in_form v ms script) s who ≡ next script s who
  next_same s (actor.Thread t) = thread_same s t
  next_same s (actor.Engine e) = refl
  next_same s actor.Reaper = refl

  -- ---- states

  listed_same : (lists : List (List BufId)) (b : BufId) (g : Reservation) (o : Option Buffer) → listed_as (in_form v ms script) lists b g o ≡ listed_as script lists b g o
  listed_same lists b g None = refl
  listed_same lists b g (Some x) = refl

  touched_same : (buffers : List (Option Buffer)) (reservations : List Reservation) (lists : List (List BufId)) (b : BufId) → touched (in_form v ms script) buffers reservations lists b ≡ touched script buffers reservations lists b
  touched_same buffers reservations lists b = listed_same lists b (reservation_in reservations b) (live_in buffers b)

  all_touched_same : (buffers : List (Option Buffer)) (reservations : List Reservation) (bs : List BufId) (lists : List (List BufId)) → fold (touched (in_form v ms script) buffers reservations) lists bs ≡ fold (touched script buffers reservations) lists bs
  all_touched_same buffers reservations [] lists = refl
  all_touched_same buffers reservations (b ∷ bs) lists =
      all_touched_same buffers reservations bs (touched (in_form v ms script) buffers reservations lists b) ∙ ap (λ l. fold (touched script buffers reservations) l bs) (touched_same buffers reservations lists b)

  dry_same : (s : State) (b : BufId) (k : ℕ) (o : Option Command) (c : Course) → course_after_dry (in_form v ms script) s b k o c ≡ course_after_dry script s b k o c
  dry_same s b k None c = refl
  dry_same s b k (Some cmd) c = λ i.
      if is_caught c b
      then with_fail b deny.NoSpace c
      else gone_dry k (length (forced_places (place_search_same v ms script cmd c b (aim_of c b (buffer s b)) i).list)) c

  pub applied_same : (s : State) (who : Actor) (k : Kind) → applied (in_form v ms script) s who k ≡ applied script s who k
  applied_same s who (kind.Bind b) = λ i. record (with_changed bound b s) { lists = touched_same (changed bound s.core.buffers b) s.reservations s.lists b i }
  applied_same s who (kind.Unbind b) = λ i. record (with_changed unbound b s) { lists = touched_same (changed unbound s.core.buffers b) s.reservations s.lists b i }
  applied_same s who (kind.Move b mem n l) =
      ap (λ lists. record (applied script s who (kind.Move b mem n l)) { lists = lists }) (touched_same (changed (moved mem (record { ctx = 0; num = n })) s.core.buffers b) s.reservations s.lists b)
  applied_same s who (kind.Loose b) =
      ap (λ lists. record (applied script s who (kind.Loose b)) { lists = lists }) (touched_same s.core.buffers (reservation_changed (with_holder None) s.reservations b) s.lists b)
  applied_same s who (kind.Dry b k w) =
      ap (λ c. record s { courses = with_course s.courses (thread_of who) c }) (dry_same s b k (command_at_work script s (thread_of who)) (course s (thread_of who)))
  applied_same s who (kind.Result r) =
      ap (λ lists. record (applied script s who (kind.Result r)) { lists = lists })
      (all_touched_same s.core.buffers (with_pins (command_at_work script s (thread_of who)) (released s.reservations (course s (thread_of who)).held))
      (held_as_named (course s (thread_of who)) (command_at_work script s (thread_of who))) s.lists)
  applied_same s who k = refl

  -- ---- bytes

  stores_same : (s : State) (who : Actor) (k : Kind) (stores : Stores) → stores_after (in_form v ms script) s who k stores ≡ stores_after script s who k stores
  stores_same s who (kind.Ticket stamp) stores = refl
  stores_same s who k stores = refl

  showing_same : (stores : Stores) (s : State) (who : Actor) (k : Kind) → showing (in_form v ms script) stores s who k ≡ showing script stores s who k
  showing_same stores s who (kind.Ticket stamp) = refl
  showing_same stores s who k = refl

  -- ---- worlds

  pub world_same : (w : World) (e : Entry) → world_after (in_form v ms script) w e ≡ world_after script w e
  world_same w e = λ i. record { state = applied_same w.state e.who e.kind i; stores = within script.sizes (stores_same w.state e.who e.kind w.stores i) }

  shown_step_same : (w : World) (who : Actor) (r : Result Kind Need) → shown_step (in_form v ms script) w who r ≡ shown_step script w who r
  shown_step_same w who (Ok k) = λ i. Ok (record { who = who; kind = showing_same w.stores w.state who k i })
  shown_step_same w who (Err n) = refl

  pub next_entry_same : (w : World) (who : Actor) → next_entry (in_form v ms script) w who ≡ next_entry script w who
  next_entry_same w who = λ i. shown_step_same w who (next_same w.state who i) i
