-- What the table of buffers tells of tasks is what the state does.
use Rattle.std.proofs.Common.{◌≡◌, ℕ, Bool, true, false, List, [], ◌∷◌, Option, Some, None, length, refl, sym, ◌∙◌, ap, ap₂, arith}
use Rattle.std.specs.Prelude.{◌==◌, ◌&&◌, not, nat_lt, cond, find, option_map, option_and_then, slice_get, unwrap_or, if◌then◌else◌}
use Rattle.std.proofs.lemmas.List.{length-map}
use Rattle.ttm_base.specs.ListWords.{last_of}
use Rattle.ttm_base.specs.declared.BufId.{BufId}
use Rattle.ttm_base.specs.declared.Deny.{Deny}
use Rattle.ttm_base.specs.declared.Deny.TheVariants as deny
use Rattle.bo_table.specs.Seen.{Bos}
use Rattle.bo_table.proofs.TableLaws.{get_map}
use Rattle.journal_model.specs.declared.script.Script.{Script}
use Rattle.journal_model.specs.declared.script.Command.{Command}
use Rattle.journal_model.specs.declared.script.Command.TheVariants as command
use Rattle.journal_model.specs.declared.entry.Entry.{Entry}
use Rattle.journal_model.specs.declared.state.Buffer.{Buffer}
use Rattle.journal_model.specs.declared.state.Course.{Course}
use Rattle.journal_model.specs.declared.state.Reservation.{Reservation}
use Rattle.journal_model.specs.declared.state.State.{State}
use Rattle.journal_model.specs.declared.state.Task.{Task}
use Rattle.journal_model.specs.declared.state.Task.TheVariants as task
use Rattle.journal_model.specs.declared.state.Victim.{Victim}
use Rattle.journal_model.specs.rules.Commands.{commands_of, named}
use Rattle.journal_model.specs.rules.Legal.{state_of}
use Rattle.journal_model.specs.rules.Ready.{is_in_place, is_filled, is_ready, first_unready}
use Rattle.journal_model.specs.rules.State.{buffer, reservation, reservation_in, live_in, new_buffer, new_course}
use Rattle.journal_model.specs.rules.Tasks.{starts, first_missing, forbidden, gives_back, task_of_victim, task_of_failed, task_of_misplaced, task_of_unready, task_of_held, task_of_command, task_of}
use Rattle.laws.proofs.law_sound.Along.{sound_law}
use Rattle.room_representation.specs.declared.parts.Parts.{Parts}
use Rattle.room_representation.specs.Bos.{AreBos, unfenced}
use Rattle.room_representation.specs.Held.{AreHeld}
use Rattle.room_representation.specs.steps.Courses.{course_at}
use Rattle.room_state.specs.task_finding.Seen.{seen, HasReservations}
use Rattle.room_state.proofs.task_finding.Unfenced.{in_place_same, ready_same, victim_same, misplaced_same}

-- tests that agree find the same
find_same : {A : Type 0} (p q : A → Bool) (xs : List A) → ((x : A) → p x ≡ q x) → find p xs ≡ find q xs
find_same p q [] h = refl
find_same p q (x ∷ xs) h = ap₂ (λ t o. cond t (Some x) o) (h x) (find_same p q xs h)

module _ (script : Script) (s : State) (last : List ℕ) (t : Bos) (represents : AreBos script s.core.buffers s.reservations last t) where
  buffer_seen : (b : BufId) → buffer (seen t) b ≡ unfenced (buffer s b)
  buffer_seen b =
      ap (λ xs. unwrap_or (live_in xs b) (new_buffer 0)) represents.buffers_are
      ∙ ap (λ o. unwrap_or (option_and_then (λ x. x) o) (new_buffer 0)) (get_map (option_map unfenced) s.core.buffers b.0)
      ∙ by (slice_get s.core.buffers b.0)
    where
      by : (o : Option (Option Buffer)) → unwrap_or (option_and_then (λ x. x) (option_map (option_map unfenced) o)) (new_buffer 0) ≡ unfenced (unwrap_or (option_and_then (λ x. x) o) (new_buffer 0))
      by None = refl
      by (Some None) = refl
      by (Some (Some x)) = refl

  reservation_seen : (b : BufId) → reservation (seen t) b ≡ reservation s b
  reservation_seen b = ap (λ gs. reservation_in gs b) represents.reservations_are

  in_place_seen : (cmd : Command) (b : BufId) → is_in_place script cmd b (buffer (seen t) b) ≡ is_in_place script cmd b (buffer s b)
  in_place_seen cmd b = ap (is_in_place script cmd b) (buffer_seen b) ∙ in_place_same script cmd b (buffer s b)

  ready_seen : (cmd : Command) (b : BufId) → is_ready script (seen t) cmd b ≡ is_ready script s cmd b
  ready_seen cmd b = ap (λ x. is_in_place script cmd b x && is_filled cmd x) (buffer_seen b) ∙ ready_same script cmd b (buffer s b)

  -- the named buffer at work
  pub unready_seen : (cmd : Command) → first_unready script (seen t) cmd ≡ first_unready script s cmd
  unready_seen cmd = find_same (λ b. not (is_ready script (seen t) cmd b)) (λ b. not (is_ready script s cmd b)) (named cmd) (λ b. ap not (ready_seen cmd b))

  -- what a command may not ask
  pub forbidden_seen : (cmd : Command) → forbidden (seen t) cmd ≡ forbidden s cmd
  forbidden_seen (command.Pin b) = ap (λ (g : Reservation). if g.pins == 255 then Some deny.PinMax else None) (reservation_seen b)
  forbidden_seen (command.Unpin b) = ap (λ (g : Reservation). if g.pins == 0 then Some deny.NotPinned else None) (reservation_seen b)
  forbidden_seen (command.Free b) = ap (λ (g : Reservation). if nat_lt 0 g.pins then Some deny.Pinned else None) (reservation_seen b)
  forbidden_seen (command.SwapOut b) = ap (λ (g : Reservation). if nat_lt 0 g.pins then Some deny.Pinned else None) (reservation_seen b)
  forbidden_seen cmd = refl

  -- what can be given back
  pub gives_seen : (b : BufId) → gives_back (buffer (seen t) b) ≡ gives_back (buffer s b)
  gives_seen b = ap gives_back (buffer_seen b)

  victim_seen : (v : Victim) → task_of_victim v (buffer (seen t) v.b) ≡ task_of_victim v (buffer s v.b)
  victim_seen v = ap (task_of_victim v) (buffer_seen v.b) ∙ victim_same v (buffer s v.b)

  failed_seen : (cmd : Command) (d : Deny) → task_of_failed script (seen t) cmd d ≡ task_of_failed script s cmd d
  failed_seen cmd d =
      ap (λ o. elim o [ Some b ↦ elim (gives_back (buffer (seen t) b)) [ true ↦ task.GiveBack b | false ↦ task.GiveUp d ] | None ↦ task.GiveUp d ]) (unready_seen cmd)
      ∙ by (first_unready script s cmd)
    where
      by : (o : Option BufId) → ◌≡◌ {A = Task}
          (elim o [ Some b ↦ elim (gives_back (buffer (seen t) b)) [ true ↦ task.GiveBack b | false ↦ task.GiveUp d ] | None ↦ task.GiveUp d ])
          (elim o [ Some b ↦ elim (gives_back (buffer s b)) [ true ↦ task.GiveBack b | false ↦ task.GiveUp d ] | None ↦ task.GiveUp d ])
      by (Some b) = ap (λ q. elim q [ true ↦ task.GiveBack b | false ↦ task.GiveUp d ]) (gives_seen b)
      by None = refl

  at_work_seen : (cmd : Command) (b : BufId) → task_of_unready script (seen t) cmd b ≡ task_of_unready script s cmd b
  at_work_seen cmd b =
      ap₂ (λ q next. elim q [ true ↦ task.Fill b | false ↦ next ]) (in_place_seen cmd b)
      (ap₂ (λ g x. task_of_misplaced b g x) (reservation_seen b) (buffer_seen b) ∙ misplaced_same b (reservation s b) (buffer s b))

  held_seen : (c : Course) (cmd : Command) → task_of_held script (seen t) c cmd ≡ task_of_held script s c cmd
  held_seen c cmd =
      ap₂ (λ o u. elim o [
        | Some d ↦ task.Refuse d
        | None ↦ elim c.fail [ Some d ↦ task_of_failed script (seen t) cmd d | None ↦ elim u [ Some b ↦ task_of_unready script (seen t) cmd b | None ↦ task.Act ] ]
      ]) (forbidden_seen cmd) (unready_seen cmd)
      ∙ ap (λ next. elim (forbidden s cmd) [ Some d ↦ task.Refuse d | None ↦ next ]) (by_fail c.fail)
    where
      by_unready : (o : Option BufId) → ◌≡◌ {A = Task} (elim o [ Some b ↦ task_of_unready script (seen t) cmd b | None ↦ task.Act ]) (elim o [ Some b ↦ task_of_unready script s cmd b | None ↦ task.Act ])
      by_unready (Some b) = at_work_seen cmd b
      by_unready None = refl

      by_fail : (o : Option Deny) → ◌≡◌ {A = Task}
          (elim o [ Some d ↦ task_of_failed script (seen t) cmd d | None ↦ elim (first_unready script s cmd) [ Some b ↦ task_of_unready script (seen t) cmd b | None ↦ task.Act ] ])
          (elim o [ Some d ↦ task_of_failed script s cmd d | None ↦ elim (first_unready script s cmd) [ Some b ↦ task_of_unready script s cmd b | None ↦ task.Act ] ])
      by_fail (Some d) = failed_seen cmd d
      by_fail None = by_unready (first_unready script s cmd)

  -- what a command has to do next
  pub command_seen : (c : Course) (cmd : Command) → task_of_command script (seen t) c cmd ≡ task_of_command script s c cmd
  command_seen c cmd =
      ap (λ next. elim c.made [
        | true ↦ task.Answer
        | false ↦ elim (starts c cmd) [ true ↦ task.Start | false ↦ elim (first_missing c cmd) [ Some b ↦ task.Lock b | None ↦ next ] ]
      ]) (by (last_of c.caught))
    where
      by : (o : Option Victim) → ◌≡◌ {A = Task}
          (elim o [ Some v ↦ task_of_victim v (buffer (seen t) v.b) | None ↦ task_of_held script (seen t) c cmd ])
          (elim o [ Some v ↦ task_of_victim v (buffer s v.b) | None ↦ task_of_held script s c cmd ])
      by (Some v) = victim_seen v
      by None = held_seen c cmd

-- the task of a thread, by where it stands
abbrev task_by : Script → State → ℕ → Option Course → Task
task_by script s thread o =
    elim (option_and_then (λ c. slice_get (commands_of script thread) c.answered) o) [ None ↦ task.Idle | Some cmd ↦ task_of_command script s (unwrap_or o (new_course 0)) cmd ]

-- the task of a thread, from its course and its command
module _ (script : Script) (s : State) (thread : ℕ) where
  no_thread : course_at s.courses thread ≡ None → task.Idle ≡ task_of script s thread
  no_thread e = sym (ap (task_by script s thread) e)

  module _ (c : Course) (here : course_at s.courses thread ≡ Some c) where
    no_command : slice_get (commands_of script thread) c.answered ≡ None → task.Idle ≡ task_of script s thread
    no_command e = sym (ap (task_by script s thread) here ∙ ap (λ o. elim o [ None ↦ task.Idle | Some cmd ↦ task_of_command script s c cmd ]) e)

    its_command : (cmd : Command) → slice_get (commands_of script thread) c.answered ≡ Some cmd → task_of_command script s c cmd ≡ task_of script s thread
    its_command cmd e = sym (ap (task_by script s thread) here ∙ ap (λ o. elim o [ None ↦ task.Idle | Some d ↦ task_of_command script s c d ]) e)

module _ (script : Script) (journal : List Entry) (p : Parts) (held : AreHeld script journal p) where
  -- each buffer has a reservation
  pub has_reservations : HasReservations p.bos
  has_reservations =
      let reservations = (sound_law script journal held.fits held.legal).owned.reservations in
      let some = ap length held.represents.bos.reservations_are in
      let many = ap length held.represents.bos.buffers_are in
      let same = length-map (state_of script journal).core.buffers (option_map unfenced) in
      omega (arith, reservations, some, many, same)

  -- the buffer at work
  pub unready_told : (cmd : Command) → first_unready script (seen p.bos) cmd ≡ first_unready script (state_of script journal) cmd
  unready_told = unready_seen script (state_of script journal) (state_of script journal).last_jobs p.bos held.represents.bos

  -- what may not be asked
  pub forbidden_told : (cmd : Command) → forbidden (seen p.bos) cmd ≡ forbidden (state_of script journal) cmd
  forbidden_told = forbidden_seen script (state_of script journal) (state_of script journal).last_jobs p.bos held.represents.bos

  -- what can be given back
  pub gives_told : (b : BufId) → gives_back (buffer (seen p.bos) b) ≡ gives_back (buffer (state_of script journal) b)
  gives_told = gives_seen script (state_of script journal) (state_of script journal).last_jobs p.bos held.represents.bos

  module _ (thread : ℕ) where
    -- where a thread stands
    course_told : (o : Option Course) → o ≡ course_at p.courses thread → course_at (state_of script journal).courses thread ≡ o
    course_told o e = sym (e ∙ ap (λ cs. course_at cs thread) held.represents.courses)

    -- a thread that isn't there has nothing to do
    pub idle_beyond : None ≡ course_at p.courses thread → task.Idle ≡ task_of script (state_of script journal) thread
    idle_beyond e = no_thread script (state_of script journal) thread (course_told None e)

    -- nor has one without a command
    pub idle_behind : (c : Course) → Some c ≡ course_at p.courses thread → slice_get (commands_of script thread) c.answered ≡ None → task.Idle ≡ task_of script (state_of script journal) thread
    idle_behind c e none = no_command script (state_of script journal) thread c (course_told (Some c) e) none

    -- any other does what its command needs
    pub task_told : (c : Course) → Some c ≡ course_at p.courses thread → (cmd : Command) → slice_get (commands_of script thread) c.answered ≡ Some cmd →
        task_of_command script (seen p.bos) c cmd ≡ task_of script (state_of script journal) thread
    task_told c e cmd some =
        command_seen script (state_of script journal) (state_of script journal).last_jobs p.bos held.represents.bos c cmd
        ∙ its_command script (state_of script journal) thread c (course_told (Some c) e) cmd some
