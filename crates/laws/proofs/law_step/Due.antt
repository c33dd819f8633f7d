-- What an actor's next entry tells of the state before it, task by task.
use Rattle.std.proofs.Common.{◌≡◌, ℕ, Bool, true, false, List, Option, Some, None, Ok, Err, refl, subst, ◌∙◌, ap, ap₂, arith}
use Rattle.std.specs.Prelude.{not, ◌&&◌, ◌||◌, ◌==◌, is_none, slice_get, unwrap_or, if◌then◌else◌}
use Rattle.std.proofs.lemmas.Grind.{common_steps}
use Rattle.std.proofs.lemmas.Bool.{eq-eqb}
use Rattle.std.proofs.lemmas.Bool.Decides.{nat_tests}
use Rattle.ttm_base.specs.declared.Mem.{Mem}
use Rattle.ttm_base.specs.declared.Mem.TheVariants.{System, Tt, Vram}
use Rattle.ttm_base.specs.declared.BufId.{BufId}
use Rattle.ttm_base.specs.declared.JobId.{JobId}
use Rattle.ttm_base.specs.declared.Need.TheVariants as need
use Rattle.ttm_base.specs.declared.Actor.{Actor}
use Rattle.ttm_base.specs.declared.Actor.TheVariants as actor
use Rattle.ttm_base.specs.declared.Place.{Place}
use Rattle.ttm_base.specs.declared.Span.{Span}
use Rattle.ttm_base.specs.Placement.{first_places, forced_places}
use Rattle.ttm_base.specs.Reach.{same_mem}
use Rattle.journal_model.specs.declared.script.Script.{Script}
use Rattle.journal_model.specs.declared.script.Command.{Command}
use Rattle.journal_model.specs.declared.script.Command.TheVariants as command
use Rattle.journal_model.specs.declared.state.State.{State}
use Rattle.journal_model.specs.declared.state.Ghost.{Ghost}
use Rattle.journal_model.specs.declared.state.Course.{Course}
use Rattle.journal_model.specs.declared.state.Task.{Task}
use Rattle.journal_model.specs.declared.state.Task.TheVariants as task
use Rattle.journal_model.specs.declared.entry.Left.TheVariants as left
use Rattle.journal_model.specs.declared.entry.Kind.{Kind}
use Rattle.journal_model.specs.declared.entry.Kind.TheVariants as kind
use Rattle.journal_model.specs.declared.entry.Why.{Why}
use Rattle.journal_model.specs.declared.entry.Why.TheVariants as why
use Rattle.journal_model.specs.rules.State.{buffer, course}
use Rattle.journal_model.specs.rules.Holds.{free_slot}
use Rattle.journal_model.specs.rules.Dry.{has_frame}
use Rattle.journal_model.specs.rules.Waits.{waited_for, jobs_before_write, is_idle}
use Rattle.journal_model.specs.rules.Choice.{choice}
use Rattle.journal_model.specs.rules.Commands.{whole}
use Rattle.journal_model.specs.rules.Search.{Step, PlaceSearch, place_search, is_caught, step_of_place_search, step_of_forced, step_of_forced_place, step_of_crowded, first_choice}
use Rattle.journal_model.specs.rules.PageSteps.{unless_waiting, next_job, next_ghost, step_of_move, step_of_give_back, step_of_swap_out, step_of_empty, first_frame_page, why_caught, target_to_untake}
use Rattle.journal_model.specs.rules.Next.{next, step_of_task, step_of_act, step_of_start}
use Rattle.laws.proofs.law_state.Moves.{ThreadStep, thread_step}
use Rattle.laws.proofs.law_state.Courses.{may, command_may}
use Rattle.laws.specs.law_step.Due.{is_over, is_due}

-- ---- each step

start_due : (s : State) (cmd : Command) (k : Kind) → step_of_start s cmd ≡ Ok k → is_due s k ≡ true
start_due s (command.New b) k h = grind (arith, common_steps, nat_tests)
start_due s cmd k h = grind (arith, common_steps, nat_tests)

free_due : (s : State) (b : BufId) (k : Kind) → ◌≡◌ {A = Step} (Ok (kind.Free b (if is_idle s.core (buffer s b) then 0 else next_ghost s))) (Ok k) → is_due s k ≡ true
free_due s b k h = let same : kind.Free b (if is_idle s.core (buffer s b) then 0 else next_ghost s) ≡ k = cc in subst (λ e. is_due s e ≡ true) same (by (is_idle s.core (buffer s b)) refl)
  where
    by : (q : Bool) → is_none (waited_for s.core (jobs_before_write (buffer s b))) ≡ q → (not ((if q then 0 else next_ghost s) == 0) || is_none (waited_for s.core (jobs_before_write (buffer s b)))) ≡ true
    by true e = grind (arith, nat_tests)
    by false e = grind (arith, nat_tests)

act_due : (script : Script) (s : State) (cmd : Command) (k : Kind) → step_of_act script s cmd ≡ Ok k → is_due s k ≡ true
act_due script s (command.Free b) k h = free_due s b k h
act_due script s cmd k h = grind (arith, common_steps, nat_tests)

bind_due : (s : State) (b : BufId) (k : Kind) → same_mem (buffer s b).mem System ≡ true → ◌≡◌ {A = Step} (Ok (kind.Bind b)) (Ok k) → is_due s k ≡ true
bind_due s b k t h = let same : kind.Bind b ≡ k = cc in subst (λ e. is_due s e ≡ true) same t

move_due : (s : State) (c : Course) (b : BufId) (mem : Mem) (k : Kind) → not (same_mem (buffer s b).mem System) ≡ true → step_of_move s c b mem ≡ Ok k → is_due s k ≡ true
move_due s c b mem k t h =
    let same : kind.Move b mem (next_job s 0) (if is_caught c b then left.Now else left.Ghost (next_ghost s)) ≡ k = cc in subst (λ e. is_due s e ≡ true) same t

give_back_due : (s : State) (b : BufId) (k : Kind) → step_of_give_back s b ≡ Ok k → is_due s k ≡ true
give_back_due s b k h = by (buffer s b).mem refl (has_frame (buffer s b)) h
  where
    by : (l : Mem) → (buffer s b).mem ≡ l → (q : Bool) →
        ◌≡◌ {A = Step} (Ok (elim l as (λ l. Kind) [
          | Vram ↦ elim q as (λ q. Kind) [ true ↦ kind.Depopulate b | false ↦ kind.Untake b (target_to_untake (buffer s b)) ]
          | Tt ↦ kind.Untake b (target_to_untake (buffer s b))
          | System ↦ kind.Untake b (target_to_untake (buffer s b))
        ])) (Ok k) → is_due s k ≡ true
    by Vram e true g = let same : kind.Depopulate b ≡ k = cc in subst (λ z. is_due s z ≡ true) same (ap (λ l. same_mem l Vram) e)
    by Vram e false g = let same : kind.Untake b (target_to_untake (buffer s b)) ≡ k = cc in subst (λ z. is_due s z ≡ true) same refl
    by Tt e q g = let same : kind.Untake b (target_to_untake (buffer s b)) ≡ k = cc in subst (λ z. is_due s z ≡ true) same refl
    by System e q g = let same : kind.Untake b (target_to_untake (buffer s b)) ≡ k = cc in subst (λ z. is_due s z ≡ true) same refl

crowded_due : (script : Script) (s : State) (c : Course) (b : BufId) (n : ℕ) (place : Place) (k : Kind) → step_of_crowded script s c b n place ≡ Ok k → is_due s k ≡ true
crowded_due script s c b n place k h = grind (arith, common_steps)

take_due : (s : State) (b : BufId) (mem : Mem) (spans : List Span) (k : Kind) → ◌≡◌ {A = Step} (Ok (kind.Take b mem spans)) (Ok k) → is_due s k ≡ true
take_due s b mem spans k h = let same : kind.Take b mem spans ≡ k = cc in subst (λ z. is_due s z ≡ true) same refl

forced_due : (script : Script) (s : State) (c : Course) (b : BufId) (n : ℕ) (place : Place) (k : Kind) → step_of_forced_place script s c b n place ≡ Ok k → is_due s k ≡ true
forced_due script s c b n place k h = by (choice script s.core b place) h
  where
    by : (o : Option (List Span)) → (elim o as (λ o. Step) [ Some spans ↦ Ok (kind.Take b place.mem spans) | None ↦ step_of_crowded script s c b n place ]) ≡ Ok k → is_due s k ≡ true
    by (Some spans) g = take_due s b place.mem spans k g
    by None g = crowded_due script s c b n place k g

place_search_due : (script : Script) (s : State) (c : Course) (b : BufId) (q : PlaceSearch) (k : Kind) → step_of_place_search script s c b q ≡ Ok k → is_due s k ≡ true
place_search_due script s c b q k h = by q.forced (first_choice script s b (first_places q.list)) h
  where
    forced : step_of_forced script s c b q.dry (forced_places q.list) ≡ Ok k → is_due s k ≡ true
    forced g = forced_due script s c b q.dry (unwrap_or (slice_get (forced_places q.list) q.dry) (whole System)) k g

    by : (f : Bool) (o : Option (Mem × List Span)) →
        (elim f as (λ f. Step) [
          | true ↦ step_of_forced script s c b q.dry (forced_places q.list)
          | false ↦ elim o as (λ o. Step) [ Some found ↦ Ok (kind.Take b found.0 found.1) | None ↦ step_of_forced script s c b q.dry (forced_places q.list) ]
        ]) ≡ Ok k → is_due s k ≡ true
    by true o g = forced g
    by false (Some found) g = take_due s b found.0 found.1 k g
    by false None g = forced g

quiet_due : (s : State) (b : BufId) (page slot : ℕ) (o : Option JobId) (k : Kind) → waited_for s.core (jobs_before_write (buffer s b)) ≡ o → unless_waiting o (kind.SwapOut b page slot) ≡ Ok k → is_due s k ≡ true
quiet_due s b page slot None k e h = let same : kind.SwapOut b page slot ≡ k = cc in subst (λ z. is_due s z ≡ true) same (ap is_none e)
quiet_due s b page slot (Some j) k e h = cc

loose_due : (s : State) (b : BufId) (k : Kind) → ◌≡◌ {A = Step} (Ok (kind.Loose b)) (Ok k) → is_due s k ≡ true
loose_due s b k h = let same : kind.Loose b ≡ k = cc in subst (λ z. is_due s z ≡ true) same refl

swap_due : (script : Script) (s : State) (b : BufId) (k : Kind) → step_of_swap_out script s b (Ok (kind.Loose b)) (Ok (kind.Loose b)) ≡ Ok k → is_due s k ≡ true
swap_due script s b k h = by (has_frame (buffer s b)) (free_slot script s.core) h
  where
    by : (q : Bool) (o : Option ℕ) →
        (elim q as (λ q. Step) [
          | false ↦ Ok (kind.Loose b)
          | true ↦ elim o as (λ o. Step) [ None ↦ Ok (kind.Loose b) | Some slot ↦ unless_waiting (waited_for s.core (jobs_before_write (buffer s b))) (kind.SwapOut b (first_frame_page (buffer s b)) slot) ]
        ]) ≡ Ok k → is_due s k ≡ true
    by false o g = loose_due s b k g
    by true None g = loose_due s b k g
    by true (Some slot) g = quiet_due s b (first_frame_page (buffer s b)) slot (waited_for s.core (jobs_before_write (buffer s b))) k refl g

empty_due : (script : Script) (s : State) (c : Course) (b : BufId) (k : Kind) → step_of_empty script s c b ≡ Ok k → is_due s k ≡ true
empty_due script s c b k h = by (why_caught c b) h
  where
    by_why : (w : Why) → (elim w as (λ w. Step) [
      | why.Swap ↦ step_of_swap_out script s b (Ok (kind.Loose b)) (Ok (kind.Loose b))
      | why.Tt ↦ Ok (kind.Loose b)
      | why.Vram ↦ Ok (kind.Loose b)
    ]) ≡ Ok k → is_due s k ≡ true
    by_why why.Swap g = swap_due script s b k g
    by_why why.Tt g = loose_due s b k g
    by_why why.Vram g = loose_due s b k g

    by : (o : Option Why) → (elim o as (λ o. Step) [
      | Some w ↦ elim w as (λ w. Step) [
        | why.Swap ↦ step_of_swap_out script s b (Ok (kind.Loose b)) (Ok (kind.Loose b))
        | why.Tt ↦ Ok (kind.Loose b)
        | why.Vram ↦ Ok (kind.Loose b)
      ]
      | None ↦ Ok (kind.Loose b)
    ]) ≡ Ok k → is_due s k ≡ true
    by (Some w) g = by_why w g
    by None g = loose_due s b k g

task_due : (script : Script) (s : State) (c : Course) (cmd : Command) (t : Task) (k : Kind) → may s c cmd t ≡ true → step_of_task script s c cmd t ≡ Ok k → is_due s k ≡ true
task_due script s c cmd task.Idle k m h = cc
task_due script s c cmd task.Start k m h = start_due s cmd k h
task_due script s c cmd (task.Search x aim) k m h = place_search_due script s c x (place_search script cmd c x aim) k h
task_due script s c cmd (task.Bind x) k m h = bind_due s x k m h
task_due script s c cmd (task.Move x mem) k m h = move_due s c x mem k m h
task_due script s c cmd (task.Empty x) k m h = empty_due script s c x k h
task_due script s c cmd (task.GiveBack x) k m h = give_back_due s x k h
task_due script s c cmd task.Act k m h = act_due script s cmd k h
task_due script s c cmd t k m h = grind (arith, common_steps, nat_tests)

thread_due : (script : Script) (s : State) (t : ℕ) (k : Kind) → ThreadStep script s t k → is_due s k ≡ true
thread_due script s t k st =
    task_due script s (course s t) st.cmd st.task k
    (ap (may s (course s t) st.cmd) st.is_task ∙ command_may script s (course s t) st.cmd)
    st.step

engine_due : (script : Script) (s : State) (e : ℕ) (k : Kind) → next script s (actor.Engine e) ≡ Ok k → is_due s k ≡ true
engine_due script s e k h = grind (arith, common_steps, nat_tests)

reaper_due : (script : Script) (s : State) (k : Kind) → next script s actor.Reaper ≡ Ok k → is_due s k ≡ true
reaper_due script s k h = by (slice_get s.core.ghosts 0) refl h
  where
    waits : (g : Ghost) (o : Option JobId) → waited_for s.core g.jobs ≡ o → slice_get s.core.ghosts 0 ≡ Some g → unless_waiting o (kind.Reap g.num) ≡ Ok k → is_due s k ≡ true
    waits g None e f z =
        let same : kind.Reap g.num ≡ k = cc in
        subst (λ y. is_due s y ≡ true) same (ap (is_over s g.num) f ∙ ap₂ (λ p q. p && is_none q) (eq-eqb g.num g.num refl) e)
    waits g (Some j) e f z = cc

    by : (o : Option Ghost) → slice_get s.core.ghosts 0 ≡ o → (elim o as (λ o. Step) [ None ↦ Err need.NoGhost | Some g ↦ unless_waiting (waited_for s.core g.jobs) (kind.Reap g.num) ]) ≡ Ok k → is_due s k ≡ true
    by None f z = cc
    by (Some g) f z = waits g (waited_for s.core g.jobs) refl f z

pub next_due : (script : Script) (s : State) (who : Actor) (k : Kind) → next script s who ≡ Ok k → is_due s k ≡ true
next_due script s (actor.Thread t) k h = thread_due script s t k (thread_step script s t k h)
next_due script s (actor.Engine e) k h = engine_due script s e k h
next_due script s actor.Reaper k h = reaper_due script s k h
