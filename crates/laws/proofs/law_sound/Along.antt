-- The states of legal journals are sound.
use Rattle.std.proofs.Common.{◌≡◌, ℕ, ◌+◌, ◌-◌, zero, suc, Bool, true, false, List, [], ◌∷◌, length, Some, None, Ok, IsTrue, IsSome, refl, sym, ◌∙◌, ap, subst, arith, ⊎_elim}
use Rattle.std.proofs.lemmas.Bool.{or_left, or_right}
use Rattle.std.specs.Prelude.{slice_get, map, unwrap_or, ◌==◌, ◌||◌, if◌then◌else◌}
use Rattle.ttm_base.specs.declared.BufId.{BufId}
use Rattle.ttm_base.specs.declared.Actor.{Actor}
use Rattle.ttm_base.specs.declared.Actor.TheVariants as actor
use Rattle.journal_model.specs.declared.script.Script.{Script}
use Rattle.journal_model.specs.declared.state.State.{State}
use Rattle.journal_model.specs.declared.entry.Entry.{Entry}
use Rattle.journal_model.specs.declared.entry.Kind.{Kind}
use Rattle.journal_model.specs.declared.entry.Kind.TheVariants as kind
use Rattle.journal_model.specs.rules.State.{new_course, course, course_of, no_reservation, buffer_in, has_buffer}
use Rattle.journal_model.specs.rules.Search.{is_caught}
use Rattle.journal_model.specs.rules.Commands.{command_at_work}
use Rattle.journal_model.specs.scripts.ScriptRules.{is_script}
use Rattle.journal_model.specs.rules.Waits.{jobs_before_write}
use Rattle.journal_model.specs.rules.Next.{next}
use Rattle.journal_model.specs.rules.Apply.{applied, engine_of}
use Rattle.journal_model.specs.rules.ApplyJobs.{ops_of}
use Rattle.journal_model.specs.statements.Complete.{is_complete}
use Rattle.journal_model.specs.statements.DeadEnd.{IsDeadEnd}
use Rattle.journal_model.specs.rules.Legal.{World, first_state, first_world, world_after, world_along, state_of, IsLegalFrom, IsLegal}
use Rattle.laws.proofs.law_state.Shown.{legal_step}
use Rattle.laws.proofs.law_state.Counted.{over_law}
use Rattle.laws.proofs.law_state.JournalCourses.{is_of_engine, is_of_reaper, of_engine, of_reaper, thread_is_there}
use Rattle.laws.specs.law_state.GoodState.{GoodState}
use Rattle.laws.proofs.law_state.Rules.{Rules, rules_of}
use Rattle.laws.proofs.law_state.Moves.{ThreadStep, thread_step}
use Rattle.laws.proofs.law_state.GoodStates.{arm_of, move_of, good_keeps, good_first}
use Rattle.laws.specs.law_sound.Sound.{SoundJobs, Steady, Sound, Has, SomeGoesOn, command_of}
use Rattle.laws.proofs.law_sound.DeadEnds.{command_is, no_dead_end}
use Rattle.laws.proofs.law_sound.Turns.{Turn, turn_of}
use Rattle.laws.proofs.law_sound.Gifts.{Gives, task_gives}
use Rattle.laws.proofs.law_sound.Bufs.{clash}
use Rattle.laws.proofs.law_sound.Steadies.{new_steady}
use Rattle.laws.proofs.law_sound.Owners.{none_or}
use Rattle.laws.proofs.law_sound.JobsBack.{all_among, uses_among, fresh_name, pushed_back, changed_back}
use Rattle.laws.proofs.law_sound.OwnedKeeps.{turn_keeps}

-- ---- jobs

thread_jobs : (script : Script) (s : State) (t : ℕ) (k : Kind) → ThreadStep script s t k → GoodState script s → GoodState script (applied script s (actor.Thread t) k) → SoundJobs script s.core.jobs
    → SoundJobs script (applied script s (actor.Thread t) k).core.jobs
thread_jobs script s t (kind.Arm engine n) st good after j =
    pushed_back script _ s.core.jobs _ j (uses_among s.core (ops_of (command_at_work script s t)) _) (fresh_name script.sizes.engines s.last_jobs s.core.jobs (record { ctx = engine; num = n }) good.jobs (arm_of script s t engine n st).number) after.jobs
thread_jobs script s t (kind.Move b mem n l) st good after j =
    pushed_back script _ s.core.jobs _ j (all_among s.core (jobs_before_write (buffer_in s.core b))) (fresh_name script.sizes.engines s.last_jobs s.core.jobs (record { ctx = 0; num = n }) good.jobs (move_of script s t b mem n l st).number) after.jobs
thread_jobs script s t (kind.Packet n k piece) st good after j = changed_back (λ x. record x { ran = x.ran + 1 }) (record { ctx = 0; num = n }) (λ x. refl) (λ x. refl) script _ s.core.jobs j after.jobs
thread_jobs script s t (kind.Done n) st good after j = changed_back (λ x. record x { finished = true }) (record { ctx = 0; num = n }) (λ x. refl) (λ x. refl) script _ s.core.jobs j after.jobs
thread_jobs script s t k st good after j = j

-- ---- engines and the reaper

pub data OfWorker : Kind → Type 0 where
  packet : {n k : ℕ} {piece : List ℕ} → OfWorker (kind.Packet n k piece)
  done : {n : ℕ} → OfWorker (kind.Done n)
  reap : {g : ℕ} → OfWorker (kind.Reap g)

pub of_worker : (k : Kind) → (is_of_engine k || is_of_reaper k) ≡ true → OfWorker k
of_worker (kind.Packet n k piece) q = packet
of_worker (kind.Done n) q = done
of_worker (kind.Reap g) q = reap
of_worker k q = cc

worker_keeps : (script : Script) (s : State) (who : Actor) (k : Kind) → OfWorker k → Sound script s → GoodState script (applied script s who k) → Sound script (applied script s who k)
worker_keeps script s who k (packet {n}) sound after =
    let o = sound.owned in
    record {
      jobs = changed_back (λ x. record x { ran = x.ran + 1 }) (record { ctx = engine_of who; num = n }) (λ x. refl) (λ x. refl) script _ s.core.jobs sound.jobs after.jobs;
      owned = record { courses = o.courses; reservations = o.reservations; steady = o.steady; holder = o.holder; held = o.held; one = o.one; below = o.below };
    }
worker_keeps script s who k (done {n}) sound after =
    let o = sound.owned in
    record {
      jobs = changed_back (λ x. record x { finished = true }) (record { ctx = engine_of who; num = n }) (λ x. refl) (λ x. refl) script _ s.core.jobs sound.jobs after.jobs;
      owned = record { courses = o.courses; reservations = o.reservations; steady = o.steady; holder = o.holder; held = o.held; one = o.one; below = o.below };
    }
worker_keeps script s who k reap sound after =
    let o = sound.owned in
    record { jobs = sound.jobs; owned = record { courses = o.courses; reservations = o.reservations; steady = o.steady; holder = o.holder; held = o.held; one = o.one; below = o.below } }

-- ---- each entry

-- what an entry of a thread tells
pub record Stepped (script : Script) (s : State) (t : ℕ) (k : Kind) : Type 0 where
  pub step : ThreadStep script s t k
  pub here : IsSome (course_of s t)
  pub at : command_of script t (course s t) ≡ Some step.cmd
  pub turn : Turn script s (course s t) step.cmd step.task
  pub gives : Gives script s (course s t) step.cmd step.task k

pub stepped_of : (script : Script) (s : State) (t : ℕ) (k : Kind) → length s.courses ≡ length script.threads → next script s (actor.Thread t) ≡ Ok k → Stepped script s t k
stepped_of script s t k l h =
    let st = thread_step script s t k h in
    record {
      step = st;
      here = thread_is_there script s t k h;
      at = sym (command_is script s l t) ∙ st.at_work;
      turn = subst (Turn script s (course s t) st.cmd) (sym st.is_task) (turn_of script s (course s t) st.cmd);
      gives = task_gives script s (course s t) st.cmd st.task k st.step;
    }

pub sound_keeps : (script : Script) → Rules script → (s : State) (who : Actor) (k : Kind) → GoodState script s → Sound script s → next script s who ≡ Ok k → Sound script (applied script s who k)
sound_keeps script r s (actor.Thread t) k good sound h =
    let st = stepped_of script s t k sound.owned.courses h in
    record {
      jobs = thread_jobs script s t k st.step good (good_keeps script r s (actor.Thread t) k good h) sound.jobs;
      owned = turn_keeps script s t st.step.cmd st.here st.at sound.owned st.step.task k st.turn st.gives;
    }
sound_keeps script r s (actor.Engine e) k good sound h =
    worker_keeps script s (actor.Engine e) k (of_worker k (or_left (is_of_engine k) (is_of_reaper k) (of_engine script s e k h))) sound (good_keeps script r s (actor.Engine e) k good h)
sound_keeps script r s actor.Reaper k good sound h =
    worker_keeps script s actor.Reaper k (of_worker k (or_right (is_of_engine k) (is_of_reaper k) (of_reaper script s k h))) sound (good_keeps script r s actor.Reaper k good h)

-- ---- the first state

length-map : {X Y : Type 0} (f : X → Y) (xs : List X) → length (map f xs) ≡ length xs
length-map f [] = refl
length-map f (x ∷ xs) = ap suc (length-map f xs)

all_one : {X Y : Type 0} (y : Y) (xs : List X) (i : ℕ) → unwrap_or (slice_get (map (λ x. y) xs) i) y ≡ y
all_one y [] i = refl
all_one y (x ∷ xs) zero = refl
all_one y (x ∷ xs) (suc i) = all_one y xs i

pub first_course : (script : Script) (t : ℕ) → course (first_state script) t ≡ new_course 0
first_course script t = by (t == 0)
  where
    by : (q : Bool) → unwrap_or (if q then None else slice_get (map (λ x. new_course 0) script.threads) (t - 1)) (new_course 0) ≡ new_course 0
    by true = refl
    by false = all_one (new_course 0) script.threads (t - 1)

pub sound_first : (script : Script) → Sound script (first_state script)
sound_first script =
    record {
      jobs = record { contexts = refl; waits_known = refl; waits_back = tt };
      owned = record {
        courses = length-map _ script.threads;
        reservations = length-map _ script.buffers ∙ sym (length-map _ script.buffers);
        steady = λ t. subst (Steady script t) (sym (first_course script t)) (new_steady script t 0 (omega arith));
        holder = λ b st e. absurd (none_or None st refl (sym (ap (λ g. g.holder) (all_one no_reservation script.buffers b.0)) ∙ e));
        held = λ t b h. absurd (nothing t b h);
        one = λ t u st e f. absurd (none_or None st refl (sym (ap (λ c. c.stamp) (first_course script t)) ∙ e));
        below = λ t st e. absurd (none_or None st refl (sym (ap (λ c. c.stamp) (first_course script t)) ∙ e));
      };
    }
  where
    nothing : (t : ℕ) (b : BufId) → Has (first_state script) t b → ⊥
    nothing t b h =
        ⊎_elim
        (λ k. clash (sym (sym (ap (λ c. has_buffer c.held b) (first_course script t)) ∙ k)))
        (λ k. clash (sym (sym (ap (λ c. is_caught c b) (first_course script t)) ∙ k)))
        h

-- ---- along a journal

sound_along : (script : Script) → Rules script → (w : World) (es : List Entry) → GoodState script w.state → Sound script w.state → IsLegalFrom script w es → Sound script (world_along script w es).state
sound_along script r w [] good sound h = sound
sound_along script r w (e ∷ es) good sound h =
    let l = legal_step script w e h.0 in
    sound_along script r (world_after script w e) es
    (subst (GoodState script) (sym l.state) (good_keeps script r w.state e.who l.kind good l.step))
    (subst (Sound script) (sym l.state) (sound_keeps script r w.state e.who l.kind good sound l.step))
    h.1

pub sound_law : (script : Script) (journal : List Entry) → IsTrue (is_script script) → IsLegal script journal → Sound script (state_of script journal)
sound_law script journal fits h = sound_along script (rules_of script fits) (first_world script) journal (good_first script) (sound_first script) h

pub goes_on_law : (script : Script) (journal : List Entry) → IsTrue (is_script script) → IsLegal script journal → is_complete script journal ≡ false → SomeGoesOn script (state_of script journal)
goes_on_law script journal fits h unfinished = no_dead_end script (state_of script journal) (sound_law script journal fits h) (over_law script journal h ∙ unfinished)

pub dead_end_law : (script : Script) (journal : List Entry) → IsTrue (is_script script) → IsLegal script journal → IsDeadEnd script journal → ⊥
dead_end_law script journal fits h dead = let w = goes_on_law script journal fits h dead.unfinished in clash (sym w.1 ∙ dead.stuck w.0)
