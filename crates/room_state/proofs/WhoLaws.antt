-- Which actor makes an entry of which kind.
use Rattle.std.proofs.Common.{◌≡◌, ℕ, true, false, List, Ok, refl, ◌∙◌, ap, subst, arith}
use Rattle.ttm_base.specs.declared.Actor.{Actor}
use Rattle.ttm_base.specs.declared.Actor.TheVariants as actor
use Rattle.journal_model.specs.declared.script.Script.{Script}
use Rattle.journal_model.specs.declared.script.Command.{Command}
use Rattle.journal_model.specs.declared.state.State.{State}
use Rattle.journal_model.specs.declared.state.Task.{Task}
use Rattle.journal_model.specs.declared.state.Task.TheVariants as task
use Rattle.journal_model.specs.declared.entry.Entry.{Entry}
use Rattle.journal_model.specs.declared.entry.Kind.{Kind}
use Rattle.journal_model.specs.declared.entry.Kind.TheVariants as kind
use Rattle.journal_model.specs.rules.State.{course}
use Rattle.journal_model.specs.rules.Next.{next}
use Rattle.journal_model.specs.rules.Stores.{Stores, showing}
use Rattle.journal_model.specs.rules.Legal.{World, IsLegalNext}
use Rattle.room_state.specs.Themes.{theme_of}
use Rattle.room_state.specs.declared.themes.Theme.TheVariants as theme
use Rattle.laws.proofs.law_state.JournalCourses.{is_of_engine, is_of_reaper, of_engine, of_reaper}
use Rattle.laws.proofs.law_state.Shown.{LegalStep, legal_step}
use Rattle.laws.proofs.law_state.Moves.{is_of_worker, is_made_by, made_by_task, thread_step}

-- what an entry shows doesn't tell its kind
worker_shown : (script : Script) (stores : Stores) (s : State) (who : Actor) (k : Kind) → is_of_worker (showing script stores s who k) ≡ is_of_worker k
worker_shown script stores s who (kind.Packet n i piece) = refl
worker_shown script stores s who (kind.Result r) = refl
worker_shown script stores s who k = refl

engine_shown : (script : Script) (stores : Stores) (s : State) (who : Actor) (k : Kind) → is_of_engine (showing script stores s who k) ≡ is_of_engine k
engine_shown script stores s who (kind.Packet n i piece) = refl
engine_shown script stores s who (kind.Result r) = refl
engine_shown script stores s who k = refl

reaper_shown : (script : Script) (stores : Stores) (s : State) (who : Actor) (k : Kind) → is_of_reaper (showing script stores s who k) ≡ is_of_reaper k
reaper_shown script stores s who (kind.Packet n i piece) = refl
reaper_shown script stores s who (kind.Result r) = refl
reaper_shown script stores s who k = refl

-- no task makes what engines and the reaper make
no_worker : (s : State) (cmd : Command) (t : Task) (k : Kind) → is_made_by s cmd t k ≡ true → is_of_worker k ≡ false
no_worker s cmd (task.Move b mem) (kind.Move c m n l) h = refl
no_worker s cmd (task.Move b mem) k h = cc
no_worker s cmd t k h = grind arith

module _ (script : Script) (w : World) (e : Entry) (legal : IsLegalNext script w e) where
  -- the step of the entry's actor
  step : LegalStep script w e
  step = legal_step script w e legal

  -- by who the actor is
  step_by : (who : Actor) → e.who ≡ who → next script w.state who ≡ Ok step.kind
  step_by who is = subst (λ a. next script w.state a ≡ Ok step.kind) is step.step

  -- a thread makes neither packets nor ends
  pub thread_makes : (t : ℕ) → e.who ≡ actor.Thread t → is_of_worker e.kind ≡ false
  thread_makes t is =
      let st = thread_step script w.state t step.kind (step_by (actor.Thread t) is) in
      ap (λ (x : Entry). is_of_worker x.kind) step.entry
      ∙ worker_shown script w.stores w.state e.who step.kind
      ∙ no_worker w.state st.cmd st.task step.kind (made_by_task script w.state (course w.state t) st.cmd st.task step.kind st.step)

  -- an engine makes packets, and ends of jobs
  pub engine_makes : (ctx : ℕ) → e.who ≡ actor.Engine ctx → is_of_engine e.kind ≡ true
  engine_makes ctx is =
      ap (λ (x : Entry). is_of_engine x.kind) step.entry
      ∙ engine_shown script w.stores w.state e.who step.kind
      ∙ of_engine script w.state ctx step.kind (step_by (actor.Engine ctx) is)

  -- the reaper makes ends of ghosts
  pub reaper_makes : e.who ≡ actor.Reaper → is_of_reaper e.kind ≡ true
  reaper_makes is =
      ap (λ (x : Entry). is_of_reaper x.kind) step.entry
      ∙ reaper_shown script w.stores w.state e.who step.kind
      ∙ of_reaper script w.state step.kind (step_by actor.Reaper is)

-- what is neither a packet nor the end of a job is no engine's
pub engine_has : (k : Kind) → is_of_engine k ≡ true → ((n i : ℕ) (piece : List ℕ) → k ≡ kind.Packet n i piece → ⊥) → ((n : ℕ) → k ≡ kind.Done n → ⊥) → ⊥
engine_has (kind.Packet n i piece) h packet done = packet n i piece refl
engine_has (kind.Done n) h packet done = done n refl
engine_has k h packet done = cc

-- what isn't the end of a ghost is not the reaper's
pub reaper_has : (k : Kind) → is_of_reaper k ≡ true → ((g : ℕ) → k ≡ kind.Reap g → ⊥) → ⊥
reaper_has (kind.Reap g) h reap = reap g refl
reaper_has k h reap = cc

-- what no engine and no reaper makes isn't about what they do
pub thread_works : (k : Kind) → is_of_worker k ≡ false → theme_of k ≡ theme.Worker → ⊥
thread_works (kind.Packet n i piece) h e = cc
thread_works (kind.Done n) h e = cc
thread_works (kind.Reap g) h e = cc
thread_works k h e = cc
