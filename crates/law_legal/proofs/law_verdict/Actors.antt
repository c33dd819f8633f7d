-- Each entry of a legal journal is by an actor of the script.
use Rattle.std.proofs.Common.{◌≡◌, ℕ, ◌-◌, ◌<◌, ◌≤◌, zero, suc, true, false, List, [], ◌∷◌, ◌++◌, length, Option, Some, None, Ok, Err, ◌⊎◌, inl, inr, IsTrue, refl, ap, sym, subst, ◌∙◌, arith}
use Rattle.std.specs.Prelude.{not, ◌&&◌, ◌==◌, slice_get}
use Rattle.std.specs.Option.{option_and_then}
use Rattle.std.proofs.lemmas.Bool.{and_parts, cases_lt, eqb-true}
use Rattle.std.proofs.lemmas.Bool.Decides.{nat_tests}
use Rattle.std.proofs.lemmas.Grind.{common_steps}
use Rattle.std.proofs.lemmas.Option.{slice_get_past}
use Rattle.ttm_base.specs.declared.Actor.{Actor}
use Rattle.ttm_base.specs.declared.Actor.TheVariants as actor
use Rattle.ttm_base.specs.declared.Need.TheVariants as need
use Rattle.journal_model.specs.declared.script.Script.{Script}
use Rattle.journal_model.specs.declared.script.Command.{Command}
use Rattle.journal_model.specs.declared.state.State.{State}
use Rattle.journal_model.specs.declared.state.Course.{Course}
use Rattle.journal_model.specs.declared.state.Job.{Job}
use Rattle.journal_model.specs.declared.entry.Entry.{Entry}
use Rattle.journal_model.specs.declared.entry.Kind.{Kind}
use Rattle.journal_model.specs.rules.State.{course_of}
use Rattle.journal_model.specs.rules.Commands.{commands_of, command_at_work}
use Rattle.journal_model.specs.scripts.CommandRules.{is_between}
use Rattle.journal_model.specs.scripts.ScriptRules.{is_script}
use Rattle.journal_model.specs.rules.Search.{Step}
use Rattle.journal_model.specs.rules.Next.{next, head_of, step_of_job}
use Rattle.journal_model.specs.rules.Legal.{IsLegal, IsLegalFrom, world_of}
use Rattle.journal_model.specs.reports.Verdict.{has_actor}
use Rattle.journal_model.proofs.JournalLaws.{IsLegal-append, world_of-append}
use Rattle.laws.specs.law_state.GoodState.{GoodState}
use Rattle.laws.proofs.law_state.GoodStates.{good_law}
use Rattle.laws.proofs.law_state.JobNames.{found_at}
use Rattle.laws.proofs.law_state.Shown.{legal_step}

is_within : (low high n : ℕ) → low ≤ n → n ≤ high → is_between low high n ≡ true
is_within low high n h k = grind (arith, nat_tests)

-- ---- threads

-- a thread without commands has no entry
stops_without : (script : Script) (s : State) (t : ℕ) (k : Kind) → commands_of script t ≡ [] → next script s (actor.Thread t) ≡ Ok k → ⊥
stops_without script s t k empty step = by_course (course_of s t) refl
  where
    by_course : (o : Option Course) → course_of s t ≡ o → ⊥
    by_course None e =
        let idle : command_at_work script s t ≡ None = ap (option_and_then (λ c. slice_get (commands_of script t) c.answered)) e in
        grind (arith, common_steps)
    by_course (Some c) e =
        let idle : command_at_work script s t ≡ None =
        ap (option_and_then (λ d. slice_get (commands_of script t) d.answered)) e ∙ ap (λ (cs : List Command). slice_get cs c.answered) empty in
        grind (arith, common_steps)

-- one that isn't there has none
no_commands : (script : Script) (t : ℕ) → length script.threads ≤ t → commands_of script (suc t) ≡ []
no_commands script t past =
    let behind : suc t - 1 ≡ t = omega arith in
    let none : slice_get script.threads (suc t - 1) ≡ None = ap (slice_get script.threads) behind ∙ slice_get_past script.threads t past in
    let some : (suc t == 0) ≡ false = grind (arith, nat_tests) in
    grind (arith, common_steps)

thread_has : (script : Script) (s : State) (t : ℕ) (k : Kind) → next script s (actor.Thread t) ≡ Ok k → has_actor script (actor.Thread t) ≡ true
thread_has script s zero k step = absurd (stops_without script s zero k refl step)
thread_has script s (suc t) k step = by_order (cases_lt t (length script.threads))
  where
    by_order : (t < length script.threads) ⊎ (length script.threads ≤ t) → has_actor script (actor.Thread (suc t)) ≡ true
    by_order (inl less) = is_within 1 (length script.threads) (suc t) (omega arith) (omega (arith, less))
    by_order (inr past) = absurd (stops_without script s (suc t) k (no_commands script t past) step)

-- ---- engines

engine_has : (script : Script) (s : State) (e : ℕ) (k : Kind) → GoodState script s → next script s (actor.Engine e) ≡ Ok k → has_actor script (actor.Engine e) ≡ true
engine_has script s e k good step = by_head (head_of s e) refl step
  where
    by_head : (o : Option Job) → head_of s e ≡ o → ◌≡◌ {A = Step} (elim o [ None ↦ Err need.NoJob | Some j ↦ step_of_job s j ]) (Ok k) → has_actor script (actor.Engine e) ≡ true
    by_head None q g = cc
    by_head (Some j) q g =
        let f = found_at (λ j. (j.id.ctx == e) && not j.finished) s.core.jobs j q in
        let same = eqb-true j.id.ctx e (and_parts (j.id.ctx == e) (not j.finished) f.2).0 in
        let most = good.jobs.contexts f.0 j f.1 in
        is_within 0 script.sizes.engines e (omega arith) (omega (arith, most, same))

-- ---- along a journal

next_has : (script : Script) (s : State) (who : Actor) (k : Kind) → GoodState script s → next script s who ≡ Ok k → has_actor script who ≡ true
next_has script s (actor.Thread t) k good step = thread_has script s t k step
next_has script s (actor.Engine e) k good step = engine_has script s e k good step
next_has script s actor.Reaper k good step = refl

-- each entry is by an actor of the script
abbrev pub HaveActors : Script → List Entry → Type 0
HaveActors script [] = Unit {0}
HaveActors script (e ∷ es) = (has_actor script e.who ≡ true) × HaveActors script es

have_behind : (script : Script) → IsTrue (is_script script) → (front es : List Entry) → IsLegal script front → IsLegalFrom script (world_of script front) es → HaveActors script es
have_behind script fits front [] legal h = tt
have_behind script fits front (e ∷ es) legal h =
    let w = world_of script front in
    let step = legal_step script w e h.0 in (
      next_has script w.state e.who step.kind (good_law script fits front legal) step.step,
      have_behind script fits (front ++ e ∷ []) es (IsLegal-append script front e legal h.0) (subst (λ v. IsLegalFrom script v es) (sym (world_of-append script front e)) h.1),
    )

pub have_actors : (script : Script) → IsTrue (is_script script) → (journal : List Entry) → IsLegal script journal → HaveActors script journal
have_actors script fits journal h = have_behind script fits [] journal tt h
