-- An engine that the script doesn't have has no job.
use Rattle.std.proofs.Common.{◌≡◌, ℕ, ◌<◌, ◌≤◌, Bool, true, List, Option, Some, None, Err, IsTrue, refl, ap, arith}
use Rattle.std.specs.Prelude.{◌==◌, ◌&&◌, not}
use Rattle.ttm_base.specs.declared.Actor.TheVariants as actor
use Rattle.ttm_base.specs.declared.Need.TheVariants as need
use Rattle.journal_model.specs.declared.script.Script.{Script}
use Rattle.journal_model.specs.declared.state.Job.{Job}
use Rattle.journal_model.specs.declared.entry.Entry.{Entry}
use Rattle.journal_model.specs.rules.Legal.{IsLegal, shown_step, state_of}
use Rattle.journal_model.specs.rules.Next.{head_of, step_of_job}
use Rattle.journal_model.specs.scripts.ScriptRules.{is_script}
use Rattle.laws.proofs.law_state.GoodStates.{good_law}
use Rattle.laws.proofs.law_state.JobNames.{found_at}
use Rattle.room_state.specs.turns.Turns.{Kept, entry_of, state_behind, world_behind}

same_context : (ctx e : ℕ) (q : Bool) → ((ctx == e) && q) ≡ true → ctx ≡ e
same_context ctx e q h = grind arith

pub headless : (script : Script) (journal : List Entry) → IsTrue (is_script script) → IsLegal script journal → (e : ℕ) → script.sizes.engines < e → (o : Option Job) → head_of (state_of script journal) e ≡ o → o ≡ None
headless script journal fits legal e beyond None at = refl
headless script journal fits legal e beyond (Some j) at =
    let found = found_at (λ (j : Job). (j.id.ctx == e) && not j.finished) (state_of script journal).core.jobs j at in
    let within : j.id.ctx ≤ script.sizes.engines = (good_law script fits journal legal).jobs.contexts found.0 j found.1 in
    let same : j.id.ctx ≡ e = same_context j.id.ctx e (not j.finished) found.2 in
    absurd (omega (arith, within, same, beyond))

-- a job is needed
pub absent_needs : (r : Kept) (e : ℕ) → IsTrue (is_script r.script) → IsLegal r.script r.journal → r.script.sizes.engines < e → entry_of r (actor.Engine e) ≡ Err need.NoJob
absent_needs r e fits legal beyond =
    let none = headless r.script r.journal fits legal e beyond (head_of (state_behind r) e) refl in
    ap (λ o. shown_step r.script (world_behind r) (actor.Engine e) (elim o [ None ↦ Err need.NoJob | Some j ↦ step_of_job (state_behind r) j ])) none
