-- The entries of engines and of the reaper lower the measure.
use Rattle.std.proofs.Common.{◌≡◌, ℕ, ◌≤◌, ◌+◌, Bool, true, false, [], length, Option, Some, None, Ok, Err, refl, ap, subst}
use Rattle.std.specs.Prelude.{slice_get, not, nat_lt, ◌==◌, ◌&&◌}
use Rattle.std.proofs.lemmas.Bool.{and_parts, eqb-true, not-true}
use Rattle.ttm_base.specs.declared.JobId.{JobId}
use Rattle.ttm_base.specs.declared.Need.TheVariants as need
use Rattle.ttm_base.specs.declared.Actor.{Actor}
use Rattle.ttm_base.specs.declared.Actor.TheVariants as actor
use Rattle.journal_model.specs.declared.script.Script.{Script}
use Rattle.journal_model.specs.declared.state.State.{State}
use Rattle.journal_model.specs.declared.state.Job.{Job}
use Rattle.journal_model.specs.declared.state.Ghost.{Ghost}
use Rattle.journal_model.specs.declared.entry.Kind.{Kind}
use Rattle.journal_model.specs.declared.entry.Kind.TheVariants as kind
use Rattle.journal_model.specs.rules.Waits.{waited_for}
use Rattle.journal_model.specs.rules.Search.{Step}
use Rattle.journal_model.specs.rules.PageSteps.{unless_waiting}
use Rattle.journal_model.specs.rules.Next.{head_of, step_of_job, next}
use Rattle.journal_model.specs.rules.Apply.{applied}
use Rattle.journal_model.specs.rules.ApplyJobs.{after_packet_run, after_done}
use Rattle.laws.proofs.law_sound.Measure.{measure}
use Rattle.laws.proofs.law_sound.MeasureFalls.{reap_lowers, packet_lowers, done_lowers}
use Rattle.laws.proofs.law_sound.Bufs.{found_passes}

-- a kind that is made once no job is waited for
once_gives : (o : Option JobId) (k l : Kind) → unless_waiting o k ≡ Ok l → k ≡ l
once_gives None k l h = let it : k ≡ l = cc in it
once_gives (Some i) k l h = cc

module _ (script : Script) (s : State) where
  abbrev Lower : Actor → Kind → Type 0
  Lower who k = measure script (applied script s who k) + 1 ≤ measure script s

  module _ (e : ℕ) (k : Kind) where
    -- the job at the head is one of the engine's
    named_so : (j : Job) → head_of s e ≡ Some j → (j.id ≡ record { ctx = e; num = j.id.num }) × (j.finished ≡ false)
    named_so j head =
        let p = and_parts (j.id.ctx == e) (not j.finished) (found_passes (λ j. (j.id.ctx == e) && not j.finished) s.core.jobs j head) in
        (ap (λ c. record { ctx = c; num = j.id.num }) (eqb-true j.id.ctx e p.0), not-true j.finished p.1)

    by_packets : (j : Job) → head_of s e ≡ Some j → (q : Bool) → nat_lt j.ran (length j.packets) ≡ q →
        ◌≡◌ {A = Step} (elim q [ true ↦ unless_waiting (waited_for s.core j.waits) (kind.Packet j.id.num j.ran []) | false ↦ Ok (kind.Done j.id.num) ]) (Ok k) → Lower (actor.Engine e) k
    by_packets j head true left h =
        let n = named_so j head in
        let less : measure script (applied script s (actor.Engine e) (kind.Packet j.id.num j.ran [])) + 1 ≤ measure script s =
        subst (λ i. measure script (after_packet_run s i) + 1 ≤ measure script s) n.0 (packet_lowers script s e j head left n.1) in
        subst (λ l. Lower (actor.Engine e) l) (once_gives (waited_for s.core j.waits) (kind.Packet j.id.num j.ran []) k h) less
    by_packets j head false left h =
        let n = named_so j head in
        let less : measure script (applied script s (actor.Engine e) (kind.Done j.id.num)) + 1 ≤ measure script s =
        subst (λ i. measure script (after_done s i) + 1 ≤ measure script s) n.0 (done_lowers script s e j head n.1) in
        subst (λ l. Lower (actor.Engine e) l) (let it : kind.Done j.id.num ≡ k = cc in it) less

    by_head : (o : Option Job) → head_of s e ≡ o → ◌≡◌ {A = Step} (elim o [ None ↦ Err need.NoJob | Some j ↦ step_of_job s j ]) (Ok k) → Lower (actor.Engine e) k
    by_head None head h = cc
    by_head (Some j) head h = by_packets j head (nat_lt j.ran (length j.packets)) refl h

    pub engine_falls : next script s (actor.Engine e) ≡ Ok k → Lower (actor.Engine e) k
    engine_falls h = by_head (head_of s e) refl h

  by_ghost : (k : Kind) (o : Option Ghost) → slice_get s.core.ghosts 0 ≡ o → ◌≡◌ {A = Step} (elim o [ None ↦ Err need.NoGhost | Some g ↦ unless_waiting (waited_for s.core g.jobs) (kind.Reap g.num) ]) (Ok k) → Lower actor.Reaper k
  by_ghost k None e h = cc
  by_ghost k (Some g) e h = subst (λ l. Lower actor.Reaper l) (once_gives (waited_for s.core g.jobs) (kind.Reap g.num) k h) (reap_lowers script s g e)

  pub reaper_falls : (k : Kind) → next script s actor.Reaper ≡ Ok k → Lower actor.Reaper k
  reaper_falls k h = by_ghost k (slice_get s.core.ghosts 0) refl h
