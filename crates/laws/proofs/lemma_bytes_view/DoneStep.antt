-- A job with no packet left is done.
use Rattle.std.proofs.Common.{◌≡◌, ℕ, ◌≤◌, zero, suc, true, List, [], ◌∷◌, length, Some, Ok, refl, sym, subst, ◌∙◌, ap, ap₂, arith, ⊎_elim}
use Rattle.std.specs.Prelude.{slice_get, drop, nat_lt}
use Rattle.std.proofs.lemmas.Bool.{lt-ltb}
use Rattle.ttm_base.specs.declared.JobId.{JobId}
use Rattle.ttm_base.specs.declared.Actor.TheVariants as actor
use Rattle.ttm_base.specs.Pages as pages
use Rattle.journal_model.specs.declared.script.Script.{Script}
use Rattle.journal_model.specs.declared.state.State.{State}
use Rattle.journal_model.specs.declared.state.Core.{Core}
use Rattle.journal_model.specs.declared.state.Job.{Job}
use Rattle.journal_model.specs.declared.entry.Kind.TheVariants as kind
use Rattle.journal_model.specs.rules.Places.{aperture}
use Rattle.journal_model.specs.rules.PlainMemory.{Memory, OwedProbes}
use Rattle.journal_model.specs.rules.Waits.{same_job}
use Rattle.journal_model.specs.rules.Next.{next}
use Rattle.journal_model.specs.rules.ApplyJobs.{changed_job}
use Rattle.laws.specs.law_state.GoodState.{GoodJobs}
use Rattle.laws.specs.lemma_bytes_model.View.{View, Good, at_job, job_done}
use Rattle.laws.proofs.lemma_bytes_model.Rest.{at_same, at_other}
use Rattle.laws.proofs.lemma_bytes_model.Engine.{done_keeps}
use Rattle.laws.specs.lemma_bytes_view.Seen.{steps_from, steps_of}
use Rattle.laws.proofs.lemma_bytes_view.World.{Seen}
use Rattle.laws.proofs.lemma_bytes_view.Jobs.{head_done, head_first, passed, Changed, changed_at, same_job-refl}
use Rattle.laws.proofs.lemma_bytes_view.Kept.{keep_changed, before_kept, changing_kept, using_kept, ghostly_kept, mover_kept}
use Rattle.laws.proofs.lemma_bytes_view.PacketStep.{no_bytes}

drop_all : {X : Type 0} (xs : List X) (i : ℕ) → length xs ≤ i → drop i xs ≡ []
drop_all [] zero h = refl
drop_all [] (suc i) h = refl
drop_all (x ∷ xs) zero h = absurd (omega (arith, h))
drop_all (x ∷ xs) (suc i) h = drop_all xs i (omega (arith, h))

length-changed : (f : Job → Job) (id : JobId) (xs : List Job) → length xs ≡ length (changed_job f id xs)
length-changed f id [] = refl
length-changed f id (x ∷ xs) = ap suc (length-changed f id xs)

module _ (script : Script) (s : State) (owed_probes : OwedProbes) (mem : Memory) (stores : pages.PageBytes) (v : View) (seen_so : Seen script s.core owed_probes mem stores v) (g : Good no_bytes v)
    (engines : ℕ) (last : List ℕ) (jobs : GoodJobs engines last s.core.jobs) where
  -- which job it is, with no packet left
  pub record Ending (e n : ℕ) : Type 0 where
    pub at : ℕ
    pub job : Job
    pub here : slice_get s.core.jobs at ≡ Some job
    pub name : record { ctx = e; num = n } ≡ job.id
    pub over : length job.packets ≤ job.ran

  pub ending : (e n : ℕ) → next script s (actor.Engine e) ≡ Ok (kind.Done n) → Ending e n
  ending e n h =
      let p = head_done script s e n h in
      let f = head_first s e p.job p.head in
      let c = passed p.job.id.ctx e p.job.finished f.passes in
      record { at = f.at; job = p.job; here = f.here; name = ap₂ (λ a m. record { ctx = a; num = m }) (sym c.0) p.num; over = p.over }

  module _ (e n : ℕ) (r : Ending e n) where
    none_left : v.left r.at ≡ []
    none_left = seen_so.left r.at r.job r.here ∙ ap (steps_from (aperture s.core) (owed_probes r.job.id) r.job.ran) (drop_all r.job.packets r.job.ran r.over)

    has_begun : v.begun r.at ≡ true
    has_begun = seen_so.begun r.at r.job r.here ∙ lt-ltb 0 r.job.ran (let some = jobs.some r.at r.job r.here in let all = r.over in omega (arith, some, all))

    pub good_after : Good no_bytes (job_done r.at v)
    good_after = done_keeps no_bytes v g r.at has_begun none_left

    at_is : (i : ℕ) (old : Job) → slice_get s.core.jobs i ≡ Some old → record { ctx = e; num = n } ≡ old.id → r.at ≡ i
    at_is i old f same = jobs.names r.at i r.job old r.here f (subst (λ m. same_job r.job.id m ≡ true) (sym r.name ∙ same) (same_job-refl r.job.id))

    at_isnt : (i : ℕ) (old : Job) → slice_get s.core.jobs i ≡ Some old → (record { ctx = e; num = n } ≡ old.id → ⊥) → r.at ≡ i → ⊥
    at_isnt i old f ne same =
        let is : Some r.job ≡ Some old = sym r.here ∙ ap (slice_get s.core.jobs) same ∙ f in
        let one : r.job ≡ old = cc in
        ne (r.name ∙ ap (λ (j : Job). j.id) one)

    left_after : (i : ℕ) (x : Job) → Changed (λ j. record j { finished = true }) (record { ctx = e; num = n }) s.core.jobs i x → v.left i ≡ steps_of (aperture s.core) owed_probes x
    left_after i x ch = seen_so.left i ch.old ch.at ∙ ⊎_elim (λ z. ap (steps_of (aperture s.core) owed_probes) (sym z.1)) (λ z. ap (steps_of (aperture s.core) owed_probes) (sym z.1)) ch.is

    begun_after : (i : ℕ) (x : Job) → Changed (λ j. record j { finished = true }) (record { ctx = e; num = n }) s.core.jobs i x → v.begun i ≡ nat_lt 0 x.ran
    begun_after i x ch = seen_so.begun i ch.old ch.at ∙ ⊎_elim (λ z. ap (λ (j : Job). nat_lt 0 j.ran) (sym z.1)) (λ z. ap (λ (j : Job). nat_lt 0 j.ran) (sym z.1)) ch.is

    done_after : (i : ℕ) (x : Job) → Changed (λ j. record j { finished = true }) (record { ctx = e; num = n }) s.core.jobs i x → at_job r.at true v.done i ≡ x.finished
    done_after i x ch =
        ⊎_elim
        (λ z. at_same r.at i true v.done (at_is i ch.old ch.at z.0) ∙ ap (λ (j : Job). j.finished) (sym z.1))
        (λ z. at_other r.at i true v.done (at_isnt i ch.old ch.at z.0) ∙ seen_so.done i ch.old ch.at ∙ ap (λ (j : Job). j.finished) (sym z.1))
        ch.is

    pub seen_after : Seen script (record s.core { jobs = changed_job (λ j. record j { finished = true }) (record { ctx = e; num = n }) s.core.jobs }) owed_probes mem stores (job_done r.at v)
    seen_after =
        let new : Core = record s.core { jobs = changed_job (λ j. record j { finished = true }) (record { ctx = e; num = n }) s.core.jobs } in
        let keep = keep_changed (λ j. record j { finished = true }) (record { ctx = e; num = n }) s.core.jobs (λ x. refl) (λ x. refl) in
        record {
          count = seen_so.count ∙ length-changed (λ j. record j { finished = true }) (record { ctx = e; num = n }) s.core.jobs;
          left = λ i x h. left_after i x (changed_at (λ j. record j { finished = true }) (record { ctx = e; num = n }) s.core.jobs i x h);
          begun = λ i x h. begun_after i x (changed_at (λ j. record j { finished = true }) (record { ctx = e; num = n }) s.core.jobs i x h);
          done = λ i x h. done_after i x (changed_at (λ j. record j { finished = true }) (record { ctx = e; num = n }) s.core.jobs i x h);
          prior = λ j i h. before_kept s.core.jobs new.jobs keep j i (seen_so.prior j i h);
          strong = λ b j h. changing_kept s.core new keep b j (λ i w. w) (seen_so.strong b j h);
          shared = λ b j h. using_kept s.core new keep b j (λ i w. w) (seen_so.shared b j h);
          ghost = λ m j h. ghostly_kept s.core new keep m j (λ i y w. w) (seen_so.ghost m j h);
          mover = λ j h. mover_kept s.core new keep j refl (seen_so.mover j h);
          place = seen_so.place;
          owner = seen_so.owner;
          there = seen_so.there;
          stores = seen_so.stores;
          cut = seen_so.cut;
          plain = seen_so.plain;
        }
