-- What is known of who is waited for stays known, as jobs run and more come.
use Rattle.std.proofs.Common.{◌≡◌, ℕ, zero, suc, Bool, true, false, List, [], ◌∷◌, ◌++◌, Some, refl, sym, subst, ◌∙◌, ap, inl, inr, ⊎_elim}
use Rattle.std.specs.Prelude.{slice_get, if◌then◌else◌}
use Rattle.std.specs.List.{list_any}
use Rattle.ttm_base.specs.declared.JobId.{JobId}
use Rattle.journal_model.specs.declared.state.Core.{Core}
use Rattle.journal_model.specs.declared.state.Job.{Job}
use Rattle.journal_model.specs.rules.Waits.{same_job, jobs_before_read, jobs_before_write}
use Rattle.journal_model.specs.rules.ApplyJobs.{changed_job}
use Rattle.laws.specs.law_holders.Holding.{buffer_at}
use Rattle.laws.proofs.lemma_bytes_view.World.{Before, IsChanging, IsUsing, IsGhostly, IsMover}
use Rattle.laws.proofs.lemma_bytes_view.Jobs.{changed_there}

-- the job stands where it stood, with its name and its waits
pub record Again (jobs : List Job) (i : ℕ) (x : Job) : Type 0 where
  pub job : Job
  pub at : slice_get jobs i ≡ Some job
  pub id : job.id ≡ x.id
  pub waits : job.waits ≡ x.waits

abbrev pub Keep : List Job → List Job → Type 0
Keep old new = (i : ℕ) (x : Job) → slice_get old i ≡ Some x → Again new i x

pub keep_all : (jobs : List Job) → Keep jobs jobs
keep_all jobs i x e = record { job = x; at = e; id = refl; waits = refl }

-- one job was changed in what isn't its name or its waits
pub keep_changed : (f : Job → Job) (id : JobId) (jobs : List Job) → ((x : Job) → (f x).id ≡ x.id) → ((x : Job) → (f x).waits ≡ x.waits) → Keep jobs (changed_job f id jobs)
keep_changed f id jobs names waits i x e = by (same_job id x.id) (changed_there f id jobs i x e)
  where
    by : (q : Bool) → slice_get (changed_job f id jobs) i ≡ Some (if q then f x else x) → Again (changed_job f id jobs) i x
    by true at = record { job = f x; at = at; id = names x; waits = waits x }
    by false at = record { job = x; at = at; id = refl; waits = refl }

-- one job more
pub keep_more : (jobs : List Job) (new : Job) → Keep jobs (jobs ++ new ∷ [])
keep_more jobs new i x e = record { job = x; at = front jobs i e; id = refl; waits = refl }
  where
    front : (xs : List Job) (i : ℕ) → slice_get xs i ≡ Some x → slice_get (xs ++ new ∷ []) i ≡ Some x
    front [] i e = cc
    front (y ∷ ys) zero e = e
    front (y ∷ ys) (suc i) e = front ys i e

pub before_kept : (old new : List Job) → Keep old new → (j i : ℕ) → Before old j i → Before new j i
before_kept old new k j i b =
    let l = k j b.later b.at in
    let e = k i b.earlier b.there in
    record {
      later = l.job;
      earlier = e.job;
      at = l.at;
      there = e.at;
      why = ⊎_elim
          (λ h. inl (subst (λ n. list_any (same_job n) l.job.waits ≡ true) (sym e.id) (subst (λ ws. list_any (same_job b.earlier.id) ws ≡ true) (sym l.waits) h)))
          (λ h. inr (h.0, ap (λ (n : JobId). n.ctx) l.id ∙ h.1 ∙ ap (λ (n : JobId). n.ctx) (sym e.id)))
          b.why;
    }

module _ (c d : Core) (k : Keep c.jobs d.jobs) where
  pub changing_kept : (b j : ℕ) → ((i : JobId) → list_any (same_job i) (jobs_before_read (buffer_at c b)) ≡ true → list_any (same_job i) (jobs_before_read (buffer_at d b)) ≡ true) → IsChanging c b j → IsChanging d b j
  changing_kept b j more f =
      let a = k j f.job f.at in record { job = a.job; at = a.at; has = subst (λ n. list_any (same_job n) (jobs_before_read (buffer_at d b)) ≡ true) (sym a.id) (more f.job.id f.has) }

  pub using_kept : (b j : ℕ) → ((i : JobId) → list_any (same_job i) (jobs_before_write (buffer_at c b)) ≡ true → list_any (same_job i) (jobs_before_write (buffer_at d b)) ≡ true) → IsUsing c b j → IsUsing d b j
  using_kept b j more f =
      let a = k j f.job f.at in record { job = a.job; at = a.at; has = subst (λ n. list_any (same_job n) (jobs_before_write (buffer_at d b)) ≡ true) (sym a.id) (more f.job.id f.has) }

  -- each ghost stands where it stood
  pub ghostly_kept : (n j : ℕ) → ((place : ℕ) (g : _) → slice_get c.ghosts place ≡ Some g → slice_get d.ghosts place ≡ Some g) → IsGhostly c n j → IsGhostly d n j
  ghostly_kept n j more f =
      let a = k j f.job f.at in
      record {
        job = a.job;
        at = a.at;
        place = f.place;
        ghost = f.ghost;
        there = more f.place f.ghost f.there;
        number = f.number;
        has = subst (λ n. list_any (same_job n) f.ghost.jobs ≡ true) (sym a.id) f.has;
      }

  pub mover_kept : (j : ℕ) → c.move_fence ≡ d.move_fence → IsMover c j → IsMover d j
  mover_kept j same f = let a = k j f.job f.at in record { job = a.job; at = a.at; is = sym same ∙ f.is ∙ ap Some (sym a.id) }
