-- Elements of lists by number, and how the jobs of a state go on from entry to entry.
use Rattle.std.proofs.Common.{◌≡◌, ℕ, ◌+◌, ◌<◌, ◌≤◌, zero, suc, Bool, true, false, List, [], ◌∷◌, ◌++◌, length, Some, refl, ◌∙◌, ap, arith}
use Rattle.std.specs.Prelude.{Contains, slice_get, slice_index_or, if◌then◌else◌}
use Rattle.std.specs.List.{list_any}
use Rattle.ttm_base.specs.declared.JobId.{JobId}
use Rattle.journal_model.specs.declared.state.Job.{Job}
use Rattle.journal_model.specs.rules.Waits.{same_job}
use Rattle.journal_model.specs.rules.ApplyJobs.{changed_job}
use Rattle.laws.proofs.lemma_bytes_model.Actions.{or_first, or_second}
use Rattle.laws.proofs.lemma_bytes_view.Jobs.{same_job-refl, changed_there}
use Rattle.laws.proofs.lemma_bytes_view.MoreJobs.{get_front}

-- ---- elements by number

module _ {X : Type 0} (x : X) where
  at_number : (xs : List X) (k : ℕ) → k < length xs → slice_index_or xs k x ≡ x → slice_get xs k ≡ Some x
  at_number [] k l e = absurd (omega (arith, l))
  at_number (y ∷ ys) zero l e = ap Some e
  at_number (y ∷ ys) (suc k) l e = at_number ys k (omega (arith, l)) e

  pub at_of : (xs : List X) → Contains xs x → (k : ℕ) × (slice_get xs k ≡ Some x)
  at_of xs c = (c.0, at_number xs c.0 c.1 c.2)

  is_within : (xs : List X) (k : ℕ) → slice_get xs k ≡ Some x → k < length xs
  is_within [] k e = cc
  is_within (y ∷ ys) zero e = omega arith
  is_within (y ∷ ys) (suc k) e = let l = is_within ys k e in omega (arith, l)

  is_it : (xs : List X) (k : ℕ) → slice_get xs k ≡ Some x → slice_index_or xs k x ≡ x
  is_it [] k e = cc
  is_it (y ∷ ys) zero e = cc
  is_it (y ∷ ys) (suc k) e = is_it ys k e

  pub has_of : (xs : List X) (k : ℕ) → slice_get xs k ≡ Some x → Contains xs x
  has_of xs k e = (k, is_within xs k e, is_it xs k e)

-- a job's name among names
pub among_of : (ids : List JobId) (k : ℕ) (i : JobId) → slice_get ids k ≡ Some i → list_any (same_job i) ids ≡ true
among_of [] k i e = cc
among_of (j ∷ ids) zero i e = let same : j ≡ i = cc in or_first (same_job i j) (list_any (same_job i) ids) (ap (same_job i) same ∙ same_job-refl i)
among_of (j ∷ ids) (suc k) i e = or_second (same_job i j) (list_any (same_job i) ids) (among_of ids k i e)

-- ---- jobs go on

-- a job of a later state: as it was, or further
pub record Later (old : Job) (jobs : List Job) (k : ℕ) : Type 0 where
  pub job : Job
  pub at : slice_get jobs k ≡ Some job
  pub id : job.id ≡ old.id
  pub waits : job.waits ≡ old.waits
  pub packets : job.packets ≡ old.packets
  pub ran : old.ran ≤ job.ran
  pub undone : job.finished ≡ false → old.finished ≡ false

-- each job stays in its place
abbrev pub GoOn : List Job → List Job → Type 0
GoOn old new = (k : ℕ) (x : Job) → slice_get old k ≡ Some x → Later x new k

pub go_same : (jobs : List Job) → GoOn jobs jobs
go_same jobs k x e = record { job = x; at = e; id = refl; waits = refl; packets = refl; ran = omega arith; undone = λ f. f }

pub go_more : (jobs : List Job) (y : Job) → GoOn jobs (jobs ++ y ∷ [])
go_more jobs y k x e = record { job = x; at = get_front jobs (y ∷ []) k x e; id = refl; waits = refl; packets = refl; ran = omega arith; undone = λ f. f }

pub go_ran : (id : JobId) (jobs : List Job) → GoOn jobs (changed_job (λ j. record j { ran = j.ran + 1 }) id jobs)
go_ran id jobs k x e = by (same_job id x.id) (changed_there (λ j. record j { ran = j.ran + 1 }) id jobs k x e)
  where
    by : (q : Bool) → slice_get (changed_job (λ j. record j { ran = j.ran + 1 }) id jobs) k ≡ Some (if q then record x { ran = x.ran + 1 } else x) → Later x (changed_job (λ j. record j { ran = j.ran + 1 }) id jobs) k
    by true h = record { job = record x { ran = x.ran + 1 }; at = h; id = refl; waits = refl; packets = refl; ran = omega arith; undone = λ f. f }
    by false h = record { job = x; at = h; id = refl; waits = refl; packets = refl; ran = omega arith; undone = λ f. f }

pub go_done : (id : JobId) (jobs : List Job) → GoOn jobs (changed_job (λ j. record j { finished = true }) id jobs)
go_done id jobs k x e = by (same_job id x.id) (changed_there (λ j. record j { finished = true }) id jobs k x e)
  where
    by : (q : Bool) → slice_get (changed_job (λ j. record j { finished = true }) id jobs) k ≡ Some (if q then record x { finished = true } else x) → Later x (changed_job (λ j. record j { finished = true }) id jobs) k
    by true h = record { job = record x { finished = true }; at = h; id = refl; waits = refl; packets = refl; ran = omega arith; undone = λ f. cc }
    by false h = record { job = x; at = h; id = refl; waits = refl; packets = refl; ran = omega arith; undone = λ f. f }

pub go_through : (old mid new : List Job) → GoOn old mid → GoOn mid new → GoOn old new
go_through old mid new f g k x e =
    let a = f k x e in
    let b = g k a.job a.at in
    record { job = b.job; at = b.at; id = b.id ∙ a.id; waits = b.waits ∙ a.waits; packets = b.packets ∙ a.packets; ran = (let l = a.ran in let r = b.ran in omega (arith, l, r)); undone = λ n. a.undone (b.undone n) }
