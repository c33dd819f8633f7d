-- Which of some jobs covers one, by their places among the jobs, from state to state.
use Rattle.std.proofs.Common.{◌≡◌, ℕ, ◌<◌, true, false, List, Some, IsTrue, sym, subst, ◌∙◌, ap, ◌⊎◌, inl, inr, ⊎_elim}
use Rattle.std.specs.Prelude.{Contains, slice_get}
use Rattle.std.specs.List.{list_any}
use Rattle.ttm_base.specs.declared.JobId.{JobId}
use Rattle.journal_model.specs.declared.script.Script.{Script}
use Rattle.journal_model.specs.declared.entry.Entry.{Entry}
use Rattle.journal_model.specs.declared.state.Job.{Job}
use Rattle.journal_model.specs.scripts.ScriptRules.{is_script}
use Rattle.journal_model.specs.rules.Waits.{same_job}
use Rattle.journal_model.specs.statements.After.{ComesAfter, by_context, by_wait, through}
use Rattle.journal_model.specs.rules.Legal.{state_of, IsLegal}
use Rattle.law_facts.specs.Facts.{IsCovered, WaitsFor}
use Rattle.laws.proofs.law_state.GoodStates.{good_law}
use Rattle.laws.proofs.lemma_bytes_model.Actions.{clash, bool_cases}
use Rattle.laws.proofs.lemma_bytes_view.Jobs.{same_job-refl}
use Rattle.law_facts.proofs.Jobs.{at_of, has_of, GoOn}
use Rattle.law_facts.proofs.Order.{done_after}
use Rattle.law_facts.proofs.Reach.{AfterAt, in_context, waiting, over, after_goes, after_jobs, after_back}

-- one of these jobs is job n, or comes after it
pub record CoveredAt (jobs : List Job) (ids : List JobId) (n : ℕ) : Type 0 where
  pub at : ℕ
  pub job : Job
  pub here : slice_get jobs at ≡ Some job
  pub among : list_any (same_job job.id) ids ≡ true
  pub after : (at ≡ n) ⊎ AfterAt jobs at n

-- in a later state, of more jobs
pub covered_goes : (old new : List Job) (ids more : List JobId) (n : ℕ) → GoOn old new → ((i : JobId) → list_any (same_job i) ids ≡ true → list_any (same_job i) more ≡ true) → CoveredAt old ids n → CoveredAt new more n
covered_goes old new ids more n go grow h =
    let g = go h.at h.job h.here in
    record {
      at = h.at;
      job = g.job;
      here = g.at;
      among = subst (λ i. list_any (same_job i) more ≡ true) (sym g.id) (grow h.job.id h.among);
      after = ⊎_elim (λ e. inl e) (λ e. inr (after_goes old new h.at n go e)) h.after;
    }

-- job n waits for job m, or for one that comes after it
abbrev pub WaitsAt : List Job → ℕ → ℕ → Type 0
WaitsAt jobs n m = (later : Job) × (slice_get jobs n ≡ Some later) × CoveredAt jobs later.waits m

pub waits_go : (old new : List Job) (n m : ℕ) → GoOn old new → WaitsAt old n m → WaitsAt new n m
waits_go old new n m go h =
    let g = go n h.0 h.1 in
    (g.job, g.at, covered_goes old new h.0.waits g.job.waits m go (λ i e. subst (λ is. list_any (same_job i) is ≡ true) (sym g.waits) e) h.2)

module _ (script : Script) (fits : IsTrue (is_script script)) (journal : List Entry) (legal : IsLegal script journal) where
  abbrev jobs : List Job
  jobs = (state_of script journal).core.jobs

  -- a job has one place
  place_of_job : (a b : ℕ) (x : Job) → slice_get jobs a ≡ Some x → slice_get jobs b ≡ Some x → a ≡ b
  place_of_job a b x e f = (good_law script fits journal legal).jobs.names a b x x e f (same_job-refl x.id)

  -- from jobs to their places
  after_at : (m n : ℕ) (x y : Job) → slice_get jobs m ≡ Some x → slice_get jobs n ≡ Some y → ComesAfter jobs x y → AfterAt jobs m n
  after_at m n x y a b (by_context cx cy e l) = in_context x y a b e l
  after_at m n x y a b (by_wait cx cy w) = waiting x y a b w
  after_at m n x y a b (through {k} p q) = let c = middle x k p in over (after_at m c.0 x k a c.1 p) (after_at c.0 n k y c.1 b q)
    where
      last : (x k : Job) → ComesAfter jobs x k → Contains jobs k
      last x k (by_context cx ck e l) = ck
      last x k (by_wait cx ck w) = ck
      last x k (through {k = z} p q) = last z k q

      middle : (x k : Job) → ComesAfter jobs x k → (i : ℕ) × (slice_get jobs i ≡ Some k)
      middle x k p = at_of k jobs (last x k p)

  -- what covers an unfinished job is unfinished
  pub unfinished_too : (m n : ℕ) (x y : Job) → slice_get jobs m ≡ Some x → slice_get jobs n ≡ Some y → (m ≡ n) ⊎ AfterAt jobs m n → y.finished ≡ false → x.finished ≡ false
  unfinished_too m n x y a b r f = ⊎_elim (λ t. clash (ends r t) f) (λ t. t) (bool_cases x.finished)
    where
      ends : (m ≡ n) ⊎ AfterAt jobs m n → x.finished ≡ true → y.finished ≡ true
      ends (inl e) t = let two : Some x ≡ Some y = sym a ∙ ap (slice_get jobs) e ∙ b in let is : x ≡ y = cc in ap (λ (z : Job). z.finished) (sym is) ∙ t
      ends (inr e) t = done_after script fits journal legal x y (after_jobs jobs m n x y a b e) t

  pub covered_of : (ids : List JobId) (n : ℕ) (y : Job) → slice_get jobs n ≡ Some y → y.finished ≡ false → CoveredAt jobs ids n → IsCovered jobs ids y
  covered_of ids n y b f h = record {
    job = h.job;
    there = has_of h.job jobs h.at h.here;
    among = h.among;
    unfinished = unfinished_too h.at n h.job y h.here b h.after f;
    after = ⊎_elim
        (λ e. let two : Some h.job ≡ Some y = sym h.here ∙ ap (slice_get jobs) e ∙ b in let is : h.job ≡ y = cc in inl is)
        (λ e. inr (after_jobs jobs h.at n h.job y h.here b e))
        h.after;
  }

  pub at_covered : (ids : List JobId) (n : ℕ) (y : Job) → slice_get jobs n ≡ Some y → IsCovered jobs ids y → CoveredAt jobs ids n
  at_covered ids n y b h =
      let a = at_of h.job jobs h.there in
      record {
        at = a.0;
        job = h.job;
        here = a.1;
        among = h.among;
        after = ⊎_elim
            (λ e. inl (place_of_job a.0 n h.job a.1 (b ∙ ap Some (sym e))))
            (λ e. inr (after_at a.0 n h.job y a.1 b e))
            h.after;
      }

  pub waits_of : (m n : ℕ) (i j : Job) → slice_get jobs m ≡ Some i → slice_get jobs n ≡ Some j → WaitsAt jobs n m → WaitsFor jobs j i
  waits_of m n i j a b h =
      let two : Some h.0 ≡ Some j = sym h.1 ∙ b in
      let is : h.0 ≡ j = cc in
      let w = h.2 in
      record {
        job = w.job;
        there = has_of w.job jobs w.at w.here;
        waits = subst (λ (z : Job). list_any (same_job w.job.id) z.waits ≡ true) is w.among;
        after = ⊎_elim
            (λ e. let both : Some w.job ≡ Some i = sym w.here ∙ ap (slice_get jobs) e ∙ a in let same : w.job ≡ i = cc in inl same)
            (λ e. inr (after_jobs jobs w.at m w.job i w.here a e))
            w.after;
      }

  -- the last job is covered by itself alone
  pub covers_itself : (ids : List JobId) (n : ℕ) (y : Job) → slice_get jobs n ≡ Some y → ((m : ℕ) (x : Job) → slice_get jobs m ≡ Some x → n < m → ⊥) → CoveredAt jobs ids n → list_any (same_job y.id) ids ≡ true
  covers_itself ids n y b last h =
      ⊎_elim
      (λ e. let two : Some h.job ≡ Some y = sym h.here ∙ ap (slice_get jobs) e ∙ b in let is : h.job ≡ y = cc in subst (λ (z : Job). list_any (same_job z.id) ids ≡ true) is h.among)
      (λ e. absurd (last h.at h.job h.here (after_back script journal fits legal h.at n e)))
      h.after
