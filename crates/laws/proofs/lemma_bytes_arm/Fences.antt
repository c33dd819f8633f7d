-- A job joins the fences of its buffers: nothing else of them changes, old fences stay, and its own is there.
use Rattle.std.proofs.Common.{◌≡◌, ℕ, zero, suc, Bool, true, false, List, [], ◌∷◌, ◌++◌, Option, Some, refl, sym, subst, ◌∙◌, ap, ⊎_elim}
use Rattle.std.specs.Prelude.{slice_get, slice_set, map, filter, flat_map, fold, option_map, option_and_then, unwrap_or, ◌||◌, if◌then◌else◌}
use Rattle.std.specs.List.{list_any}
use Rattle.std.proofs.lemmas.Bool.{cases_eq, eqb-true, or_cases}
use Rattle.ttm_base.specs.declared.Mem.{Mem}
use Rattle.ttm_base.specs.declared.Mem.TheVariants as mem
use Rattle.ttm_base.specs.declared.BufId.{BufId}
use Rattle.ttm_base.specs.declared.JobId.{JobId}
use Rattle.ttm_base.specs.declared.Usage.{Usage}
use Rattle.ttm_base.specs.declared.Usage.TheVariants as usage
use Rattle.ttm_base.specs.declared.Op.{Op}
use Rattle.journal_model.specs.declared.state.Core.{Core}
use Rattle.journal_model.specs.declared.state.Buffer.{Buffer}
use Rattle.ttm_base.specs.declared.Fence.{Fence}
use Rattle.journal_model.specs.rules.State.{live_in, new_buffer, same_buffer, has_buffer}
use Rattle.journal_model.specs.rules.Places.{aperture, mapped_in}
use Rattle.journal_model.specs.rules.Waits.{same_job, changes, is_written, use_of, jobs_before_read, jobs_before_write}
use Rattle.journal_model.specs.rules.ApplyPages.{with_fence}
use Rattle.journal_model.specs.rules.ApplyJobs.{with_use}
use Rattle.laws.proofs.law_state.Lists.{set_at}
use Rattle.laws.proofs.lemma_bytes_model.Actions.{or_first, or_second}
use Rattle.laws.specs.law_holders.Holding.{buffer_at}
use Rattle.laws.proofs.lemma_bytes_view.Jobs.{same_job-refl}
use Rattle.laws.proofs.lemma_bytes_view.Quiet.{aperture_same}
use Rattle.laws.proofs.lemma_bytes_view.Titles.{kept_by, buffer_either}

-- ---- one more fence

any_left : {X : Type 0} (p : X → Bool) (xs ys : List X) → list_any p xs ≡ true → list_any p (xs ++ ys) ≡ true
any_left p [] ys h = cc
any_left p (x ∷ xs) ys h = ⊎_elim (λ e. or_first (p x) (list_any p (xs ++ ys)) e) (λ e. or_second (p x) (list_any p (xs ++ ys)) (any_left p xs ys e)) (or_cases (p x) (list_any p xs) h)

any_last : {X : Type 0} (p : X → Bool) (xs : List X) (x : X) → p x ≡ true → list_any p (xs ++ x ∷ []) ≡ true
any_last p [] x h = or_first (p x) false h
any_last p (y ∷ ys) x h = or_second (p y) (list_any p (ys ++ x ∷ [])) (any_last p ys x h)

-- a test on the jobs of fences is one on the fences
of_fences : (p : JobId → Bool) (fs : List Fence) → list_any p (map (λ f. f.job) fs) ≡ list_any (λ f. p f.job) fs
of_fences p [] = refl
of_fences p (f ∷ fs) = ap (λ q. p f.job || q) (of_fences p fs)

filter_left : (q : Fence → Bool) (p : JobId → Bool) (fs gs : List Fence) → list_any p (map (λ f. f.job) (filter q fs)) ≡ true → list_any p (map (λ f. f.job) (filter q (fs ++ gs))) ≡ true
filter_left q p [] gs h = cc
filter_left q p (f ∷ fs) gs h = by (q f) h (filter_left q p fs gs)
  where
    by : (t : Bool) → list_any p (map (λ f. f.job) (if t then f ∷ filter q fs else filter q fs)) ≡ true →
        (list_any p (map (λ f. f.job) (filter q fs)) ≡ true → list_any p (map (λ f. f.job) (filter q (fs ++ gs))) ≡ true) →
        list_any p (map (λ f. f.job) (if t then f ∷ filter q (fs ++ gs) else filter q (fs ++ gs))) ≡ true
    by true g rest =
        ⊎_elim (λ e. or_first (p f.job) (list_any p (map (λ f. f.job) (filter q (fs ++ gs)))) e) (λ e. or_second (p f.job) (list_any p (map (λ f. f.job) (filter q (fs ++ gs)))) (rest e))
        (or_cases (p f.job) (list_any p (map (λ f. f.job) (filter q fs))) g)
    by false g rest = rest g

filter_last : (q : Fence → Bool) (p : JobId → Bool) (fs : List Fence) (f : Fence) → q f ≡ true → p f.job ≡ true → list_any p (map (λ f. f.job) (filter q (fs ++ f ∷ []))) ≡ true
filter_last q p [] f t h = by (q f) t
  where
    by : (u : Bool) → u ≡ true → list_any p (map (λ f. f.job) (if u then f ∷ [] else [])) ≡ true
    by true e = or_first (p f.job) false h
    by false e = cc
filter_last q p (g ∷ fs) f t h = by (q g) (filter_last q p fs f t h)
  where
    by : (u : Bool) → list_any p (map (λ f. f.job) (filter q (fs ++ f ∷ []))) ≡ true → list_any p (map (λ f. f.job) (if u then g ∷ filter q (fs ++ f ∷ []) else filter q (fs ++ f ∷ []))) ≡ true
    by true rest = or_second (p g.job) (list_any p (map (λ f. f.job) (filter q (fs ++ f ∷ [])))) rest
    by false rest = rest

reads_stay : (p : JobId → Bool) (job : JobId) (how : Usage) (y : Buffer) → list_any p (jobs_before_read y) ≡ true → list_any p (jobs_before_read (with_fence job how y)) ≡ true
reads_stay p job how y h = filter_left changes p y.fences (record { job = job; usage = how } ∷ []) h

writes_stay : (p : JobId → Bool) (job : JobId) (how : Usage) (y : Buffer) → list_any p (jobs_before_write y) ≡ true → list_any p (jobs_before_write (with_fence job how y)) ≡ true
writes_stay p job how y h =
    of_fences p (y.fences ++ record { job = job; usage = how } ∷ [])
    ∙ any_left (λ (f : Fence). p f.job) y.fences (record { job = job; usage = how } ∷ []) (sym (of_fences p y.fences) ∙ h)

write_joins : (job : JobId) (how : Usage) (y : Buffer) → list_any (same_job job) (jobs_before_write (with_fence job how y)) ≡ true
write_joins job how y = of_fences (same_job job) (y.fences ++ record { job = job; usage = how } ∷ []) ∙ any_last (λ (f : Fence). same_job job f.job) y.fences (record { job = job; usage = how }) (same_job-refl job)

read_joins : (job : JobId) (how : Usage) (y : Buffer) → changes (record { job = job; usage = how }) ≡ true → list_any (same_job job) (jobs_before_read (with_fence job how y)) ≡ true
read_joins job how y h = filter_last changes (same_job job) y.fences (record { job = job; usage = how }) h (same_job-refl job)

-- ---- of all buffers of the job

pub record IsLive (c : Core) (b : BufId) : Type 0 where
  pub buffer : Buffer
  pub live : live_in c.buffers b ≡ Some buffer

module _ (job : JobId) (ops : List Op) where
  -- what fences don't matter to stays
  pub fold_kept : {A : Type 0} (h : Buffer → A) → ((y : Buffer) (how : Usage) → h (with_fence job how y) ≡ h y) → (bs : List BufId) (c : Core) (e : ℕ) →
      h (buffer_at (record c { buffers = fold (with_use job ops) c.buffers bs }) e) ≡ h (buffer_at c e)
  fold_kept h same [] c e = refl
  fold_kept h same (b ∷ bs) c e =
      fold_kept h same bs (record c { buffers = with_use job ops c.buffers b }) e ∙ kept_by h (with_fence job (use_of ops b)) (λ y. same y (use_of ops b)) c b e

  pub fold_aperture : (bs : List BufId) (c : Core) → aperture (record c { buffers = fold (with_use job ops) c.buffers bs }) ≡ aperture c
  fold_aperture [] c = refl
  fold_aperture (b ∷ bs) c =
      fold_aperture bs (record c { buffers = with_use job ops c.buffers b }) ∙ aperture_same (with_fence job (use_of ops b)) (λ y. by y.mem y (use_of ops b)) c b
    where
      by : (l : Mem) (y : Buffer) (how : Usage) → mapped_in l (with_fence job how y) ≡ mapped_in l y
      by mem.Tt y how = refl
      by mem.Vram y how = refl
      by mem.System y how = refl

  -- a test that more fences keep
  fold_stays : (t : Buffer → Bool) → ((y : Buffer) (how : Usage) → t y ≡ true → t (with_fence job how y) ≡ true) → (bs : List BufId) (c : Core) (e : ℕ) →
      t (buffer_at c e) ≡ true → t (buffer_at (record c { buffers = fold (with_use job ops) c.buffers bs }) e) ≡ true
  fold_stays t more [] c e h = h
  fold_stays t more (b ∷ bs) c e h =
      fold_stays t more bs (record c { buffers = with_use job ops c.buffers b }) e
      (⊎_elim (λ q. ap t q ∙ h) (λ q. ap t q ∙ more (buffer_at c e) (use_of ops b) h) (buffer_either (with_fence job (use_of ops b)) c b e))

  pub fold_reads : (p : JobId → Bool) (bs : List BufId) (c : Core) (e : ℕ) → list_any p (jobs_before_read (buffer_at c e)) ≡ true → list_any p (jobs_before_read (buffer_at (record c { buffers = fold (with_use job ops) c.buffers bs }) e)) ≡ true
  fold_reads p = fold_stays (λ y. list_any p (jobs_before_read y)) (λ y how h. reads_stay p job how y h)

  pub fold_writes : (p : JobId → Bool) (bs : List BufId) (c : Core) (e : ℕ) → list_any p (jobs_before_write (buffer_at c e)) ≡ true → list_any p (jobs_before_write (buffer_at (record c { buffers = fold (with_use job ops) c.buffers bs }) e)) ≡ true
  fold_writes p = fold_stays (λ y. list_any p (jobs_before_write y)) (λ y how h. writes_stay p job how y h)

  here_now : (c : Core) (b : BufId) (l : IsLive c b) → live_in (with_use job ops c.buffers b) b ≡ Some (with_fence job (use_of ops b) l.buffer)
  here_now c b l = set_here c.buffers b.0 l.live
    where
      set_here : (bs : List (Option Buffer)) (k : ℕ) → option_and_then (λ y. y) (slice_get bs k) ≡ Some l.buffer →
          option_and_then (λ y. y) (slice_get (slice_set bs k (option_map (with_fence job (use_of ops b)) (option_and_then (λ y. y) (slice_get bs k)))) k) ≡ Some (with_fence job (use_of ops b) l.buffer)
      set_here [] k e = cc
      set_here (o ∷ bs) zero e = ap (option_map (with_fence job (use_of ops b))) e
      set_here (o ∷ bs) (suc k) e = set_here bs k e

  live_on : (c : Core) (b d : BufId) → (d.0 ≡ b.0 → ⊥) → IsLive c b → IsLive (record c { buffers = with_use job ops c.buffers d }) b
  live_on c b d ne l =
      ⊎_elim
      (λ q. record { buffer = l.buffer; live = ap (option_and_then (λ y. y)) q ∙ l.live })
      (λ q. absurd (ne q.0))
      (set_at c.buffers d.0 b.0 (option_map (with_fence job (use_of ops d)) (live_in c.buffers d)))

  -- the job's own fence
  joins : (t : Buffer → Bool) → ((y : Buffer) (how : Usage) → t y ≡ true → t (with_fence job how y) ≡ true) → (b : BufId) → ((y : Buffer) → t (with_fence job (use_of ops b) y) ≡ true) →
      (bs : List BufId) (c : Core) → has_buffer bs b ≡ true → IsLive c b → t (buffer_at (record c { buffers = fold (with_use job ops) c.buffers bs }) b.0) ≡ true
  joins t more b new [] c h l = cc
  joins t more b new (d ∷ ds) c h l =
      ⊎_elim
      (λ e.
      let same : d ≡ b = ap (λ k. record { 0 = k }) (sym e) in
      fold_stays t more ds (record c { buffers = with_use job ops c.buffers d }) b.0
      (subst (λ a. t (buffer_at (record c { buffers = with_use job ops c.buffers a }) b.0) ≡ true) (sym same) (ap (λ o. t (unwrap_or o (new_buffer 0))) (here_now c b l) ∙ new l.buffer)))
      (λ ne.
      joins t more b new ds (record c { buffers = with_use job ops c.buffers d })
      (⊎_elim (λ e. absurd (ne (eqb-true b.0 d.0 e))) (λ e. e) (or_cases (same_buffer b d) (has_buffer ds b) h))
      (live_on c b d (λ e. ne (sym e)) l))
      (cases_eq b.0 d.0)

  pub joins_writes : (b : BufId) (bs : List BufId) (c : Core) → has_buffer bs b ≡ true → IsLive c b → list_any (same_job job) (jobs_before_write (buffer_at (record c { buffers = fold (with_use job ops) c.buffers bs }) b.0)) ≡ true
  joins_writes b = joins (λ y. list_any (same_job job) (jobs_before_write y)) (λ y how h. writes_stay (same_job job) job how y h) b (λ y. write_joins job (use_of ops b) y)

  pub joins_reads : (b : BufId) → is_written ops b ≡ true → (bs : List BufId) (c : Core) → has_buffer bs b ≡ true → IsLive c b → list_any (same_job job) (jobs_before_read (buffer_at (record c { buffers = fold (with_use job ops) c.buffers bs }) b.0)) ≡ true
  joins_reads b w =
      joins (λ y. list_any (same_job job) (jobs_before_read y)) (λ y how h. reads_stay (same_job job) job how y h) b
      (λ y. read_joins job (use_of ops b) y (ap (λ q. changes (record { job = job; usage = (if q then usage.Write else usage.Read) })) w))

-- among the jobs of one of several buffers
pub among_flat : (p : JobId → Bool) (f : BufId → List JobId) (bs : List BufId) (b : BufId) → has_buffer bs b ≡ true → list_any p (f b) ≡ true → list_any p (flat_map f bs) ≡ true
among_flat p f [] b h e = cc
among_flat p f (d ∷ ds) b h e =
    ⊎_elim
    (λ q. let same : b ≡ d = ap (λ k. record { 0 = k }) (eqb-true b.0 d.0 q) in any_left p (f d) (flat_map f ds) (subst (λ a. list_any p (f a) ≡ true) same e))
    (λ q. any_right p (f d) (flat_map f ds) (among_flat p f ds b q e))
    (or_cases (same_buffer b d) (has_buffer ds b) h)
  where
    any_right : (p : JobId → Bool) (xs ys : List JobId) → list_any p ys ≡ true → list_any p (xs ++ ys) ≡ true
    any_right p [] ys h = h
    any_right p (x ∷ xs) ys h = or_second (p x) (list_any p (xs ++ ys)) (any_right p xs ys h)
