-- Who holds an aperture page for a job: a buffer with the job as a fence, or a ghost that waits for it.
use Rattle.std.proofs.Common.{◌≡◌, ℕ, ◌<◌, zero, suc, Bool, true, false, List, [], ◌∷◌, ◌++◌, Option, Some, refl, sym, subst, ◌∙◌, ap, ◌⊎◌, inl, inr, ⊎_elim}
use Rattle.std.specs.Prelude.{slice_get, slice_set, map, fold, option_map, option_and_then, nat_lt, if◌then◌else◌}
use Rattle.std.specs.List.{list_any}
use Rattle.std.proofs.lemmas.Bool.{or_cases}
use Rattle.ttm_base.specs.declared.Mem.{Mem}
use Rattle.ttm_base.specs.declared.Mem.TheVariants.{System, Tt, Vram}
use Rattle.ttm_base.specs.declared.BufId.{BufId}
use Rattle.ttm_base.specs.declared.JobId.{JobId}
use Rattle.ttm_base.specs.declared.Usage.{Usage}
use Rattle.ttm_base.specs.declared.Usage.TheVariants as usage
use Rattle.ttm_base.specs.declared.Span.{Span}
use Rattle.ttm_base.specs.declared.Fence.{Fence}
use Rattle.ttm_base.specs.declared.Op.{Op}
use Rattle.ttm_base.specs.Reach.{same_mem}
use Rattle.ttm_base.specs.Packets.{packet_names}
use Rattle.journal_model.specs.declared.state.Core.{Core}
use Rattle.journal_model.specs.declared.state.Buffer.{Buffer}
use Rattle.journal_model.specs.declared.state.Ghost.{Ghost}
use Rattle.journal_model.specs.declared.state.Job.{Job}
use Rattle.journal_model.specs.rules.State.{live_in, changed}
use Rattle.journal_model.specs.rules.Places.{pages_of}
use Rattle.journal_model.specs.rules.Holds.{spans_in, has_number}
use Rattle.journal_model.specs.rules.Waits.{same_job, use_of, jobs_before_write}
use Rattle.journal_model.specs.rules.ApplyPages.{with_fence, with_kernel_fences, with_spans}
use Rattle.journal_model.specs.rules.ApplyVictims.{leaves_tt}
use Rattle.journal_model.specs.rules.ApplyJobs.{with_use}
use Rattle.laws.proofs.law_state.Lists.{set_at}
use Rattle.laws.proofs.lemma_bytes_model.Actions.{or_first, or_second}
use Rattle.laws.proofs.lemma_bytes_view.Jobs.{same_job-refl}
use Rattle.laws.proofs.lemma_bytes_view.Kept.{Keep}

-- ---- holders

-- the buffer stands on the page of TT, and the job is among its fences
pub record Holding (page : ℕ) (id : JobId) (x : Buffer) : Type 0 where
  pub here : has_number (pages_of (spans_in Tt x)) page ≡ true
  pub fence : list_any (same_job id) (jobs_before_write x) ≡ true

-- a live buffer
pub record BufferHolds (buffers : List (Option Buffer)) (page : ℕ) (id : JobId) : Type 0 where
  pub b : BufId
  pub buffer : Buffer
  pub live : live_in buffers b ≡ Some buffer
  pub holding : Holding page id buffer

-- one of these jobs was emitted after job i and waits for it
pub record IsAwaited (jobs : List Job) (i : ℕ) (id : JobId) (ids : List JobId) : Type 0 where
  pub at : ℕ
  pub later : Job
  pub there : slice_get jobs at ≡ Some later
  pub after : i < at
  pub among : list_any (same_job later.id) ids ≡ true
  pub waits : list_any (same_job id) later.waits ≡ true

-- a ghost has the page of TT, and waits for the job, or for one that waits for it
pub record GhostHolds (ghosts : List Ghost) (jobs : List Job) (page i : ℕ) (id : JobId) : Type 0 where
  pub place : ℕ
  pub ghost : Ghost
  pub is : slice_get ghosts place ≡ Some ghost
  pub here : has_number (pages_of ghost.tt) page ≡ true
  pub job : (list_any (same_job id) ghost.jobs ≡ true) ⊎ IsAwaited jobs i id ghost.jobs

-- the page is held for job i
abbrev pub Holder : List (Option Buffer) → List Ghost → List Job → ℕ → ℕ → JobId → Type 0
Holder buffers ghosts jobs page i id = BufferHolds buffers page id ⊎ GhostHolds ghosts jobs page i id

-- each aperture page that an unfinished job names is held for it
abbrev pub HaveHolders : Core → Type 0
HaveHolders c =
    (i page : ℕ) (j : Job) → slice_get c.jobs i ≡ Some j → j.finished ≡ false → list_any (packet_names page) j.packets ≡ true →
    Holder c.buffers c.ghosts c.jobs page i j.id

-- a job that has begun waits for none of those before it any more
abbrev pub AreInOrder : List Job → Type 0
AreInOrder jobs =
    (i k : ℕ) (x y : Job) → i < k → slice_get jobs i ≡ Some x → slice_get jobs k ≡ Some y → list_any (same_job x.id) y.waits ≡ true →
    nat_lt 0 y.ran ≡ true → x.finished ≡ true

-- ---- jobs that come or change

pub awaited_kept : (old new : List Job) → Keep old new → (i : ℕ) (id : JobId) (ids : List JobId) → IsAwaited old i id ids → IsAwaited new i id ids
awaited_kept old new k i id ids a =
    let l = k a.at a.later a.there in
    record {
      at = a.at;
      later = l.job;
      there = l.at;
      after = a.after;
      among = subst (λ n. list_any (same_job n) ids ≡ true) (sym l.id) a.among;
      waits = subst (λ ws. list_any (same_job id) ws ≡ true) (sym l.waits) a.waits;
    }

pub ghost_kept : (ghosts : List Ghost) (old new : List Job) → Keep old new → (page i : ℕ) (id : JobId) → GhostHolds ghosts old page i id → GhostHolds ghosts new page i id
ghost_kept ghosts old new k page i id m =
    record { place = m.place; ghost = m.ghost; is = m.is; here = m.here; job = ⊎_elim (λ h. inl h) (λ a. inr (awaited_kept old new k i id m.ghost.jobs a)) m.job }

-- ---- lists of buffers

-- the buffer that was set
at_set : (buffers : List (Option Buffer)) (b d : BufId) (x : Buffer) → b.0 ≡ d.0 → live_in buffers d ≡ Some x → live_in buffers b ≡ Some x
at_set buffers b d x q e = ap (λ i. option_and_then (λ o. o) (slice_get buffers i)) q ∙ e

pub changed_holds : (f : Buffer → Buffer) (buffers : List (Option Buffer)) (b : BufId) (page : ℕ) (id : JobId) →
    ((x : Buffer) → live_in buffers b ≡ Some x → Holding page id x → Holding page id (f x)) → BufferHolds buffers page id → BufferHolds (changed f buffers b) page id
changed_holds f buffers b page id keep m =
    ⊎_elim
    (λ q. record { b = m.b; buffer = m.buffer; live = ap (option_and_then (λ o. o)) q ∙ m.live; holding = m.holding })
    (λ q.
    let at = at_set buffers b m.b m.buffer q.0 m.live in
    record { b = m.b; buffer = f m.buffer; live = ap (option_and_then (λ o. o)) q.1 ∙ ap (option_map f) at; holding = keep m.buffer at m.holding })
    (set_at buffers b.0 m.b.0 (option_map f (live_in buffers b)))

-- another buffer holds the page, or this one did
pub changed_either : (f : Buffer → Buffer) (buffers : List (Option Buffer)) (b : BufId) (page : ℕ) (id : JobId) →
    BufferHolds buffers page id → BufferHolds (changed f buffers b) page id ⊎ ((x : Buffer) × (live_in buffers b ≡ Some x) × Holding page id x)
changed_either f buffers b page id m =
    ⊎_elim
    (λ q. inl (record { b = m.b; buffer = m.buffer; live = ap (option_and_then (λ o. o)) q ∙ m.live; holding = m.holding }))
    (λ q. inr (m.buffer, at_set buffers b m.b m.buffer q.0 m.live, m.holding))
    (set_at buffers b.0 m.b.0 (option_map f (live_in buffers b)))

pub set_either : (buffers : List (Option Buffer)) (b : BufId) (o : Option Buffer) (page : ℕ) (id : JobId) →
    BufferHolds buffers page id → BufferHolds (slice_set buffers b.0 o) page id ⊎ ((x : Buffer) × (live_in buffers b ≡ Some x) × Holding page id x)
set_either buffers b o page id m =
    ⊎_elim
    (λ q. inl (record { b = m.b; buffer = m.buffer; live = ap (option_and_then (λ o. o)) q ∙ m.live; holding = m.holding }))
    (λ q. inr (m.buffer, at_set buffers b m.b m.buffer q.0 m.live, m.holding))
    (set_at buffers b.0 m.b.0 o)

-- a live buffer that was changed
pub changed_here : (f : Buffer → Buffer) (buffers : List (Option Buffer)) (b : BufId) (x : Buffer) → live_in buffers b ≡ Some x → live_in (changed f buffers b) b ≡ Some (f x)
changed_here f buffers b x e = at buffers b.0 e
  where
    at : (bs : List (Option Buffer)) (k : ℕ) → option_and_then (λ o. o) (slice_get bs k) ≡ Some x →
        option_and_then (λ o. o) (slice_get (slice_set bs k (option_map f (option_and_then (λ o. o) (slice_get bs k)))) k) ≡ Some (f x)
    at [] k e = cc
    at (o ∷ bs) zero e = ap (option_map f) e
    at (o ∷ bs) (suc k) e = at bs k e

-- ---- changes of a buffer

any_more : (p : JobId → Bool) (fs gs : List Fence) → list_any p (map (λ f. f.job) fs) ≡ true → list_any p (map (λ f. f.job) (fs ++ gs)) ≡ true
any_more p [] gs h = cc
any_more p (f ∷ fs) gs h =
    ⊎_elim (λ e. or_first (p f.job) (list_any p (map (λ f. f.job) (fs ++ gs))) e) (λ e. or_second (p f.job) (list_any p (map (λ f. f.job) (fs ++ gs))) (any_more p fs gs e))
    (or_cases (p f.job) (list_any p (map (λ f. f.job) fs)) h)

any_last : (p : JobId → Bool) (fs : List Fence) (f : Fence) → p f.job ≡ true → list_any p (map (λ f. f.job) (fs ++ f ∷ [])) ≡ true
any_last p [] f h = or_first (p f.job) false h
any_last p (g ∷ fs) f h = or_second (p g.job) (list_any p (map (λ f. f.job) (fs ++ f ∷ []))) (any_last p fs f h)

pub fenced : (job : JobId) (how : Usage) (page : ℕ) (id : JobId) (x : Buffer) → Holding page id x → Holding page id (with_fence job how x)
fenced job how page id x h = record { here = h.here; fence = any_more (same_job id) x.fences (record { job = job; usage = how } ∷ []) h.fence }

-- the fence that was just added
pub own_fence : (job : JobId) (how : Usage) (x : Buffer) → list_any (same_job job) (jobs_before_write (with_fence job how x)) ≡ true
own_fence job how x = any_last (same_job job) x.fences (record { job = job; usage = how }) (same_job-refl job)

pub kernel_fenced : (jobs : List JobId) (page : ℕ) (id : JobId) (x : Buffer) → Holding page id x → Holding page id (with_kernel_fences jobs x)
kernel_fenced [] page id x h = h
kernel_fenced (j ∷ jobs) page id x h = kernel_fenced jobs page id (with_fence j usage.Kernel x) (fenced j usage.Kernel page id x h)

pub retargeted : (m : Mem) (o : Option (List Span)) (page : ℕ) (id : JobId) (x : Buffer) → Holding page id x → Holding page id (with_spans m o x)
retargeted m o page id x h = record { here = h.here; fence = h.fence }

pub caught : (m : Mem) (page : ℕ) (id : JobId) (x : Buffer) → Holding page id x → Holding page id (leaves_tt m x)
caught Tt page id x h = record { here = h.here; fence = h.fence }
caught Vram page id x h = h
caught System page id x h = h

-- a buffer out of TT holds no page of it
pub no_page : (page : ℕ) (x : Buffer) → (x.mem ≡ Tt → ⊥) → has_number (pages_of (spans_in Tt x)) page ≡ true → ⊥
no_page page x ne h = by x.mem refl h
  where
    by : (m : Mem) → x.mem ≡ m → has_number (pages_of (if same_mem m Tt then x.spans else [])) page ≡ true → ⊥
    by Tt e g = ne e
    by Vram e g = cc
    by System e g = cc

pub uses_hold : (job : JobId) (ops : List Op) (bs : List BufId) (buffers : List (Option Buffer)) (page : ℕ) (id : JobId) → BufferHolds buffers page id → BufferHolds (fold (with_use job ops) buffers bs) page id
uses_hold job ops [] buffers page id m = m
uses_hold job ops (b ∷ bs) buffers page id m =
    uses_hold job ops bs (with_use job ops buffers b) page id (changed_holds (with_fence job (use_of ops b)) buffers b page id (λ x e h. fenced job (use_of ops b) page id x h) m)

-- ---- lists of ghosts

pub more_ghosts : (ghosts : List Ghost) (g : Ghost) (jobs : List Job) (page i : ℕ) (id : JobId) → GhostHolds ghosts jobs page i id → GhostHolds (ghosts ++ g ∷ []) jobs page i id
more_ghosts ghosts g jobs page i id m = record { place = m.place; ghost = m.ghost; is = front ghosts m.place m.is; here = m.here; job = m.job }
  where
    front : (xs : List Ghost) (k : ℕ) → slice_get xs k ≡ Some m.ghost → slice_get (xs ++ g ∷ []) k ≡ Some m.ghost
    front [] k e = cc
    front (y ∷ ys) zero e = e
    front (y ∷ ys) (suc k) e = front ys k e
