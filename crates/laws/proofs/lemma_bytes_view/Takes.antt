-- Free pages of VRAM become the target of a buffer, and the job that moved the last victim out becomes one of its fences.
use Rattle.std.proofs.Common.{◌≡◌, ℕ, zero, suc, Bool, true, false, List, [], ◌∷◌, ◌++◌, Option, Some, None, refl, sym, subst, ◌∙◌, ap, ap₂, ◌⊎◌, inl, inr, ⊎_elim}
use Rattle.std.specs.Prelude.{slice_get, slice_set, map, filter, not, nat_eq, option_map, option_and_then, unwrap_or, ◌&&◌, ◌||◌, option_to_list, if◌then◌else◌}
use Rattle.std.specs.List.{list_any}
use Rattle.std.proofs.lemmas.Bool.{cases_eq, cases_Bool, eqb-true, eq-eqb, and_parts, or_cases, not-true}
use Rattle.ttm_base.specs.declared.Mem.{Mem}
use Rattle.ttm_base.specs.declared.Mem.TheVariants as mem
use Rattle.ttm_base.specs.declared.BufId.{BufId}
use Rattle.ttm_base.specs.declared.JobId.{JobId}
use Rattle.ttm_base.specs.declared.Span.{Span}
use Rattle.ttm_base.specs.declared.Usage.TheVariants as usage
use Rattle.ttm_base.specs.Pages as pages
use Rattle.journal_model.specs.declared.script.Script.{Script}
use Rattle.journal_model.specs.declared.state.Core.{Core}
use Rattle.journal_model.specs.declared.state.Buffer.{Buffer}
use Rattle.ttm_base.specs.declared.Fence.{Fence}
use Rattle.journal_model.specs.declared.state.Job.{Job}
use Rattle.journal_model.specs.rules.State.{changed, new_buffer, target_spans}
use Rattle.journal_model.specs.rules.Places.{pages_of, aperture, mapped_in, page_at, page_in, page_in_vram}
use Rattle.journal_model.specs.rules.Waits.{same_job, changes, is_unfinished, unfinished, jobs_before_read, jobs_before_write, jobs_before_target}
use Rattle.journal_model.specs.rules.PlainMemory.{Memory, OwedProbes}
use Rattle.journal_model.specs.rules.ApplyPages.{with_fence, with_kernel_fences, with_spans}
use Rattle.laws.proofs.law_owners.Law.{AreHeldOnce}
use Rattle.laws.specs.lemma_bytes_model.Memory as memory
use Rattle.laws.specs.lemma_bytes_model.Memory.{Page, Nowhere, Vram, touched}
use Rattle.laws.specs.lemma_bytes_model.View.{View, Good, Owner, Idle, Free, Live, Kept, Target, Ghost}
use Rattle.laws.specs.lemma_bytes_model.Entries.{retitled, taking}
use Rattle.laws.proofs.lemma_bytes_model.Owners.{take_keeps}
use Rattle.laws.specs.law_holders.Holding.{seen, live_at, kept_in, target_at, buffer_at, Holds, HeldOnce}
use Rattle.laws.proofs.law_holders.HeldOnce.{in_vram_is}
use Rattle.laws.proofs.law_holders.Owner.{owner_of, owner_is, owner_none, owning}
use Rattle.laws.proofs.lemma_bytes_view.World.{Seen, bare, IsChanging}
use Rattle.laws.proofs.lemma_bytes_view.Jobs.{same_job-refl}
use Rattle.laws.proofs.lemma_bytes_view.Kept.{keep_all, changing_kept, using_kept, ghostly_kept}
use Rattle.laws.proofs.lemma_bytes_view.PacketStep.{no_bytes}
use Rattle.laws.proofs.lemma_bytes_view.Apertures.{Spared}
use Rattle.laws.proofs.lemma_bytes_view.Quiet.{aperture_same}
use Rattle.laws.proofs.lemma_bytes_view.Titles.{kept_by, buffer_either, retitled_seen}
use Rattle.laws.proofs.lemma_bytes_view.Binds.{IsAt, at_is, live_either}

-- ---- fences change no page

pub kernel_kept : {A : Type 0} (h : Buffer → A) → ((y : Buffer) (job : JobId) → h (with_fence job usage.Kernel y) ≡ h y) → (jobs : List JobId) (y : Buffer) → h (with_kernel_fences jobs y) ≡ h y
kernel_kept h same [] y = refl
kernel_kept h same (j ∷ jobs) y = kernel_kept h same jobs (with_fence j usage.Kernel y) ∙ same y j

fenced_page : (l : Mem) (y : Buffer) (job : JobId) (i : ℕ) → page_in l (with_fence job usage.Kernel y) i ≡ page_in l y i
fenced_page mem.Tt y job i = refl
fenced_page mem.Vram y job i = refl
fenced_page mem.System y job i = refl

fenced_kept : (l : Mem) (y : Buffer) (job : JobId) (i : ℕ) → kept_in l (with_fence job usage.Kernel y) i ≡ kept_in l y i
fenced_kept mem.Tt y job i = refl
fenced_kept mem.Vram y job i = refl
fenced_kept mem.System y job i = refl

targeted_page : (l : Mem) (y : Buffer) (o : Option (List Span)) (i : ℕ) → page_in l (with_spans mem.Vram o y) i ≡ page_in l y i
targeted_page mem.Tt y o i = refl
targeted_page mem.Vram y o i = refl
targeted_page mem.System y o i = refl

targeted_kept : (l : Mem) (y : Buffer) (o : Option (List Span)) (i : ℕ) → kept_in l (with_spans mem.Vram o y) i ≡ kept_in l y i
targeted_kept mem.Tt y o i = refl
targeted_kept mem.Vram y o i = refl
targeted_kept mem.System y o i = refl

-- ---- the old fences stay, and the new ones join

either_any : (p : JobId → Bool) (xs ys : List JobId) → list_any p (xs ++ ys) ≡ (list_any p xs || list_any p ys)
either_any p [] ys = refl
either_any p (x ∷ xs) ys = ap (λ q. p x || q) (either_any p xs ys) ∙ assoc (p x) (list_any p xs) (list_any p ys)
  where
    assoc : (a b c : Bool) → (a || (b || c)) ≡ ((a || b) || c)
    assoc true b c = refl
    assoc false b c = refl

readers_more : (fs : List Fence) (job : JobId) → map (λ f. f.job) (filter changes (fs ++ record { job = job; usage = usage.Kernel } ∷ [])) ≡ map (λ f. f.job) (filter changes fs) ++ job ∷ []
readers_more [] job = refl
readers_more (f ∷ fs) job = by (changes f) (readers_more fs job)
  where
    by : (q : Bool) → map (λ f. f.job) (filter changes (fs ++ record { job = job; usage = usage.Kernel } ∷ [])) ≡ map (λ f. f.job) (filter changes fs) ++ job ∷ [] →
        map (λ f. f.job) (if q then f ∷ filter changes (fs ++ record { job = job; usage = usage.Kernel } ∷ []) else filter changes (fs ++ record { job = job; usage = usage.Kernel } ∷ []))
        ≡ map (λ f. f.job) (if q then f ∷ filter changes fs else filter changes fs) ++ job ∷ []
    by true rest = ap (λ l. f.job ∷ l) rest
    by false rest = rest

writers_more : (fs : List Fence) (job : JobId) → map (λ f. f.job) (fs ++ record { job = job; usage = usage.Kernel } ∷ []) ≡ map (λ f. f.job) fs ++ job ∷ []
writers_more [] job = refl
writers_more (f ∷ fs) job = ap (λ l. f.job ∷ l) (writers_more fs job)

left_any : (p : JobId → Bool) (xs ys : List JobId) → list_any p xs ≡ true → list_any p (xs ++ ys) ≡ true
left_any p xs ys h = either_any p xs ys ∙ or_true (list_any p xs) (list_any p ys) h
  where
    or_true : (a b : Bool) → a ≡ true → (a || b) ≡ true
    or_true true b h = refl
    or_true false b h = cc

pub readers_stay : (p : JobId → Bool) (jobs : List JobId) (y : Buffer) → list_any p (jobs_before_read y) ≡ true → list_any p (jobs_before_read (with_kernel_fences jobs y)) ≡ true
readers_stay p [] y h = h
readers_stay p (j ∷ jobs) y h = readers_stay p jobs (with_fence j usage.Kernel y) (ap (list_any p) (readers_more y.fences j) ∙ left_any p (jobs_before_read y) (j ∷ []) h)

pub writers_stay : (p : JobId → Bool) (jobs : List JobId) (y : Buffer) → list_any p (jobs_before_write y) ≡ true → list_any p (jobs_before_write (with_kernel_fences jobs y)) ≡ true
writers_stay p [] y h = h
writers_stay p (j ∷ jobs) y h = writers_stay p jobs (with_fence j usage.Kernel y) (ap (list_any p) (writers_more y.fences j) ∙ left_any p (jobs_before_write y) (j ∷ []) h)

pub one_joins : (j : JobId) (y : Buffer) → list_any (same_job j) (jobs_before_read (with_kernel_fences (j ∷ []) y)) ≡ true
one_joins j y =
    ap (list_any (same_job j)) (readers_more y.fences j)
    ∙ either_any (same_job j) (jobs_before_read y) (j ∷ [])
    ∙ by (list_any (same_job j) (jobs_before_read y)) (same_job j j) (same_job-refl j)
  where
    by : (a b : Bool) → b ≡ true → (a || (b || false)) ≡ true
    by true b h = refl
    by false true h = refl
    by false false h = cc

-- ---- the move job, where it isn't done

abbrev pub is_mover : Option ℕ → ℕ → Bool
is_mover None j = false
is_mover (Some k) j = nat_eq k j

mover-true : (o : Option ℕ) (j : ℕ) → is_mover o j ≡ true → o ≡ Some j
mover-true None j h = cc
mover-true (Some k) j h = ap Some (eqb-true k j h)

unfinished_at : (jobs : List Job) (j : ℕ) (x : Job) → slice_get jobs j ≡ Some x → x.finished ≡ false → list_any (λ y. same_job x.id y.id && not y.finished) jobs ≡ true
unfinished_at [] j x e h = cc
unfinished_at (y ∷ ys) zero x e h =
    let same : x ≡ y = cc in
    first (same_job x.id y.id) y.finished (list_any (λ y. same_job x.id y.id && not y.finished) ys) (subst (λ (z : Job). same_job x.id z.id ≡ true) same (same_job-refl x.id)) (ap (λ (z : Job). z.finished) (sym same) ∙ h)
  where
    first : (a b r : Bool) → a ≡ true → b ≡ false → ((a && not b) || r) ≡ true
    first true false r e f = refl
    first true true r e f = cc
    first false b r e f = cc
unfinished_at (y ∷ ys) (suc j) x e h = second (same_job x.id y.id && not y.finished) (list_any (λ y. same_job x.id y.id && not y.finished) ys) (unfinished_at ys j x e h)
  where
    second : (a b : Bool) → b ≡ true → (a || b) ≡ true
    second true b h = refl
    second false b h = h

module _ (script : Script) (c : Core) (owed_probes : OwedProbes) (m : Memory) (bytes : pages.PageBytes) (v : View) (s : Seen script c owed_probes m bytes v) (g : Good no_bytes v)
    (b : BufId) (x : Buffer) (is : IsAt c b x) (spans : List Span) (untargeted : target_spans mem.Vram x ≡ [])
    (before : HeldOnce (bare c))
    (once : AreHeldOnce script (record c { buffers = changed (λ y. with_kernel_fences (jobs_before_target c mem.Vram) (with_spans mem.Vram (Some spans) y)) c.buffers b }))
    (free : (k n : ℕ) → slice_get (pages_of spans) k ≡ Some n → (o : Owner) → Holds (bare c) (Vram n) o → ⊥) where
  abbrev taken : Buffer → Buffer
  taken = λ y. with_kernel_fences (jobs_before_target c mem.Vram) (with_spans mem.Vram (Some spans) y)

  abbrev after : Core
  after = record c { buffers = changed (λ y. with_kernel_fences (jobs_before_target c mem.Vram) (with_spans mem.Vram (Some spans) y)) c.buffers b }

  abbrev takes : ℕ → Bool
  takes = λ j. is_mover v.fences.mover j && not (v.done j)

  keeps : {A : Type 0} (h : Buffer → A) → ((y : Buffer) (job : JobId) → h (with_fence job usage.Kernel y) ≡ h y) → ((y : Buffer) → h (with_spans mem.Vram (Some spans) y) ≡ h y) →
      (y : Buffer) → h (with_kernel_fences (jobs_before_target c mem.Vram) (with_spans mem.Vram (Some spans) y)) ≡ h y
  keeps h one two y = kernel_kept h one (jobs_before_target c mem.Vram) (with_spans mem.Vram (Some spans) y) ∙ two y

  page_same : (i : ℕ) (y : Buffer) → page_at (with_kernel_fences (jobs_before_target c mem.Vram) (with_spans mem.Vram (Some spans) y)) i ≡ page_at y i
  page_same i y = keeps (λ z. page_at z i) (λ z job. fenced_page z.mem z job i) (λ z. targeted_page z.mem z (Some spans) i) y

  kept_same : (i : ℕ) (y : Buffer) → kept_in (with_kernel_fences (jobs_before_target c mem.Vram) (with_spans mem.Vram (Some spans) y)).mem (with_kernel_fences (jobs_before_target c mem.Vram) (with_spans mem.Vram (Some spans) y)) i ≡ kept_in y.mem y i
  kept_same i y = keeps (λ z. kept_in z.mem z i) (λ z job. fenced_kept z.mem z job i) (λ z. targeted_kept z.mem z (Some spans) i) y

  target_is : (y : Buffer) → target_spans mem.Vram (with_kernel_fences (jobs_before_target c mem.Vram) (with_spans mem.Vram (Some spans) y)) ≡ spans
  target_is y = kernel_kept (target_spans mem.Vram) (λ z job. refl) (jobs_before_target c mem.Vram) (with_spans mem.Vram (Some spans) y)

  -- ---- owners

  -- other holds are as they were
  target_other : (e k : ℕ) → (b.0 ≡ e → ⊥) → target_at (buffer_at (record c { buffers = changed (λ y. with_kernel_fences (jobs_before_target c mem.Vram) (with_spans mem.Vram (Some spans) y)) c.buffers b }) e) k ≡ target_at (buffer_at c e) k
  target_other e k ne = ⊎_elim (λ q. ap (λ o. target_at (unwrap_or o (new_buffer 0)) k) q) (λ q. absurd (ne q.0)) (live_either (λ y. with_kernel_fences (jobs_before_target c mem.Vram) (with_spans mem.Vram (Some spans) y)) c b x is e)

  live_same : (e k : ℕ) → live_at (buffer_at (record c { buffers = changed (λ y. with_kernel_fences (jobs_before_target c mem.Vram) (with_spans mem.Vram (Some spans) y)) c.buffers b }) e) k ≡ live_at (buffer_at c e) k
  live_same e k = kept_by (λ y. live_at y k) (λ y. with_kernel_fences (jobs_before_target c mem.Vram) (with_spans mem.Vram (Some spans) y)) (λ y. ap seen (page_same k y)) c b e

  keep_same : (e k : ℕ) → kept_in (buffer_at (record c { buffers = changed (λ y. with_kernel_fences (jobs_before_target c mem.Vram) (with_spans mem.Vram (Some spans) y)) c.buffers b }) e).mem (buffer_at (record c { buffers = changed (λ y. with_kernel_fences (jobs_before_target c mem.Vram) (with_spans mem.Vram (Some spans) y)) c.buffers b }) e) k ≡ kept_in (buffer_at c e).mem (buffer_at c e) k
  keep_same e k = kept_by (λ y. kept_in y.mem y k) (λ y. with_kernel_fences (jobs_before_target c mem.Vram) (with_spans mem.Vram (Some spans) y)) (λ y. kept_same k y) c b e

  forth : (y : Page) → (y ≡ Nowhere → ⊥) → (o : Owner) → Holds (bare c) y o → Holds (bare (record c { buffers = changed (λ y. with_kernel_fences (jobs_before_target c mem.Vram) (with_spans mem.Vram (Some spans) y)) c.buffers b })) y o
  forth y ne Idle h = h
  forth y ne Free h = h
  forth y ne (Live e k) h = live_same e k ∙ h
  forth y ne (Kept e k) h = keep_same e k ∙ h
  forth y ne (Target e k) h =
      ⊎_elim
      (λ q.
      let none : target_at (buffer_at c e) k ≡ Nowhere = ap (λ d. target_at (buffer_at c d) k) (sym q) ∙ ap (λ z. target_at z k) (at_is c b x is) ∙ ap (λ ss. seen (page_in_vram (slice_get (pages_of ss) k))) untargeted in
      absurd (ne (sym h ∙ none)))
      (λ q. target_other e k q ∙ h)
      (cases_eq b.0 e)
  forth y ne (Ghost n) h = h

  fate : (y : Page) → (owner_of (bare (record c { buffers = changed (λ y. with_kernel_fences (jobs_before_target c mem.Vram) (with_spans mem.Vram (Some spans) y)) c.buffers b })) y ≡ v.owner y)
      ⊎ ((k : ℕ) × (v.owner y ≡ Free) × (owner_of (bare (record c { buffers = changed (λ y. with_kernel_fences (jobs_before_target c mem.Vram) (with_spans mem.Vram (Some spans) y)) c.buffers b })) y ≡ Target b.0 k))
  fate y = by_page y
    where
      old : (y : Page) → (y ≡ Nowhere → ⊥) → (o p : Owner) → p ≡ o → Holds (bare c) y o → p ≡ v.owner y
      old y ne o p e h = e ∙ sym (owner_is (bare c) before y o ne h) ∙ sym (s.owner y)

      by_owner : (y : Page) → (y ≡ Nowhere → ⊥) → (p o : Owner) → p ≡ o → Holds (bare (record c { buffers = changed (λ y. with_kernel_fences (jobs_before_target c mem.Vram) (with_spans mem.Vram (Some spans) y)) c.buffers b })) y o → (p ≡ v.owner y) ⊎ ((k : ℕ) × (v.owner y ≡ Free) × (p ≡ Target b.0 k))
      by_owner y ne p Idle e h = absurd h
      by_owner y ne p Free e h = absurd h
      by_owner y ne p (Live d k) e h = inl (old y ne (Live d k) p e (sym (live_same d k) ∙ h))
      by_owner y ne p (Kept d k) e h = inl (old y ne (Kept d k) p e (sym (keep_same d k) ∙ h))
      by_owner y ne p (Ghost n) e h = inl (old y ne (Ghost n) p e h)
      by_owner y ne p (Target d k) e h =
          ⊎_elim
          (λ q.
          let at : (target_at (buffer_at (record c { buffers = changed (λ y. with_kernel_fences (jobs_before_target c mem.Vram) (with_spans mem.Vram (Some spans) y)) c.buffers b }) b.0) k ≡ y) = subst (λ a. target_at (buffer_at (record c { buffers = changed (λ y. with_kernel_fences (jobs_before_target c mem.Vram) (with_spans mem.Vram (Some spans) y)) c.buffers b }) a) k ≡ y) (sym q) h in
          inr (k, gained at, e ∙ ap (λ a. Target a k) (sym q)))
          (λ q. inl (old y ne (Target d k) p e (sym (target_other d k q) ∙ h)))
          (cases_eq b.0 d)
        where
          of_new : (z : Buffer) → (z ≡ buffer_at c b.0) ⊎ (z ≡ with_kernel_fences (jobs_before_target c mem.Vram) (with_spans mem.Vram (Some spans) (buffer_at c b.0))) → target_at z k ≡ y → v.owner y ≡ Free
          of_new z (inl q) at =
              absurd (ne (sym at ∙ ap (λ w. target_at w k) (q ∙ at_is c b x is) ∙ ap (λ ss. seen (page_in_vram (slice_get (pages_of ss) k))) untargeted))
          of_new z (inr q) at =
              let w = in_vram_is (slice_get (pages_of spans) k) y (ap (λ ss. seen (page_in_vram (slice_get (pages_of ss) k))) (sym (ap (target_spans mem.Vram) q ∙ target_is (buffer_at c b.0))) ∙ at) ne in
              s.owner y ∙ ap (owner_of (bare c)) w.2 ∙ owner_none (bare c) (Vram w.0) (λ r. cc) (free k w.0 w.1)

          gained : target_at (buffer_at (record c { buffers = changed (λ y. with_kernel_fences (jobs_before_target c mem.Vram) (with_spans mem.Vram (Some spans) y)) c.buffers b }) b.0) k ≡ y → v.owner y ≡ Free
          gained at =
              of_new (buffer_at (record c { buffers = changed (λ y. with_kernel_fences (jobs_before_target c mem.Vram) (with_spans mem.Vram (Some spans) y)) c.buffers b }) b.0)
              (buffer_either (λ y. with_kernel_fences (jobs_before_target c mem.Vram) (with_spans mem.Vram (Some spans) y)) c b b.0) at

      at : (y : Page) → (y ≡ Nowhere → ⊥) → (owner_of (bare (record c { buffers = changed (λ y. with_kernel_fences (jobs_before_target c mem.Vram) (with_spans mem.Vram (Some spans) y)) c.buffers b })) y ≡ v.owner y)
          ⊎ ((k : ℕ) × (v.owner y ≡ Free) × (owner_of (bare (record c { buffers = changed (λ y. with_kernel_fences (jobs_before_target c mem.Vram) (with_spans mem.Vram (Some spans) y)) c.buffers b })) y ≡ Target b.0 k))
      at y ne =
          ⊎_elim
          (λ h. by_owner y ne (owner_of (bare (record c { buffers = changed (λ y. with_kernel_fences (jobs_before_target c mem.Vram) (with_spans mem.Vram (Some spans) y)) c.buffers b })) y) (owner_of (bare (record c { buffers = changed (λ y. with_kernel_fences (jobs_before_target c mem.Vram) (with_spans mem.Vram (Some spans) y)) c.buffers b })) y) refl h)
          (λ n. inl (n.1 ∙ sym (owner_none (bare c) y ne (λ o h. n.0 o (forth y ne o h))) ∙ sym (s.owner y)))
          (owning (bare (record c { buffers = changed (λ y. with_kernel_fences (jobs_before_target c mem.Vram) (with_spans mem.Vram (Some spans) y)) c.buffers b })) y ne).fact

      by_page : (y : Page) → (owner_of (bare (record c { buffers = changed (λ y. with_kernel_fences (jobs_before_target c mem.Vram) (with_spans mem.Vram (Some spans) y)) c.buffers b })) y ≡ v.owner y)
          ⊎ ((k : ℕ) × (v.owner y ≡ Free) × (owner_of (bare (record c { buffers = changed (λ y. with_kernel_fences (jobs_before_target c mem.Vram) (with_spans mem.Vram (Some spans) y)) c.buffers b })) y ≡ Target b.0 k))
      by_page Nowhere = inl (sym (s.owner Nowhere))
      by_page (Vram n) = at (Vram n) (λ e. cc)
      by_page (memory.Frame n) = at (memory.Frame n) (λ e. cc)
      by_page (memory.Slot n) = at (memory.Slot n) (λ e. cc)
      by_page (memory.Own d i) = at (memory.Own d i) (λ e. cc)

  mover_waits : (j : ℕ) → v.fences.mover ≡ Some j → ((is_mover v.fences.mover j && not (v.done j)) ≡ true) ⊎ (v.done j ≡ true)
  mover_waits j e = ⊎_elim (λ t. inr t) (λ f. inl (ap₂ (λ p q. p && not q) (ap (λ o. is_mover o j) e ∙ eq-eqb j j refl) f)) (cases_Bool (v.done j))

  pub take_good : Good no_bytes (retitled (taking b.0 (λ j. is_mover v.fences.mover j && not (v.done j)) v.fences) (owner_of (bare (record c { buffers = changed (λ y. with_kernel_fences (jobs_before_target c mem.Vram) (with_spans mem.Vram (Some spans) y)) c.buffers b }))) v)
  take_good = take_keeps no_bytes v g b.0 (λ j. is_mover v.fences.mover j && not (v.done j)) (owner_of (bare (record c { buffers = changed (λ y. with_kernel_fences (jobs_before_target c mem.Vram) (with_spans mem.Vram (Some spans) y)) c.buffers b }))) mover_waits fate

  -- ---- fences

  readers_kept : (e : ℕ) (i : JobId) → list_any (same_job i) (jobs_before_read (buffer_at c e)) ≡ true → list_any (same_job i) (jobs_before_read (buffer_at (record c { buffers = changed (λ y. with_kernel_fences (jobs_before_target c mem.Vram) (with_spans mem.Vram (Some spans) y)) c.buffers b }) e)) ≡ true
  readers_kept e i w =
      ⊎_elim
      (λ q. ap (λ z. list_any (same_job i) (jobs_before_read z)) q ∙ w)
      (λ q. ap (λ z. list_any (same_job i) (jobs_before_read z)) q ∙ readers_stay (same_job i) (jobs_before_target c mem.Vram) (with_spans mem.Vram (Some spans) (buffer_at c e)) w)
      (buffer_either (λ y. with_kernel_fences (jobs_before_target c mem.Vram) (with_spans mem.Vram (Some spans) y)) c b e)

  writers_kept : (e : ℕ) (i : JobId) → list_any (same_job i) (jobs_before_write (buffer_at c e)) ≡ true → list_any (same_job i) (jobs_before_write (buffer_at (record c { buffers = changed (λ y. with_kernel_fences (jobs_before_target c mem.Vram) (with_spans mem.Vram (Some spans) y)) c.buffers b }) e)) ≡ true
  writers_kept e i w =
      ⊎_elim
      (λ q. ap (λ z. list_any (same_job i) (jobs_before_write z)) q ∙ w)
      (λ q. ap (λ z. list_any (same_job i) (jobs_before_write z)) q ∙ writers_stay (same_job i) (jobs_before_target c mem.Vram) (with_spans mem.Vram (Some spans) (buffer_at c e)) w)
      (buffer_either (λ y. with_kernel_fences (jobs_before_target c mem.Vram) (with_spans mem.Vram (Some spans) y)) c b e)

  -- the move job, where it isn't done, joins the buffer's fences
  joined : (j : ℕ) → v.fences.mover ≡ Some j → v.done j ≡ false → IsChanging (record c { buffers = changed (λ y. with_kernel_fences (jobs_before_target c mem.Vram) (with_spans mem.Vram (Some spans) y)) c.buffers b }) b.0 j
  joined j e open_now =
      let f = s.mover j e in
      let running : is_unfinished c f.job.id ≡ true = unfinished_at c.jobs j f.job f.at (sym (s.done j f.job f.at) ∙ open_now) in
      let one : jobs_before_target c mem.Vram ≡ f.job.id ∷ [] = ap (λ o. unfinished c (option_to_list o)) f.is ∙ ap (λ q. if q then f.job.id ∷ [] else []) running in
      record {
        job = f.job;
        at = f.at;
        has = ap (λ (z : Buffer). list_any (same_job f.job.id) (jobs_before_read z)) changed_here
            ∙ ap (λ js. list_any (same_job f.job.id) (jobs_before_read (with_kernel_fences js (with_spans mem.Vram (Some spans) x)))) one
            ∙ one_joins f.job.id (with_spans mem.Vram (Some spans) x);
      }
    where
      set_here : (bs : List (Option Buffer)) (k : ℕ) → option_and_then (λ y. y) (slice_get bs k) ≡ Some x →
          option_and_then (λ y. y) (slice_get (slice_set bs k (option_map (λ y. with_kernel_fences (jobs_before_target c mem.Vram) (with_spans mem.Vram (Some spans) y)) (option_and_then (λ y. y) (slice_get bs k)))) k)
          ≡ Some (with_kernel_fences (jobs_before_target c mem.Vram) (with_spans mem.Vram (Some spans) x))
      set_here [] k e = cc
      set_here (o ∷ bs) zero e = ap (option_map (λ y. with_kernel_fences (jobs_before_target c mem.Vram) (with_spans mem.Vram (Some spans) y))) e
      set_here (o ∷ bs) (suc k) e = set_here bs k e

      changed_here : buffer_at (record c { buffers = changed (λ y. with_kernel_fences (jobs_before_target c mem.Vram) (with_spans mem.Vram (Some spans) y)) c.buffers b }) b.0 ≡ with_kernel_fences (jobs_before_target c mem.Vram) (with_spans mem.Vram (Some spans) x)
      changed_here = ap (λ o. unwrap_or o (new_buffer 0)) (set_here c.buffers b.0 is.live)

  strong_after : (e j : ℕ) → (v.fences.strong e j || (nat_eq b.0 e && (is_mover v.fences.mover j && not (v.done j)))) ≡ true → IsChanging (record c { buffers = changed (λ y. with_kernel_fences (jobs_before_target c mem.Vram) (with_spans mem.Vram (Some spans) y)) c.buffers b }) e j
  strong_after e j h =
      ⊎_elim
      (λ a. changing_kept c (record c { buffers = changed (λ y. with_kernel_fences (jobs_before_target c mem.Vram) (with_spans mem.Vram (Some spans) y)) c.buffers b }) (keep_all c.jobs) e j (readers_kept e) (s.strong e j a))
      (λ a.
      let p = and_parts (nat_eq b.0 e) (is_mover v.fences.mover j && not (v.done j)) a in
      let q = and_parts (is_mover v.fences.mover j) (not (v.done j)) p.1 in
      subst (λ d. IsChanging (record c { buffers = changed (λ y. with_kernel_fences (jobs_before_target c mem.Vram) (with_spans mem.Vram (Some spans) y)) c.buffers b }) d j) (eqb-true b.0 e p.0)
      (joined j (mover-true v.fences.mover j q.0) (not-true (v.done j) q.1)))
      (or_cases (v.fences.strong e j) (nat_eq b.0 e && (is_mover v.fences.mover j && not (v.done j))) h)

  -- mapped pages stay
  take_spares : (i p : ℕ) → Spared (aperture c) (aperture (record c { buffers = changed (λ y. with_kernel_fences (jobs_before_target c mem.Vram) (with_spans mem.Vram (Some spans) y)) c.buffers b })) (touched (v.left i)) p
  take_spares i p = inl (ap (λ (a : pages.Aperture). a p) (aperture_same (λ y. with_kernel_fences (jobs_before_target c mem.Vram) (with_spans mem.Vram (Some spans) y)) mapped c b))
    where
      fenced_mapped : (l : Mem) (y : Buffer) (job : JobId) → mapped_in l (with_fence job usage.Kernel y) ≡ mapped_in l y
      fenced_mapped mem.Tt y job = refl
      fenced_mapped mem.Vram y job = refl
      fenced_mapped mem.System y job = refl

      targeted_mapped : (l : Mem) (y : Buffer) → mapped_in l (with_spans mem.Vram (Some spans) y) ≡ mapped_in l y
      targeted_mapped mem.Tt y = refl
      targeted_mapped mem.Vram y = refl
      targeted_mapped mem.System y = refl

      mapped : (y : Buffer) → mapped_in (with_kernel_fences (jobs_before_target c mem.Vram) (with_spans mem.Vram (Some spans) y)).mem (with_kernel_fences (jobs_before_target c mem.Vram) (with_spans mem.Vram (Some spans) y)) ≡ mapped_in y.mem y
      mapped y = keeps (λ z. mapped_in z.mem z) (λ z job. fenced_mapped z.mem z job) (λ z. targeted_mapped z.mem z) y

  pub take_seen : Seen script (record c { buffers = changed (λ y. with_kernel_fences (jobs_before_target c mem.Vram) (with_spans mem.Vram (Some spans) y)) c.buffers b }) owed_probes m bytes
      (retitled (taking b.0 (λ j. is_mover v.fences.mover j && not (v.done j)) v.fences) (owner_of (bare (record c { buffers = changed (λ y. with_kernel_fences (jobs_before_target c mem.Vram) (with_spans mem.Vram (Some spans) y)) c.buffers b }))) v)
  take_seen =
      retitled_seen script c owed_probes m bytes v (changed (λ y. with_kernel_fences (jobs_before_target c mem.Vram) (with_spans mem.Vram (Some spans) y)) c.buffers b) c.ghosts
      (taking b.0 (λ j. is_mover v.fences.mover j && not (v.done j)) v.fences) s
      (record {
        prior = refl;
        strong = strong_after;
        shared = λ e j h. using_kept c (record c { buffers = changed (λ y. with_kernel_fences (jobs_before_target c mem.Vram) (with_spans mem.Vram (Some spans) y)) c.buffers b }) (keep_all c.jobs) e j (writers_kept e) (s.shared e j h);
        ghost = λ n j h. ghostly_kept c (record c { buffers = changed (λ y. with_kernel_fences (jobs_before_target c mem.Vram) (with_spans mem.Vram (Some spans) y)) c.buffers b }) (keep_all c.jobs) n j (λ i y w. w) (s.ghost n j h);
        mover = refl;
        place = λ e i. kept_by (λ y. page_at y i) (λ y. with_kernel_fences (jobs_before_target c mem.Vram) (with_spans mem.Vram (Some spans) y)) (λ y. page_same i y) c b e;
        spared = take_spares;
      })
