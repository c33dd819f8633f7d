-- What an entry does to a buffer: its fences stay, and its pages and those of its target in VRAM were its own, or free.
use Rattle.std.proofs.Common.{◌≡◌, ℕ, Bool, true, false, List, [], ◌∷◌, ◌++◌, Option, Some, None, refl, sym, subst, ◌∙◌, ap, ◌⊎◌, inl, inr, ⊎_elim}
use Rattle.std.specs.Prelude.{Contains, slice_get, slice_set, map, filter, fold, option_map, option_and_then, unwrap_or, option_to_list, if◌then◌else◌}
use Rattle.std.specs.List.{list_any}
use Rattle.std.proofs.lemmas.Bool.{or_cases}
use Rattle.ttm_base.specs.declared.Mem.{Mem}
use Rattle.ttm_base.specs.declared.Mem.TheVariants.{System, Tt, Vram}
use Rattle.ttm_base.specs.declared.BufId.{BufId}
use Rattle.ttm_base.specs.declared.JobId.{JobId}
use Rattle.ttm_base.specs.declared.Span.{Span}
use Rattle.ttm_base.specs.declared.Fence.{Fence}
use Rattle.ttm_base.specs.declared.Usage.{Usage}
use Rattle.ttm_base.specs.declared.Usage.TheVariants as usage
use Rattle.ttm_base.specs.declared.Op.{Op}
use Rattle.ttm_base.specs.declared.Loc.{Loc}
use Rattle.ttm_base.specs.declared.Loc.TheVariants as loc
use Rattle.ttm_base.specs.Pages as pages
use Rattle.journal_model.specs.declared.state.Core.{Core}
use Rattle.journal_model.specs.declared.state.Buffer.{Buffer}
use Rattle.journal_model.specs.declared.state.Job.{Job}
use Rattle.journal_model.specs.rules.State.{live_in, buffer_in, changed, new_buffer, target_spans}
use Rattle.journal_model.specs.rules.Places.{pages_of, page_in_vram, page_in_table, page_in, page_at, loc_of}
use Rattle.journal_model.specs.rules.Holds.{is_free_page, has_number}
use Rattle.journal_model.specs.rules.Waits.{same_job, changes, unfinished, use_of}
use Rattle.journal_model.specs.rules.ApplyPages.{with_fence, with_kernel_fences, with_spans, with_loc, without_frames, bound, unbound}
use Rattle.journal_model.specs.rules.ApplyMoves.{moved, table_left}
use Rattle.journal_model.specs.rules.ApplyVictims.{leaves_tt}
use Rattle.journal_model.specs.rules.ApplyJobs.{with_use}
use Rattle.law_facts.specs.Facts.{touches, is_kernel, kernel_jobs, is_job_of}
use Rattle.laws.proofs.law_state.Lists.{set_at}
use Rattle.laws.proofs.lemma_bytes_model.Actions.{or_first, or_second}
use Rattle.laws.specs.law_holders.Holding.{buffer_at}
use Rattle.laws.proofs.lemma_bytes_view.Jobs.{same_job-true, same_job-refl}
use Rattle.laws.proofs.lemma_bytes_view.Titles.{buffer_either}
use Rattle.laws.proofs.lemma_bytes_view.Tables.{has_at}
use Rattle.laws.proofs.lemma_bytes_view.Takes.{kernel_kept}
use Rattle.laws.proofs.lemma_bytes_arm.Fences.{fold_kept}

-- ---- fences

-- each fence stays
pub record FencesStay (x y : Buffer) : Type 0 where
  pub chosen : (q : Fence → Bool) (p : JobId → Bool) → list_any p (map (λ f. f.job) (filter q x.fences)) ≡ true → list_any p (map (λ f. f.job) (filter q y.fences)) ≡ true
  pub all : (p : JobId → Bool) → list_any p (map (λ f. f.job) x.fences) ≡ true → list_any p (map (λ f. f.job) y.fences) ≡ true

pub fences_same : (x y : Buffer) → y.fences ≡ x.fences → FencesStay x y
fences_same x y e = record {
  chosen = λ q p h. subst (λ fs. list_any p (map (λ f. f.job) (filter q fs)) ≡ true) (sym e) h;
  all = λ p h. subst (λ fs. list_any p (map (λ f. f.job) fs) ≡ true) (sym e) h;
}

fences_then : (x y z : Buffer) → FencesStay x y → FencesStay y z → FencesStay x z
fences_then x y z a b = record { chosen = λ q p h. b.chosen q p (a.chosen q p h); all = λ p h. b.all p (a.all p h) }

chosen_left : (q : Fence → Bool) (p : JobId → Bool) (fs gs : List Fence) → list_any p (map (λ f. f.job) (filter q fs)) ≡ true → list_any p (map (λ f. f.job) (filter q (fs ++ gs))) ≡ true
chosen_left q p [] gs h = cc
chosen_left q p (f ∷ fs) gs h = by (q f) h (chosen_left q p fs gs)
  where
    by : (t : Bool) → list_any p (map (λ f. f.job) (if t then f ∷ filter q fs else filter q fs)) ≡ true →
        (list_any p (map (λ f. f.job) (filter q fs)) ≡ true → list_any p (map (λ f. f.job) (filter q (fs ++ gs))) ≡ true) →
        list_any p (map (λ f. f.job) (if t then f ∷ filter q (fs ++ gs) else filter q (fs ++ gs))) ≡ true
    by true g rest =
        ⊎_elim (λ e. or_first (p f.job) (list_any p (map (λ f. f.job) (filter q (fs ++ gs)))) e) (λ e. or_second (p f.job) (list_any p (map (λ f. f.job) (filter q (fs ++ gs)))) (rest e))
        (or_cases (p f.job) (list_any p (map (λ f. f.job) (filter q fs))) g)
    by false g rest = rest g

all_left : (p : JobId → Bool) (fs gs : List Fence) → list_any p (map (λ f. f.job) fs) ≡ true → list_any p (map (λ f. f.job) (fs ++ gs)) ≡ true
all_left p [] gs h = cc
all_left p (f ∷ fs) gs h =
    ⊎_elim (λ e. or_first (p f.job) (list_any p (map (λ f. f.job) (fs ++ gs))) e) (λ e. or_second (p f.job) (list_any p (map (λ f. f.job) (fs ++ gs))) (all_left p fs gs e))
    (or_cases (p f.job) (list_any p (map (λ f. f.job) fs)) h)

fences_added : (x y : Buffer) (f : Fence) → y.fences ≡ x.fences ++ f ∷ [] → FencesStay x y
fences_added x y f e = record {
  chosen = λ q p h. subst (λ fs. list_any p (map (λ f. f.job) (filter q fs)) ≡ true) (sym e) (chosen_left q p x.fences (f ∷ []) h);
  all = λ p h. subst (λ fs. list_any p (map (λ f. f.job) fs) ≡ true) (sym e) (all_left p x.fences (f ∷ []) h);
}

fence_more : (job : JobId) (how : Usage) (x : Buffer) → FencesStay x (with_fence job how x)
fence_more job how x = fences_added x (with_fence job how x) (record { job = job; usage = how }) refl

kernels_more : (jobs : List JobId) (x : Buffer) → FencesStay x (with_kernel_fences jobs x)
kernels_more [] x = fences_same x x refl
kernels_more (j ∷ jobs) x = fences_then x (with_fence j usage.Kernel x) (with_kernel_fences jobs (with_fence j usage.Kernel x)) (fence_more j usage.Kernel x) (kernels_more jobs (with_fence j usage.Kernel x))

pub kernels_stay : (x y : Buffer) → FencesStay x y → (i : JobId) → list_any (same_job i) (kernel_jobs x) ≡ true → list_any (same_job i) (kernel_jobs y) ≡ true
kernels_stay x y h i e = h.chosen is_kernel (same_job i) e

pub job_stays : (x y : Buffer) → FencesStay x y → (w : Bool) (i : Job) → is_job_of x w i ≡ true → is_job_of y w i ≡ true
job_stays x y h true i e = h.chosen changes (same_job i.id) e
job_stays x y h false i e = h.all (same_job i.id) e

-- the new fences are KERNEL ones
kernel_last : (job : JobId) (fs : List Fence) → list_any (same_job job) (map (λ f. f.job) (filter is_kernel (fs ++ record { job = job; usage = usage.Kernel } ∷ []))) ≡ true
kernel_last job [] = or_first (same_job job job) false (same_job-refl job)
kernel_last job (f ∷ fs) = by (is_kernel f) (kernel_last job fs)
  where
    by : (t : Bool) → list_any (same_job job) (map (λ f. f.job) (filter is_kernel (fs ++ record { job = job; usage = usage.Kernel } ∷ []))) ≡ true →
        list_any (same_job job) (map (λ f. f.job) (if t then f ∷ filter is_kernel (fs ++ record { job = job; usage = usage.Kernel } ∷ []) else filter is_kernel (fs ++ record { job = job; usage = usage.Kernel } ∷ []))) ≡ true
    by true rest = or_second (same_job job f.job) (list_any (same_job job) (map (λ f. f.job) (filter is_kernel (fs ++ record { job = job; usage = usage.Kernel } ∷ [])))) rest
    by false rest = rest

kernels_join : (i : JobId) (jobs : List JobId) (x : Buffer) → list_any (same_job i) jobs ≡ true → list_any (same_job i) (kernel_jobs (with_kernel_fences jobs x)) ≡ true
kernels_join i [] x h = cc
kernels_join i (j ∷ jobs) x h =
    ⊎_elim
    (λ e.
    let same : i ≡ j = same_job-true i j e in
    subst (λ k. list_any (same_job k) (kernel_jobs (with_kernel_fences (j ∷ jobs) x)) ≡ true) (sym same)
    (kernels_stay (with_fence j usage.Kernel x) (with_kernel_fences jobs (with_fence j usage.Kernel x)) (kernels_more jobs (with_fence j usage.Kernel x)) j (kernel_last j x.fences)))
    (λ e. kernels_join i jobs (with_fence j usage.Kernel x) e)
    (or_cases (same_job i j) (list_any (same_job i) jobs) h)

-- ---- pages

-- where a page of a buffer comes from: it was a page of the buffer, or one of its target in VRAM, or no job touches it
pub data PageFrom (c : Core) (x : Buffer) (p : pages.Page) : Type 0 where
  stays : (k : ℕ) → page_at x k ≡ p → PageFrom c x p
  enters : (q : ℕ) → has_number (pages_of (target_spans Vram x)) q ≡ true → p ≡ pages.vram q → PageFrom c x p
  clear : ((i : Job) → Contains c.jobs i → i.finished ≡ false → touches c p i ≡ false) → PageFrom c x p

-- where a page of its target in VRAM comes from: it was one, or it was free and the move job is a KERNEL one of the buffer
pub data TargetFrom (c : Core) (x y : Buffer) (q : ℕ) : Type 0 where
  same : has_number (pages_of (target_spans Vram x)) q ≡ true → TargetFrom c x y q
  free : is_free_page Vram c q ≡ true → ((i : JobId) → list_any (same_job i) (unfinished c (option_to_list c.move_fence)) ≡ true → list_any (same_job i) (kernel_jobs y) ≡ true) → TargetFrom c x y q

pub record Grown (c : Core) (x y : Buffer) : Type 0 where
  pub fences : FencesStay x y
  pub page : (k : ℕ) → PageFrom c x (page_at y k)
  pub target : (q : ℕ) → has_number (pages_of (target_spans Vram y)) q ≡ true → TargetFrom c x y q

-- the buffer has grown, or it is gone, or new
pub data BufferStep (c : Core) (x y : Buffer) : Type 0 where
  grown : Grown c x y → BufferStep c x y
  fresh : (n : ℕ) → y ≡ new_buffer n → BufferStep c x y

abbrev pub Clear : Core → pages.Page → Type 0
Clear c p = (i : Job) → Contains c.jobs i → i.finished ≡ false → touches c p i ≡ false

module _ (c : Core) where
  pub same_grown : (x : Buffer) → Grown c x x
  same_grown x = record { fences = fences_same x x refl; page = λ k. stays k refl; target = λ q h. same h }

  -- ---- changes of a buffer

  respanned : (l m : Mem) (o : Option (List Span)) (x : Buffer) (k : ℕ) → page_in l (with_spans m o x) k ≡ page_in l x k
  respanned System m o x k = refl
  respanned Tt m o x k = refl
  respanned Vram m o x k = refl

  pub respanned_grown : (m : Mem) (o : Option (List Span)) (x : Buffer) → (m ≡ Vram → o ≡ None) → Grown c x (with_spans m o x)
  respanned_grown m o x none = record { fences = fences_same x (with_spans m o x) refl; page = λ k. stays k (sym (respanned x.mem m o x k)); target = λ q h. by m none q h }
    where
      by : (m : Mem) → (m ≡ Vram → o ≡ None) → (q : ℕ) → has_number (pages_of (target_spans Vram (with_spans m o x))) q ≡ true → TargetFrom c x (with_spans m o x) q
      by System none q h = same h
      by Tt none q h = same h
      by Vram none q h = let e : has_number (pages_of (unwrap_or o [])) q ≡ false = ap (λ z. has_number (pages_of (unwrap_or z [])) q) (none refl) in cc

  pub caught_grown : (l : Mem) (x : Buffer) → Grown c x (leaves_tt l x)
  caught_grown Tt x = respanned_grown System (Some []) x (λ e. cc)
  caught_grown Vram x = same_grown x
  caught_grown System x = same_grown x

  pub bound_grown : (x : Buffer) → x.mem ≡ System → Grown c x (bound x)
  bound_grown x e = record { fences = fences_same x (bound x) refl; page = λ k. stays k (ap (λ l. page_in l x k) e); target = λ q h. same h }

  pub unbound_grown : (x : Buffer) → (x.mem ≡ Vram → ⊥) → Grown c x (unbound x)
  unbound_grown x ne = record { fences = fences_same x (unbound x) refl; page = λ k. stays k (by x.mem k ne); target = λ q h. same h }
    where
      by : (l : Mem) (k : ℕ) → (l ≡ Vram → ⊥) → page_in l x k ≡ page_in_table (loc_of x k)
      by System k n = refl
      by Tt k n = refl
      by Vram k n = absurd (n refl)

  -- a page of the table, where nobody touches the new place
  pub paged_grown : (page : ℕ) (l : Loc) (x : Buffer) → Clear c (page_in_table l) → Grown c x (with_loc page l x)
  paged_grown page l x none = record { fences = fences_same x (with_loc page l x) refl; page = λ k. by x.mem refl k; target = λ q h. same h }
    where
      in_table : (m : Mem) → x.mem ≡ m → ((k : ℕ) → page_in m x k ≡ page_in_table (loc_of x k)) → (k : ℕ) → PageFrom c x (page_in_table (unwrap_or (slice_get (slice_set x.table page l) k) loc.Zero))
      in_table m e so k =
          ⊎_elim
          (λ g. stays k (ap (λ n. page_in n x k) e ∙ so k ∙ sym (ap (λ o. page_in_table (unwrap_or o loc.Zero)) g)))
          (λ g. subst (PageFrom c x) (sym (ap (λ o. page_in_table (unwrap_or o loc.Zero)) g.1)) (clear none))
          (set_at x.table page k l)

      by : (m : Mem) → x.mem ≡ m → (k : ℕ) → PageFrom c x (page_in x.mem (with_loc page l x) k)
      by System e k = subst (λ n. PageFrom c x (page_in n (with_loc page l x) k)) (sym e) (in_table System e (λ j. refl) k)
      by Tt e k = subst (λ n. PageFrom c x (page_in n (with_loc page l x) k)) (sym e) (in_table Tt e (λ j. refl) k)
      by Vram e k = subst (λ n. PageFrom c x (page_in n (with_loc page l x) k)) (sym e) (stays k (ap (λ n. page_in n x k) e))

  pub emptied_grown : (x : Buffer) → x.mem ≡ Vram → Grown c x (without_frames x)
  emptied_grown x e = record { fences = fences_same x (without_frames x) refl; page = λ k. stays k (by x.mem k e); target = λ q h. same h }
    where
      by : (l : Mem) (k : ℕ) → l ≡ Vram → page_in l x k ≡ page_in l (without_frames x) k
      by System k e = cc
      by Tt k e = cc
      by Vram k e = refl

  -- into VRAM
  pub up_grown : (job : JobId) (x : Buffer) → Clear c pages.nowhere → Grown c x (moved Vram job x)
  up_grown job x none = record { fences = fences_added x (moved Vram job x) (record { job = job; usage = usage.Kernel }) refl; page = λ k. by k (slice_get (pages_of (target_spans Vram x)) k) refl; target = λ q h. cc }
    where
      by : (k : ℕ) (o : Option ℕ) → slice_get (pages_of (target_spans Vram x)) k ≡ o → PageFrom c x (page_in_vram (slice_get (pages_of (target_spans Vram x)) k))
      by k None e = subst (λ o. PageFrom c x (page_in_vram o)) (sym e) (clear none)
      by k (Some q) e = subst (λ o. PageFrom c x (page_in_vram o)) (sym e) (enters q (has_at (pages_of (target_spans Vram x)) k q e) refl)

  -- out of VRAM, to what the table kept
  pub down_grown : (job : JobId) (x : Buffer) → x.mem ≡ Vram → ((k : ℕ) → Clear c (page_in_table (loc_of x k))) → Grown c x (moved Tt job x)
  down_grown job x e none = record {
    fences = fences_added x (moved Tt job x) (record { job = job; usage = usage.Kernel }) refl;
    page = λ k. subst (λ m. PageFrom c x (page_in_table (unwrap_or (slice_get (table_left m x.table) k) loc.Zero))) (sym e) (clear (none k));
    target = λ q h. same h;
  }

  -- a target
  fenced_page : (l : Mem) (y : Buffer) (job : JobId) (i : ℕ) → page_in l (with_fence job usage.Kernel y) i ≡ page_in l y i
  fenced_page Tt y job i = refl
  fenced_page Vram y job i = refl
  fenced_page System y job i = refl

  pub taken_grown : (jobs : List JobId) (mem : Mem) (spans : List Span) (x : Buffer) → (mem ≡ Vram → (q : ℕ) → has_number (pages_of spans) q ≡ true → is_free_page Vram c q ≡ true) →
      (mem ≡ Vram → jobs ≡ unfinished c (option_to_list c.move_fence)) → Grown c x (with_kernel_fences jobs (with_spans mem (Some spans) x))
  taken_grown jobs mem spans x frees so = record {
    fences = fences_then x (with_spans mem (Some spans) x) (with_kernel_fences jobs (with_spans mem (Some spans) x)) (fences_same x (with_spans mem (Some spans) x) refl) (kernels_more jobs (with_spans mem (Some spans) x));
    page = λ k. stays k (sym (kernel_kept (λ y. page_at y k) (λ y job. fenced_page y.mem y job k) jobs (with_spans mem (Some spans) x) ∙ respanned x.mem mem (Some spans) x k));
    target = λ q h. by mem frees so q (subst (λ ss. has_number (pages_of ss) q ≡ true) (kernel_kept (λ y. target_spans Vram y) (λ y job. refl) jobs (with_spans mem (Some spans) x)) h);
  }
    where
      by : (m : Mem) → (m ≡ Vram → (q : ℕ) → has_number (pages_of spans) q ≡ true → is_free_page Vram c q ≡ true) → (m ≡ Vram → jobs ≡ unfinished c (option_to_list c.move_fence)) → (q : ℕ) →
          has_number (pages_of (target_spans Vram (with_spans m (Some spans) x))) q ≡ true → TargetFrom c x (with_kernel_fences jobs (with_spans m (Some spans) x)) q
      by System frees so q h = same h
      by Tt frees so q h = same h
      by Vram frees so q h = free (frees refl q h) (λ i e. kernels_join i jobs (with_spans Vram (Some spans) x) (subst (λ is. list_any (same_job i) is ≡ true) (sym (so refl)) e))

  -- ---- lists of buffers

  set_in : (d : Core) (a b : BufId) (o : Option Buffer) → d.buffers ≡ slice_set c.buffers a.0 o → (buffer_in d b ≡ buffer_in c b) ⊎ ((a.0 ≡ b.0) × (live_in d.buffers b ≡ o))
  set_in d a b o e =
      ⊎_elim
      (λ g. inl (ap (λ xs. unwrap_or (live_in xs b) (new_buffer 0)) e ∙ ap (λ z. unwrap_or (option_and_then (λ x. x) z) (new_buffer 0)) g))
      (λ g. inr (g.0, ap (λ xs. live_in xs b) e ∙ ap (option_and_then (λ x. x)) g.1))
      (set_at c.buffers a.0 b.0 o)

  pub same_step : (x y : Buffer) → y ≡ x → BufferStep c x y
  same_step x y e = subst (BufferStep c x) (sym e) (grown (same_grown x))

  pub set_step : (d : Core) (a b : BufId) (o : Option Buffer) (n : ℕ) → d.buffers ≡ slice_set c.buffers a.0 o → unwrap_or o (new_buffer 0) ≡ new_buffer n → BufferStep c (buffer_in c b) (buffer_in d b)
  set_step d a b o n e is = ⊎_elim (λ g. same_step (buffer_in c b) (buffer_in d b) g) (λ g. fresh n (ap (λ z. unwrap_or z (new_buffer 0)) g.1 ∙ is)) (set_in d a b o e)

  pub changed_step : (f : Buffer → Buffer) (d : Core) (a b : BufId) → live_in c.buffers a ≡ Some (buffer_in c a) → d.buffers ≡ changed f c.buffers a → Grown c (buffer_in c a) (f (buffer_in c a)) → BufferStep c (buffer_in c b) (buffer_in d b)
  changed_step f d a b there e g =
      ⊎_elim
      (λ h. same_step (buffer_in c b) (buffer_in d b) h)
      (λ h.
      let is : buffer_in d b ≡ f (buffer_in c a) = ap (λ z. unwrap_or z (new_buffer 0)) (h.1 ∙ ap (option_map f) there) in
      let was : buffer_in c a ≡ buffer_in c b = ap (buffer_at c) h.0 in
      subst (BufferStep c (buffer_in c b)) (sym is) (subst (λ x. BufferStep c x (f (buffer_in c a))) was (grown g)))
      (set_in d a b (option_map f (live_in c.buffers a)) e)

  pub either_step : (f : Buffer → Buffer) (a b : BufId) → ((x : Buffer) → Grown c x (f x)) → BufferStep c (buffer_in c b) (buffer_in (record c { buffers = changed f c.buffers a }) b)
  either_step f a b g =
      ⊎_elim
      (λ h. same_step (buffer_in c b) (buffer_in (record c { buffers = changed f c.buffers a }) b) h)
      (λ h. subst (BufferStep c (buffer_in c b)) (sym h) (grown (g (buffer_in c b))))
      (buffer_either f c a b.0)

-- ---- a job joins the fences of its buffers

used_page : (l : Mem) (y : Buffer) (job : JobId) (how : Usage) (i : ℕ) → page_in l (with_fence job how y) i ≡ page_in l y i
used_page Tt y job how i = refl
used_page Vram y job how i = refl
used_page System y job how i = refl

uses_stay : (job : JobId) (ops : List Op) (bs : List BufId) (c : Core) (e : ℕ) → FencesStay (buffer_at c e) (buffer_at (record c { buffers = fold (with_use job ops) c.buffers bs }) e)
uses_stay job ops [] c e = fences_same (buffer_at c e) (buffer_at c e) refl
uses_stay job ops (b ∷ bs) c e =
    fences_then (buffer_at c e) (buffer_at (record c { buffers = with_use job ops c.buffers b }) e) (buffer_at (record c { buffers = fold (with_use job ops) (with_use job ops c.buffers b) bs }) e)
    (⊎_elim
    (λ h. fences_same (buffer_at c e) (buffer_at (record c { buffers = with_use job ops c.buffers b }) e) (ap (λ (x : Buffer). x.fences) h))
    (λ h. subst (FencesStay (buffer_at c e)) (sym h) (fence_more job (use_of ops b) (buffer_at c e)))
    (buffer_either (with_fence job (use_of ops b)) c b e))
    (uses_stay job ops bs (record c { buffers = with_use job ops c.buffers b }) e)

pub uses_step : (job : JobId) (ops : List Op) (bs : List BufId) (c : Core) (b : BufId) → BufferStep c (buffer_in c b) (buffer_in (record c { buffers = fold (with_use job ops) c.buffers bs }) b)
uses_step job ops bs c b = grown (record {
  fences = uses_stay job ops bs c b.0;
  page = λ k. stays k (sym (fold_kept job ops (λ y. page_at y k) (λ y how. used_page y.mem y job how k) bs c b.0));
  target = λ q h. same (subst (λ ss. has_number (pages_of ss) q ≡ true) (fold_kept job ops (λ y. target_spans Vram y) (λ y how. refl) bs c b.0) h);
})
