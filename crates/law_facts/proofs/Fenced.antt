-- A job that touches a place of a buffer is one of the buffer, or a KERNEL job of the buffer covers it; and so for its target in VRAM.
use Rattle.std.proofs.Common.{◌≡◌, ℕ, ◌<◌, zero, suc, Bool, true, false, List, [], ◌∷◌, ◌++◌, length, Some, IsTrue, refl, sym, subst, ◌∙◌, ap, ◌⊎◌, inl, inr, arith, ⊎_elim}
use Rattle.std.specs.Prelude.{slice_get, replicate, unwrap_or, option_to_list, if◌then◌else◌}
use Rattle.std.specs.List.{list_any}
use Rattle.ttm_base.specs.declared.Mem.TheVariants.{Vram}
use Rattle.ttm_base.specs.declared.BufId.{BufId}
use Rattle.ttm_base.specs.declared.JobId.{JobId}
use Rattle.ttm_base.specs.declared.Loc.TheVariants as loc
use Rattle.ttm_base.specs.Pages as pages
use Rattle.journal_model.specs.declared.script.Script.{Script}
use Rattle.journal_model.specs.declared.entry.Entry.{Entry}
use Rattle.journal_model.specs.declared.state.Core.{Core}
use Rattle.journal_model.specs.declared.state.Buffer.{Buffer}
use Rattle.journal_model.specs.declared.state.Job.{Job}
use Rattle.journal_model.specs.scripts.ScriptRules.{is_script}
use Rattle.journal_model.specs.rules.State.{buffer_in, new_buffer, target_spans}
use Rattle.journal_model.specs.rules.Places.{pages_of, page_in_vram, page_in_table, page_at, place_of}
use Rattle.journal_model.specs.rules.Holds.{is_free_page, has_number}
use Rattle.journal_model.specs.rules.Waits.{same_job, changes, unfinished, jobs_before_read, jobs_before_write}
use Rattle.journal_model.specs.rules.Legal.{World, first_world, world_along, world_of, state_of, IsLegalNext, IsLegalFrom, IsLegal}
use Rattle.law_facts.specs.Facts.{touches, writes_to, is_job_of, kernel_jobs, LegalPlacesAreFenced, LegalTargetsAreFenced}
use Rattle.laws.specs.lemma_bytes_model.Memory as memory
use Rattle.laws.specs.lemma_bytes_model.View.{Live, Target}
use Rattle.laws.specs.law_holders.Holding.{seen}
use Rattle.laws.proofs.law_state.Lists.{get_within}
use Rattle.laws.proofs.law_owners.Law.{once_law}
use Rattle.laws.proofs.law_owners.Weights.{vram_pages, times-held}
use Rattle.laws.proofs.law_owners.Taken.{free_stands_none}
use Rattle.laws.proofs.lemma_bytes_model.Actions.{clash}
use Rattle.laws.proofs.lemma_bytes_view.World.{bare}
use Rattle.laws.proofs.lemma_bytes_view.Binds.{among_all}
use Rattle.laws.proofs.lemma_bytes_view.MoreJobs.{among_unfinished}
use Rattle.laws.proofs.lemma_bytes_view.Tables.{at_has}
use Rattle.laws.proofs.law_transparent.Idles.{none_holds}
use Rattle.laws.proofs.law_transparent.Law.{world_push, legal_push}
use Rattle.law_facts.proofs.Jobs.{at_of, has_of}
use Rattle.law_facts.proofs.Apertures.{one_step, old_or_new}
use Rattle.law_facts.proofs.Guards.{once, free_fenced}
use Rattle.law_facts.proofs.Covered.{places_covered, targets_covered}
use Rattle.law_facts.proofs.Lasting.{GoesOn, touched_before, written_before}
use Rattle.law_facts.proofs.Covering.{CoveredAt, covered_goes, covered_of, at_covered, unfinished_too, covers_itself}
use Rattle.law_facts.proofs.Growth.{PageFrom, stays, enters, clear, TargetFrom, same, free, Grown, BufferStep, grown, fresh, kernels_stay, job_stays}
use Rattle.law_facts.proofs.Steps.{spare_law, buffer_steps, goes_on}
use Rattle.law_facts.proofs.Emits as emits
use Rattle.law_facts.proofs.Emits.{NewPage}
use Rattle.law_facts.proofs.NewJobs.{new_page}

-- a new buffer has no place and no target
no_place : (n k : ℕ) → page_at (new_buffer n) k ≡ pages.nowhere
no_place n k = ap page_in_table (zeros n k)
  where
    zeros : (n k : ℕ) → unwrap_or (slice_get (replicate n loc.Zero) k) loc.Zero ≡ loc.Zero
    zeros zero k = refl
    zeros (suc n) zero = refl
    zeros (suc n) (suc k) = zeros n k

no_target : (x : Buffer) (n q : ℕ) → x ≡ new_buffer n → has_number (pages_of (target_spans Vram x)) q ≡ true → ⊥
no_target x n q e h = let none : has_number (pages_of (target_spans Vram (new_buffer n))) q ≡ true = subst (λ (y : Buffer). has_number (pages_of (target_spans Vram y)) q ≡ true) e h in cc

-- which jobs cover one that touches a place or a target, by their places among the jobs
pub record Fenced (c : Core) : Type 0 where
  pub targets : (n : ℕ) (x : Job) (b : BufId) (q : ℕ) → slice_get c.jobs n ≡ Some x → x.finished ≡ false → has_number (pages_of (target_spans Vram (buffer_in c b))) q ≡ true → touches c (pages.vram q) x ≡ true → CoveredAt c.jobs (kernel_jobs (buffer_in c b)) n
  pub places : (n : ℕ) (x : Job) (b : BufId) (k : ℕ) → slice_get c.jobs n ≡ Some x → x.finished ≡ false → touches c (place_of c b k) x ≡ true →
      (is_job_of (buffer_in c b) (writes_to c (place_of c b k) x) x ≡ true) ⊎ CoveredAt c.jobs (kernel_jobs (buffer_in c b)) n

module _ (script : Script) (fits : IsTrue (is_script script)) where
  -- ---- the new job is the last

  module _ (journal : List Entry) (e : Entry) (l : IsLegal script journal) (n : IsLegalNext script (world_of script journal) e) where
    abbrev c : Core
    c = (state_of script journal).core

    abbrev d : Core
    d = (state_of script (journal ++ e ∷ [])).core

    pub more : IsLegal script (journal ++ e ∷ [])
    more = legal_push script (first_world script) journal e l n

    pub no_later : (at : ℕ) → at ≡ length c.jobs → (m : ℕ) (x : Job) → slice_get d.jobs m ≡ Some x → at < m → ⊥
    no_later at is m x a less =
        ⊎_elim
        (λ r. let w = get_within c.jobs m r.0 r.1 in absurd (omega (arith, is, less, w)))
        (λ r. let w = r.0 in absurd (omega (arith, is, less, w)))
        (old_or_new script fits journal e l n m x a)

    -- it touches no target in VRAM
    pub spares_targets : (y : Job) → slice_get d.jobs (length c.jobs) ≡ Some y → (b : BufId) (q : ℕ) →
        has_number (pages_of (target_spans Vram (buffer_in d b))) q ≡ true → touches d (pages.vram q) y ≡ true → ⊥
    spares_targets y at b q h t = by (new_page script fits journal e l n y at (pages.vram q) t) (buffer_steps script fits journal e l n b)
      where
        -- a page isn't a place and of a target at once
        never : (a b : BufId) (j k : ℕ) → ◌≡◌ {A = _} (Live a.0 j) (Target b.0 k) → ⊥
        never a b j k z = cc

        apart : (journal : List Entry) → IsLegal script journal → (a b : BufId) (k : ℕ) → place_of (state_of script journal).core a k ≡ pages.vram q → has_number (pages_of (target_spans Vram (buffer_in (state_of script journal).core b))) q ≡ true → ⊥
        apart journal l a b k p h =
            let r = at_has (pages_of (target_spans Vram (buffer_in (state_of script journal).core b))) q h in
            never a b k r.0 (once script fits journal l (memory.Vram q) (Live a.0 k) (Target b.0 r.0) (λ z. cc) (ap seen p) (ap (λ o. seen (page_in_vram o)) r.1))

        -- nor a place and free
        unheld : (a : BufId) (k : ℕ) → place_of c a k ≡ pages.vram q → is_free_page Vram c q ≡ true → ⊥
        unheld a k p f =
            none_holds script (bare c) (once_law script journal fits l) (memory.Vram q) (sym (times-held vram_pages q c) ∙ free_stands_none Vram c q f) (λ z. cc)
            (Live a.0 k) (ap seen p)

        by : NewPage c d y (pages.vram q) → BufferStep c (buffer_in c b) (buffer_in d b) → ⊥
        by page (fresh m z) = no_target (buffer_in d b) m q z h
        by (emits.arrives a k r same_q target place waits) (grown g) = apart (journal ++ e ∷ []) (legal_push script (first_world script) journal e l n) a b k place h
        by (emits.kept f is none) (grown g) = cc
        by (emits.stands a k place waits) (grown g) = was (g.target q h)
          where
            was : TargetFrom c (buffer_in c b) (buffer_in d b) q → ⊥
            was (same z) = apart journal l a b k place z
            was (free z kernel) = unheld a k place z

    -- ---- one entry more

    module _ (old : Fenced c) where
      keeps_target : (m : ℕ) (x y : Job) (b : BufId) (q : ℕ) → slice_get c.jobs m ≡ Some x → x.finished ≡ false → slice_get d.jobs m ≡ Some y →
          touches c (pages.vram q) x ≡ true → has_number (pages_of (target_spans Vram (buffer_in d b))) q ≡ true →
          CoveredAt d.jobs (kernel_jobs (buffer_in d b)) m
      keeps_target m x y b q a u b' t h = by (buffer_steps script fits journal e l n b)
        where
          go : CoveredAt c.jobs (kernel_jobs (buffer_in c b)) m → Grown c (buffer_in c b) (buffer_in d b) →
              CoveredAt d.jobs (kernel_jobs (buffer_in d b)) m
          go w g =
              covered_goes c.jobs d.jobs (kernel_jobs (buffer_in c b)) (kernel_jobs (buffer_in d b)) m
              (one_step script fits journal e l n).goes (kernels_stay (buffer_in c b) (buffer_in d b) g.fences) w

          by_mover : is_free_page Vram c q ≡ true →
              ((i : JobId) → list_any (same_job i) (unfinished c (option_to_list c.move_fence)) ≡ true → list_any (same_job i) (kernel_jobs (buffer_in d b)) ≡ true) →
              CoveredAt d.jobs (kernel_jobs (buffer_in d b)) m
          by_mover f kernel =
              let ids : List JobId = option_to_list c.move_fence in
              let w = at_covered script fits journal l ids m x a ((free_fenced script fits journal l).pages x q (has_of x c.jobs m a) u f t) in
              let un = unfinished_too script fits journal l w.at m w.job x w.here a w.after u in
              covered_goes c.jobs d.jobs (unfinished c ids) (kernel_jobs (buffer_in d b)) m
              (one_step script fits journal e l n).goes kernel
              (record { at = w.at; job = w.job; here = w.here; among = among_unfinished c ids w.at w.job w.here un w.among; after = w.after })

          was : Grown c (buffer_in c b) (buffer_in d b) →
              TargetFrom c (buffer_in c b) (buffer_in d b) q →
              CoveredAt d.jobs (kernel_jobs (buffer_in d b)) m
          was g (same z) = go (old.targets m x b q a u z t) g
          was g (free z kernel) = by_mover z kernel

          by : BufferStep c (buffer_in c b) (buffer_in d b) →
              CoveredAt d.jobs (kernel_jobs (buffer_in d b)) m
          by (fresh i z) = absurd (no_target (buffer_in d b) i q z h)
          by (grown g) = was g (g.target q h)

      abbrev InPlace : ℕ → Job → BufId → ℕ → Type 0
      InPlace m y b k =
          (is_job_of (buffer_in d b) (writes_to d (place_of d b k) y) y ≡ true)
          ⊎ CoveredAt d.jobs (kernel_jobs (buffer_in d b)) m

      -- the new job is one of the buffer
      its_own : (m : ℕ) (y : Job) (b : BufId) (k : ℕ) → slice_get d.jobs m ≡ Some y → y.finished ≡ false → touches d (place_of d b k) y ≡ true → m ≡ length c.jobs →
          is_job_of (buffer_in d b) (writes_to d (place_of d b k) y) y ≡ true
      its_own m y b k at u t is =
          let ids : List JobId =
          (if writes_to d (place_of d b k) y then jobs_before_read (buffer_in d b) else jobs_before_write (buffer_in d b)) in
          let w = places_covered script fits (journal ++ e ∷ []) more y b k (has_of y d.jobs m at) u t in
          covers_itself script fits (journal ++ e ∷ []) more ids m y at (no_later m is) (at_covered script fits (journal ++ e ∷ []) more ids m y at w)

      -- a job that writes less is one of the buffer still
      milder : (x : Buffer) (v w : Bool) (i : Job) → (w ≡ true → v ≡ true) → is_job_of x v i ≡ true → is_job_of x w i ≡ true
      milder x true true i so h = h
      milder x true false i so h = among_all (same_job i.id) changes x.fences h
      milder x false true i so h = let z : false ≡ true = so refl in cc
      milder x false false i so h = h

      keeps_place : (m : ℕ) (x y : Job) (b : BufId) (k : ℕ) → slice_get c.jobs m ≡ Some x → x.finished ≡ false → slice_get d.jobs m ≡ Some y →
          GoesOn c d x y → touches c (place_of d b k) x ≡ true → InPlace m y b k
      keeps_place m x y b k a u at go t = by (buffer_steps script fits journal e l n b)
        where
          on : Grown c (buffer_in c b) (buffer_in d b) →
              CoveredAt c.jobs (kernel_jobs (buffer_in c b)) m → InPlace m y b k
          on g w =
              inr
              (covered_goes c.jobs d.jobs (kernel_jobs (buffer_in c b)) (kernel_jobs (buffer_in d b)) m
              (one_step script fits journal e l n).goes (kernels_stay (buffer_in c b) (buffer_in d b) g.fences) w)

          named_so : y.id ≡ x.id
          named_so = let g = (one_step script fits journal e l n).goes m x a in let two : Some g.job ≡ Some y = sym g.at ∙ at in let is : g.job ≡ y = cc in ap (λ (z : Job). z.id) (sym is) ∙ g.id

          direct : Grown c (buffer_in c b) (buffer_in d b) → (p : pages.Page) → p ≡ place_of d b k →
              is_job_of (buffer_in c b) (writes_to c p x) x ≡ true → InPlace m y b k
          direct g p is h =
              let v : Bool = writes_to c p x in
              let w : Bool = writes_to d (place_of d b k) y in
              let still : is_job_of (buffer_in d b) (writes_to c p x) x ≡ true = job_stays (buffer_in c b) (buffer_in d b) g.fences v x h in
              let so : w ≡ true → v ≡ true = λ z. ap (λ q. writes_to c q x) is ∙ written_before c d x y go (place_of d b k) z in
              let mild : is_job_of (buffer_in d b) w x ≡ true = milder (buffer_in d b) v w x so still in
              inl (subst (λ i. list_any (same_job i) (if w then jobs_before_read (buffer_in d b) else jobs_before_write (buffer_in d b)) ≡ true) (sym named_so) mild)

          from : Grown c (buffer_in c b) (buffer_in d b) →
              PageFrom c (buffer_in c b) (place_of d b k) → InPlace m y b k
          from g (stays j z) =
              ⊎_elim (λ h. direct g (place_of c b j) z h) (λ h. on g h)
              (old.places m x b j a u (subst (λ p. touches c p x ≡ true) (sym z) t))
          from g (enters q h z) = on g (old.targets m x b q a u h (subst (λ p. touches c p x ≡ true) z t))
          from g (clear none) = clash t (none x (has_of x c.jobs m a) u)

          by : BufferStep c (buffer_in c b) (buffer_in d b) → InPlace m y b k
          by (grown g) = from g (g.page k)
          by (fresh i z) =
              let p : place_of d b k ≡ pages.nowhere = ap (λ y. page_at y k) z ∙ no_place i k in
              clash (subst (λ p. touches c p x ≡ true) p t) ((spare_law script fits journal l).nowhere x (has_of x c.jobs m a) u)

      pub fenced_more : Fenced d
      fenced_more = record {
        targets = λ m y b q at u h t.
            ⊎_elim
            (λ r.
            let g = goes_on script fits journal e l n m r.0 y r.1 at u in
            keeps_target m r.0 y b q r.1 g.0 at (touched_before c d r.0 y g.1 (pages.vram q) t) h)
            (λ r. absurd (spares_targets y (subst (λ i. slice_get d.jobs i ≡ Some y) r.0 at) b q h t))
            (old_or_new script fits journal e l n m y at);
        places = λ m y b k at u t.
            ⊎_elim
            (λ r.
            let g = goes_on script fits journal e l n m r.0 y r.1 at u in
            keeps_place m r.0 y b k r.1 g.0 at g.1 (touched_before c d r.0 y g.1 (place_of d b k) t))
            (λ r. inl (its_own m y b k at u t r.0))
            (old_or_new script fits journal e l n m y at);
      }

  -- ---- along a journal

  fenced_along : (journal es : List Entry) → IsLegal script journal → IsLegalFrom script (world_of script journal) es → Fenced (state_of script journal).core → Fenced (world_along script (world_of script journal) es).state.core
  fenced_along journal [] l h f = f
  fenced_along journal (e ∷ es) l h f =
      let push = world_push script (first_world script) journal e in
      subst (λ (w : World). Fenced (world_along script w es).state.core) push
      (fenced_along (journal ++ e ∷ []) es (legal_push script (first_world script) journal e l h.0) (subst (λ (w : World). IsLegalFrom script w es) (sym push) h.1) (fenced_more journal e l h.0 f))

  pub fenced_law : (journal : List Entry) → IsLegal script journal → Fenced (state_of script journal).core
  fenced_law journal l = fenced_along [] journal tt l (record { targets = λ n x b q e u h t. cc; places = λ n x b k e u t. cc })

pub places_law : LegalPlacesAreFenced
places_law script journal fits l i b k ci u t =
    let a = at_of i (state_of script journal).core.jobs ci in
    ⊎_elim
    (λ h. inl h)
    (λ h. inr (covered_of script fits journal l (kernel_jobs (buffer_in (state_of script journal).core b)) a.0 i a.1 u h))
    ((fenced_law script fits journal l).places a.0 i b k a.1 u t)

pub targets_law : LegalTargetsAreFenced
targets_law script journal fits l i b p ci u h t =
    let a = at_of i (state_of script journal).core.jobs ci in (
      covered_of script fits journal l (kernel_jobs (buffer_in (state_of script journal).core b)) a.0 i a.1 u ((fenced_law script fits journal l).targets a.0 i b p a.1 u h t),
      (targets_covered script fits journal l i b p ci u h t).1,
    )
