-- Which jobs cover one that touches a place or a target, as the view of a state tells it: KERNEL or WRITE jobs, which the view has as one.
use Rattle.std.proofs.Common.{◌≡◌, ℕ, Bool, true, false, List, Some, IsTrue, refl, sym, subst, ◌∙◌, ap, ⊎_elim}
use Rattle.std.specs.Prelude.{Contains, slice_get, not, ◌&&◌, option_to_list, if◌then◌else◌}
use Rattle.std.specs.List.{list_any}
use Rattle.std.proofs.lemmas.Bool.{or_cases}
use Rattle.ttm_base.specs.declared.Mem.TheVariants as mem
use Rattle.ttm_base.specs.declared.BufId.{BufId}
use Rattle.ttm_base.specs.Pages as pages
use Rattle.ttm_base.specs.Pages.{vram}
use Rattle.journal_model.specs.declared.script.Script.{Script}
use Rattle.journal_model.specs.declared.entry.Entry.{Entry}
use Rattle.journal_model.specs.declared.state.Core.{Core}
use Rattle.journal_model.specs.declared.state.Job.{Job}
use Rattle.journal_model.specs.scripts.ScriptRules.{is_script}
use Rattle.journal_model.specs.rules.State.{buffer_in, target_spans}
use Rattle.journal_model.specs.rules.Places.{pages_of, page_in_vram, place_of, aperture}
use Rattle.journal_model.specs.rules.Holds.{has_number}
use Rattle.journal_model.specs.rules.Waits.{same_job, changes, jobs_before_read, jobs_before_write}
use Rattle.journal_model.specs.statements.Spares.{remaining}
use Rattle.journal_model.specs.rules.Legal.{state_of, IsLegal}
use Rattle.journal_model.specs.rules.PlainMemory.{plain_of}
use Rattle.law_facts.specs.Facts.{touches, writes_to, IsCovered}
use Rattle.laws.specs.lemma_bytes_model.Memory.{Nowhere, Vram, written}
use Rattle.laws.specs.lemma_bytes_model.View.{Live, Target, Idle, is_fence}
use Rattle.laws.specs.law_holders.Holding.{seen}
use Rattle.laws.proofs.law_holders.Owner.{owner_of, owner_is}
use Rattle.laws.proofs.lemma_bytes_view.World.{bare}
use Rattle.laws.proofs.lemma_bytes_view.Binds.{among_all}
use Rattle.laws.proofs.lemma_bytes_view.Tables.{at_has}
use Rattle.law_facts.proofs.Jobs.{at_of}
use Rattle.law_facts.proofs.Touches.{written_so}
use Rattle.law_facts.proofs.Guards.{viewed, once, guarded, covered, by_mover}

-- a job of the buffer covers a job that touches a place of it, as KERNEL or WRITE where that one writes it
abbrev pub PlacesAreCovered : Core → Type 0
PlacesAreCovered c =
    (i : Job) (b : BufId) (k : ℕ) → Contains c.jobs i → i.finished ≡ false → touches c (place_of c b k) i ≡ true →
    IsCovered c.jobs (if writes_to c (place_of c b k) i then jobs_before_read (buffer_in c b) else jobs_before_write (buffer_in c b)) i

-- a KERNEL or WRITE job of the buffer covers a job that touches a page of its target in VRAM, and so does the move job of VRAM
abbrev pub TargetsAreCovered : Core → Type 0
TargetsAreCovered c =
    (i : Job) (b : BufId) (p : ℕ) → Contains c.jobs i → i.finished ≡ false →
    has_number (pages_of (target_spans mem.Vram (buffer_in c b))) p ≡ true → touches c (vram p) i ≡ true →
    IsCovered c.jobs (jobs_before_read (buffer_in c b)) i × IsCovered c.jobs (option_to_list c.move_fence) i

module _ (script : Script) (fits : IsTrue (is_script script)) (journal : List Entry) (legal : IsLegal script journal) where
  written_at : (n : ℕ) (y : Job) (p : pages.Page) → slice_get (state_of script journal).core.jobs n ≡ Some y → writes_to (state_of script journal).core p y ≡ true → written ((viewed script fits journal legal).view.left n) (seen p) ≡ true
  written_at n y p at t =
      ap (λ xs. written xs (seen p)) ((viewed script fits journal legal).seen.left n y at)
      ∙ written_so (aperture (state_of script journal).core) p ((plain_of script journal).owed_probes y.id) y.ran (remaining y) t

  -- the job of a fence
  record OfFence (b : BufId) (changing : Bool) (m : ℕ) : Type 0 where
    job : Job
    at : slice_get (state_of script journal).core.jobs m ≡ Some job
    among : list_any (same_job job.id) (if changing then jobs_before_read (buffer_in (state_of script journal).core b) else jobs_before_write (buffer_in (state_of script journal).core b)) ≡ true

  strong_at : (b : BufId) (changing : Bool) (m : ℕ) → (viewed script fits journal legal).view.fences.strong b.0 m ≡ true → OfFence b changing m
  strong_at b true m h = let j = (viewed script fits journal legal).seen.strong b.0 m h in record { job = j.job; at = j.at; among = j.has }
  strong_at b false m h =
      let j = (viewed script fits journal legal).seen.strong b.0 m h in
      record { job = j.job; at = j.at; among = among_all (same_job j.job.id) changes (buffer_in (state_of script journal).core b).fences j.has }

  fence_at : (b : BufId) (changing w : Bool) (m : ℕ) → (changing ≡ true → w ≡ true) → is_fence (viewed script fits journal legal).view.fences b.0 w m ≡ true → OfFence b changing m
  fence_at b changing w m so h =
      ⊎_elim (λ e. strong_at b changing m e) (λ e. by changing w so e)
      (or_cases ((viewed script fits journal legal).view.fences.strong b.0 m) (not w && (viewed script fits journal legal).view.fences.shared b.0 m) h)
    where
      by : (q w : Bool) → (q ≡ true → w ≡ true) → (not w && (viewed script fits journal legal).view.fences.shared b.0 m) ≡ true → OfFence b q m
      by true true so e = cc
      by true false so e = let z : false ≡ true = so refl in cc
      by false true so e = cc
      by false false so e = let j = (viewed script fits journal legal).seen.shared b.0 m e in record { job = j.job; at = j.at; among = j.has }

  pub places_covered : PlacesAreCovered (state_of script journal).core
  places_covered i b k ci f t = by (place_of (state_of script journal).core b k) refl
    where
      here : (p : pages.Page) → place_of (state_of script journal).core b k ≡ p → (seen p ≡ Nowhere → ⊥) →
          IsCovered (state_of script journal).core.jobs (if writes_to (state_of script journal).core (place_of (state_of script journal).core b k) i then jobs_before_read (buffer_in (state_of script journal).core b) else jobs_before_write (buffer_in (state_of script journal).core b)) i
      here p e ne =
          let a = at_of i (state_of script journal).core.jobs ci in
          let owner : owner_of (bare (state_of script journal).core) (seen (place_of (state_of script journal).core b k)) ≡ Live b.0 k = owner_is (bare (state_of script journal).core) (once script fits journal legal) (seen (place_of (state_of script journal).core b k)) (Live b.0 k) (λ q. ne (sym (ap seen e) ∙ q)) refl in
          let g = guarded script fits journal legal a.0 i (place_of (state_of script journal).core b k) (Live b.0 k) a.1 t owner in
          let r = fence_at b (writes_to (state_of script journal).core (place_of (state_of script journal).core b k) i) (written ((viewed script fits journal legal).view.left a.0) (seen (place_of (state_of script journal).core b k))) g.0
          (λ w. written_at a.0 i (place_of (state_of script journal).core b k) a.1 w) g.1 in
          covered script fits journal legal
          (if writes_to (state_of script journal).core (place_of (state_of script journal).core b k) i then jobs_before_read (buffer_in (state_of script journal).core b) else jobs_before_write (buffer_in (state_of script journal).core b))
          g.0 a.0 r.job i r.at a.1 f r.among g.2

      by : (p : pages.Page) → place_of (state_of script journal).core b k ≡ p →
          IsCovered (state_of script journal).core.jobs (if writes_to (state_of script journal).core (place_of (state_of script journal).core b k) i then jobs_before_read (buffer_in (state_of script journal).core b) else jobs_before_write (buffer_in (state_of script journal).core b)) i
      by pages.nowhere e =
          let a = at_of i (state_of script journal).core.jobs ci in
          absurd (guarded script fits journal legal a.0 i pages.nowhere Idle a.1 (subst (λ q. touches (state_of script journal).core q i ≡ true) e t) refl)
      by (pages.vram q) e = here (pages.vram q) e (λ z. cc)
      by (pages.frame q) e = here (pages.frame q) e (λ z. cc)
      by (pages.slot q) e = here (pages.slot q) e (λ z. cc)

  pub targets_covered : TargetsAreCovered (state_of script journal).core
  targets_covered i b p ci f h t =
      let a = at_of i (state_of script journal).core.jobs ci in
      let k = at_has (pages_of (target_spans mem.Vram (buffer_in (state_of script journal).core b))) p h in
      let owner : owner_of (bare (state_of script journal).core) (Vram p) ≡ Target b.0 k.0 = owner_is (bare (state_of script journal).core) (once script fits journal legal) (Vram p) (Target b.0 k.0) (λ q. cc) (ap (λ o. seen (page_in_vram o)) k.1) in
      let g = guarded script fits journal legal a.0 i (pages.vram p) (Target b.0 k.0) a.1 t owner in
      let r = strong_at b true g.0.0 g.0.1 in (
        covered script fits journal legal (jobs_before_read (buffer_in (state_of script journal).core b)) g.0.0 a.0 r.job i r.at a.1 f r.among g.0.2,
        by_mover script fits journal legal a.0 i g.1.0 a.1 f g.1.1 g.1.2,
      )
