-- Which jobs cover one that touches a page, by who holds the page.
use Rattle.std.proofs.Common.{◌≡◌, ℕ, Bool, true, false, List, Some, IsTrue, refl, sym, subst, ◌∙◌, ap, ◌⊎◌, inl, inr, ⊎_elim}
use Rattle.std.specs.Prelude.{slice_get, option_to_list, unwrap_or, ◌||◌}
use Rattle.std.specs.List.{list_any}
use Rattle.ttm_base.specs.declared.Mem.TheVariants as mem
use Rattle.ttm_base.specs.declared.BufId.{BufId}
use Rattle.ttm_base.specs.declared.JobId.{JobId}
use Rattle.ttm_base.specs.declared.Loc.TheVariants as loc
use Rattle.ttm_base.specs.Pages as pages
use Rattle.journal_model.specs.declared.script.Script.{Script}
use Rattle.journal_model.specs.declared.entry.Entry.{Entry}
use Rattle.journal_model.specs.declared.state.Core.{Core}
use Rattle.journal_model.specs.declared.state.Buffer.{Buffer}
use Rattle.journal_model.specs.declared.state.Job.{Job}
use Rattle.journal_model.specs.declared.state.Ghost as ghosts
use Rattle.journal_model.specs.scripts.ScriptRules.{is_script}
use Rattle.journal_model.specs.rules.State.{live_in, new_buffer}
use Rattle.journal_model.specs.rules.Places.{frames_of, page_in_table, aperture}
use Rattle.journal_model.specs.rules.Holds.{held_frames, has_number}
use Rattle.journal_model.specs.rules.Waits.{same_job}
use Rattle.journal_model.specs.statements.Spares.{remaining}
use Rattle.journal_model.specs.statements.After.{ComesAfter, by_context, by_wait, through}
use Rattle.journal_model.specs.rules.Legal.{state_of, stores_of, IsLegal}
use Rattle.journal_model.specs.rules.PlainMemory.{plain_of}
use Rattle.law_facts.specs.Facts.{touches, IsCovered, GhostsAreFenced, FreePagesAreFenced, LegalGhostsAreFenced, LegalFreePagesAreFenced}
use Rattle.laws.specs.lemma_bytes_model.Memory.{Page, Nowhere, Vram, Frame, touched, written}
use Rattle.laws.specs.lemma_bytes_model.View.{Owner, Idle, Free, Kept, Ghost, Covers, self, behind, Guarded}
use Rattle.laws.specs.law_holders.Holding.{seen, HeldOnce, in_ghost, kept_in, buffer_at}
use Rattle.laws.proofs.law_owners.Law.{AreHeldOnce, once_law}
use Rattle.laws.proofs.law_owners.Weights.{vram_pages, frames, times-held}
use Rattle.laws.proofs.law_owners.Taken.{free_stands_none, has_none}
use Rattle.laws.proofs.law_holders.HeldOnce.{held_once}
use Rattle.laws.proofs.law_holders.Owner.{owner_of, owner_is, owner_none}
use Rattle.laws.proofs.law_jobs.Law.{line_law}
use Rattle.laws.proofs.lemma_bytes_model.Actions.{bool_cases}
use Rattle.laws.proofs.lemma_bytes_view.World.{bare}
use Rattle.laws.proofs.lemma_bytes_view.Viewed.{Viewed}
use Rattle.laws.proofs.lemma_bytes_view.Jobs.{same_job-refl}
use Rattle.laws.proofs.lemma_bytes_view.Tables.{frame_stands}
use Rattle.laws.proofs.law_transparent.Idles.{none_holds}
use Rattle.laws.proofs.law_transparent.Carried.{view_law}
use Rattle.laws.proofs.law_transparent.PagesLaw.{ghosts_law}
use Rattle.law_facts.proofs.Jobs.{at_of, has_of}
use Rattle.law_facts.proofs.Order.{done_after}
use Rattle.law_facts.proofs.Reach.{AfterAt, in_context, waiting, over}
use Rattle.law_facts.proofs.Touches.{touched_so}

clash : (a : Bool) → a ≡ true → a ≡ false → ⊥
clash true e f = cc
clash false e f = cc

module _ (script : Script) (fits : IsTrue (is_script script)) (journal : List Entry) (legal : IsLegal script journal) where
  abbrev c : Core
  c = (state_of script journal).core

  -- the view of the state
  pub viewed : Viewed script (state_of script journal).core (plain_of script journal).owed_probes (plain_of script journal).memory (stores_of script journal)
  viewed = view_law script journal fits legal

  pub held : AreHeldOnce script (state_of script journal).core
  held = once_law script journal fits legal

  pub once : HeldOnce (bare (state_of script journal).core)
  once = held_once script (bare (state_of script journal).core) held

  -- ---- from the view to jobs

  -- the job is this one, or comes after it
  abbrev pub Reaches : Job → Job → Type 0
  Reaches x y = (x ≡ y) ⊎ ComesAfter (state_of script journal).core.jobs x y

  pub next_to : (m n : ℕ) (x : Job) → slice_get (state_of script journal).core.jobs m ≡ Some x → viewed.view.fences.prior m n ≡ true → (y : Job) × (slice_get (state_of script journal).core.jobs n ≡ Some y) × ComesAfter (state_of script journal).core.jobs x y
  next_to m n x at p =
      let b = viewed.seen.prior m n p in
      let two : Some b.later ≡ Some x = sym b.at ∙ at in
      let is : b.later ≡ x = cc in
      let cx = has_of x (state_of script journal).core.jobs m at in
      let cy = has_of b.earlier (state_of script journal).core.jobs n b.there in (
        b.earlier,
        b.there,
        ⊎_elim
            (λ w. by_wait cx cy (subst (λ (z : Job). list_any (same_job b.earlier.id) z.waits ≡ true) is w))
            (λ r.
            let ctx : b.earlier.id.ctx ≡ x.id.ctx = sym r.1 ∙ ap (λ (z : Job). z.id.ctx) is in
            by_context cx cy ctx ((line_law script journal x.id.ctx fits legal).rises n m b.earlier x r.0 b.there at ctx refl))
            b.why,
      )

  pub covers_so : (m n : ℕ) (x y : Job) → slice_get (state_of script journal).core.jobs m ≡ Some x → slice_get (state_of script journal).core.jobs n ≡ Some y → Covers viewed.view.fences.prior m n → Reaches x y
  covers_so m n x y a b self = let two : Some x ≡ Some y = sym a ∙ b in inl cc
  covers_so m n x y a b (behind {k} p rest) =
      let next = next_to m k x a p in
      ⊎_elim
      (λ e. inr (subst (ComesAfter (state_of script journal).core.jobs x) e next.2))
      (λ e. inr (through next.2 e))
      (covers_so k n next.0 y next.1 b rest)

  pub covers_at : (m n : ℕ) → Covers viewed.view.fences.prior m n → (m ≡ n) ⊎ AfterAt (state_of script journal).core.jobs m n
  covers_at m n self = inl refl
  covers_at m n (behind {k} p rest) = ⊎_elim (λ e. inr (subst (AfterAt (state_of script journal).core.jobs m) e step)) (λ e. inr (over step e)) (covers_at k n rest)
    where
      step : AfterAt (state_of script journal).core.jobs m k
      step =
          let b = viewed.seen.prior m k p in
          ⊎_elim
          (λ w. waiting b.later b.earlier b.at b.there w)
          (λ r. in_context b.later b.earlier b.at b.there (sym r.1) ((line_law script journal b.later.id.ctx fits legal).rises k m b.earlier b.later r.0 b.there b.at (sym r.1) refl))
          b.why

  pub still_unfinished : (x y : Job) → Reaches x y → y.finished ≡ false → x.finished ≡ false
  still_unfinished x y r f = ⊎_elim (λ t. absurd (clash y.finished (ends r t) f)) (λ t. t) (bool_cases x.finished)
    where
      ends : Reaches x y → x.finished ≡ true → y.finished ≡ true
      ends (inl e) t = ap (λ (z : Job). z.finished) (sym e) ∙ t
      ends (inr e) t = done_after script fits journal legal x y e t

  pub covered : (ids : List JobId) (m n : ℕ) (x y : Job) → slice_get (state_of script journal).core.jobs m ≡ Some x → slice_get (state_of script journal).core.jobs n ≡ Some y → y.finished ≡ false →
      list_any (same_job x.id) ids ≡ true → Covers viewed.view.fences.prior m n → IsCovered (state_of script journal).core.jobs ids y
  covered ids m n x y a b f among h =
      let r = covers_so m n x y a b h in
      record { job = x; there = has_of x (state_of script journal).core.jobs m a; among = among; unfinished = still_unfinished x y r f; after = r }

  -- ---- the guard of a page

  pub touched_at : (n : ℕ) (y : Job) (p : pages.Page) → slice_get (state_of script journal).core.jobs n ≡ Some y → touches (state_of script journal).core p y ≡ true → touched (viewed.view.left n) (seen p) ≡ true
  touched_at n y p at t = ap (λ xs. touched xs (seen p)) (viewed.seen.left n y at) ∙ touched_so (aperture (state_of script journal).core) p ((plain_of script journal).owed_probes y.id) y.ran (remaining y) t

  pub guarded : (n : ℕ) (y : Job) (p : pages.Page) (o : Owner) → slice_get (state_of script journal).core.jobs n ≡ Some y → touches (state_of script journal).core p y ≡ true → owner_of (bare (state_of script journal).core) (seen p) ≡ o →
      Guarded viewed.view.fences o n (written (viewed.view.left n) (seen p))
  guarded n y p o at t e =
      subst (λ q. Guarded viewed.view.fences q n (written (viewed.view.left n) (seen p))) (viewed.seen.owner (seen p) ∙ e)
      (viewed.good.guard n (seen p) (touched_at n y p at t))

  -- ---- ghosts

  ghost_owner : (place : ℕ) (g : ghosts.Ghost) (x : Page) → (x ≡ Nowhere → ⊥) → slice_get (state_of script journal).core.ghosts place ≡ Some g → in_ghost x g ≡ true → owner_of (bare (state_of script journal).core) x ≡ Ghost g.num
  ghost_owner place g x ne at h = owner_is (bare (state_of script journal).core) once x (Ghost g.num) ne (place, g, at, refl, h)

  by_ghost : (n place : ℕ) (y : Job) (g : ghosts.Ghost) (w : Bool) → slice_get (state_of script journal).core.jobs n ≡ Some y → y.finished ≡ false → slice_get (state_of script journal).core.ghosts place ≡ Some g →
      Guarded viewed.view.fences (Ghost g.num) n w → IsCovered (state_of script journal).core.jobs g.jobs y
  by_ghost n place y g w at f there h =
      let j = viewed.seen.ghost g.num h.0 h.1 in
      let same = (ghosts_law script journal fits legal).distinct j.place place j.ghost g j.there there j.number in
      let two : Some j.ghost ≡ Some g = sym j.there ∙ ap (slice_get (state_of script journal).core.ghosts) same ∙ there in
      let is : j.ghost ≡ g = cc in
      covered g.jobs h.0 n j.job y j.at at f (subst (λ (z : ghosts.Ghost). list_any (same_job j.job.id) z.jobs ≡ true) is j.has) h.2

  pub ghosts_fenced : GhostsAreFenced (state_of script journal).core
  ghosts_fenced = record {
    pages = λ i g p ci f cg h t.
        let a = at_of i (state_of script journal).core.jobs ci in
        let b = at_of g (state_of script journal).core.ghosts cg in
        by_ghost a.0 b.0 i g true a.1 f b.1 (guarded a.0 i (pages.vram p) (Ghost g.num) a.1 t (ghost_owner b.0 g (Vram p) (λ q. cc) b.1 h));
    frames = λ i g p ci f cg h t.
        let a = at_of i (state_of script journal).core.jobs ci in
        let b = at_of g (state_of script journal).core.ghosts cg in
        by_ghost a.0 b.0 i g true a.1 f b.1 (guarded a.0 i (pages.frame p) (Ghost g.num) a.1 t (ghost_owner b.0 g (Frame p) (λ q. cc) b.1 h));
  }

  -- ---- free pages

  pub by_mover : (n : ℕ) (y : Job) (m : ℕ) → slice_get (state_of script journal).core.jobs n ≡ Some y → y.finished ≡ false → viewed.view.fences.mover ≡ Some m → Covers viewed.view.fences.prior m n →
      IsCovered (state_of script journal).core.jobs (option_to_list (state_of script journal).core.move_fence) y
  by_mover n y m at f e h =
      let j = viewed.seen.mover m e in
      covered (option_to_list (state_of script journal).core.move_fence) m n j.job y j.at at f
      (ap (λ o. list_any (same_job j.job.id) (option_to_list o)) j.is ∙ own j.job.id) h
    where
      own : (i : JobId) → list_any (same_job i) (option_to_list (Some i)) ≡ true
      own i = or_false (same_job i i) (same_job-refl i)
        where
          or_false : (a : Bool) → a ≡ true → (a || false) ≡ true
          or_false true e = refl
          or_false false e = cc

  pub untouched : (n : ℕ) (y : Job) (p : pages.Page) → slice_get (state_of script journal).core.jobs n ≡ Some y → (touches (state_of script journal).core p y ≡ true → ⊥) → touches (state_of script journal).core p y ≡ false
  untouched n y p at none = ⊎_elim (λ t. absurd (none t)) (λ t. t) (bool_cases (touches (state_of script journal).core p y))

  kept_at : (b : BufId) (x : Buffer) (p : ℕ) → live_in (state_of script journal).core.buffers b ≡ Some x → x.mem ≡ mem.Vram → has_number (frames_of x) p ≡ true →
      (k : ℕ) × (kept_in (buffer_at (state_of script journal).core b.0).mem (buffer_at (state_of script journal).core b.0) k ≡ Frame p)
  kept_at b x p live m h =
      let r = frame_stands x.table p h in
      let is : buffer_at (state_of script journal).core b.0 ≡ x = ap (λ o. unwrap_or o (new_buffer 0)) live in
      (r.0, subst (λ (y : Buffer). kept_in y.mem y r.0 ≡ Frame p) (sym is) (ap (λ z. kept_in z x r.0) m ∙ ap (λ o. seen (page_in_table (unwrap_or o loc.Zero))) r.1))

  pub free_fenced : FreePagesAreFenced (state_of script journal).core
  free_fenced = record {
    pages = λ i p ci f h t.
        let a = at_of i (state_of script journal).core.jobs ci in
        let none = none_holds script (bare (state_of script journal).core) held (Vram p) (sym (times-held vram_pages p (state_of script journal).core) ∙ free_stands_none mem.Vram (state_of script journal).core p h) (λ q. cc) in
        let g = guarded a.0 i (pages.vram p) Free a.1 t (owner_none (bare (state_of script journal).core) (Vram p) (λ q. cc) none) in
        by_mover a.0 i g.0 a.1 f g.1 g.2;
    frames = λ i p ci f h.
        let a = at_of i (state_of script journal).core.jobs ci in
        let none = none_holds script (bare (state_of script journal).core) held (Frame p) (sym (times-held frames p (state_of script journal).core) ∙ has_none p (held_frames (state_of script journal).core) h) (λ q. cc) in
        untouched a.0 i (pages.frame p) a.1 (λ t. guarded a.0 i (pages.frame p) Idle a.1 t (owner_none (bare (state_of script journal).core) (Frame p) (λ q. cc) none));
    kept = λ i b x p ci f live m h.
        let a = at_of i (state_of script journal).core.jobs ci in
        let k = kept_at b x p live m h in
        untouched a.0 i (pages.frame p) a.1 (λ t. guarded a.0 i (pages.frame p) (Kept b.0 k.0) a.1 t (owner_is (bare (state_of script journal).core) once (Frame p) (Kept b.0 k.0) (λ q. cc) k.1));
  }

pub ghosts_fenced_law : LegalGhostsAreFenced
ghosts_fenced_law script journal fits legal = ghosts_fenced script fits journal legal

pub free_fenced_law : LegalFreePagesAreFenced
free_fenced_law script journal fits legal = free_fenced script fits journal legal
