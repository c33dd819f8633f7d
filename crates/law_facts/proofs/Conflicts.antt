-- Of two jobs in conflict the later waits for the earlier, or for a job that comes after it.
use Rattle.std.proofs.Common.{◌≡◌, ℕ, ◌<◌, Bool, true, false, List, [], ◌∷◌, ◌++◌, length, Some, IsTrue, sym, subst, ◌∙◌, ap, ap₂, ◌⊎◌, inl, inr, ⊎_elim}
use Rattle.std.specs.Prelude.{slice_get, ◌&&◌, if◌then◌else◌}
use Rattle.std.specs.List.{list_any}
use Rattle.std.proofs.lemmas.Bool.{and_parts, or_cases}
use Rattle.ttm_base.specs.declared.BufId.{BufId}
use Rattle.ttm_base.specs.declared.JobId.{JobId}
use Rattle.ttm_base.specs.declared.Packet.{Packet}
use Rattle.ttm_base.specs.Pages as pages
use Rattle.ttm_base.specs.Packets.{packet_writes, packet_reads, packet_touches}
use Rattle.journal_model.specs.declared.script.Script.{Script}
use Rattle.journal_model.specs.declared.entry.Entry.{Entry}
use Rattle.journal_model.specs.declared.state.Core.{Core}
use Rattle.journal_model.specs.declared.state.Job.{Job}
use Rattle.journal_model.specs.scripts.ScriptRules.{is_script}
use Rattle.journal_model.specs.rules.State.{buffer_in}
use Rattle.journal_model.specs.rules.Places.{place_of, aperture}
use Rattle.journal_model.specs.statements.Spares.{remaining}
use Rattle.journal_model.specs.rules.Waits.{same_job, changes, unfinished, jobs_before_read, jobs_before_write}
use Rattle.journal_model.specs.rules.Legal.{World, first_world, world_along, world_of, state_of, IsLegalNext, IsLegalFrom, IsLegal}
use Rattle.law_facts.specs.Facts.{touches, writes_to, conflict, LegalConflictsWait, LegalReadyJobsMayRun}
use Rattle.laws.specs.lemma_bytes_model.Memory.{touched}
use Rattle.laws.specs.law_holders.Holding.{seen}
use Rattle.laws.proofs.lemma_bytes_model.Actions.{clash, bool_cases, or_first, or_second}
use Rattle.laws.proofs.lemma_bytes_view.Binds.{among_all}
use Rattle.laws.proofs.lemma_bytes_view.Jobs.{waited_is_done}
use Rattle.laws.proofs.lemma_bytes_view.MoreJobs.{among_unfinished}
use Rattle.laws.proofs.law_transparent.Law.{world_push, legal_push}
use Rattle.law_facts.proofs.Jobs.{has_of}
use Rattle.law_facts.proofs.Apertures.{WasThere, one_step, old_or_new}
use Rattle.law_facts.proofs.Guards.{viewed, touched_at}
use Rattle.law_facts.proofs.Covered.{places_covered, targets_covered}
use Rattle.law_facts.proofs.Lasting.{touched_before, written_before}
use Rattle.law_facts.proofs.Covering.{CoveredAt, at_covered, covered_goes, unfinished_too, WaitsAt, waits_go, waits_of}
use Rattle.law_facts.proofs.Steps.{goes_on}
use Rattle.law_facts.proofs.Emits.{NewPage, stands, arrives, kept, WaitsForAll, WaitsForChanges}
use Rattle.law_facts.proofs.NewJobs.{new_page}
use Rattle.law_facts.proofs.Fenced.{no_later}

-- of two unfinished jobs in conflict the later waits
abbrev pub AllWait : Core → Type 0
AllWait c = (m n : ℕ) (i j : Job) (page : pages.Page) → m < n → slice_get c.jobs m ≡ Some i → slice_get c.jobs n ≡ Some j → i.finished ≡ false → j.finished ≡ false → conflict c page i j ≡ true → WaitsAt c.jobs n m

-- what writes a page touches it
writes_touch : (a : pages.Aperture) (p : pages.Page) (qs : List Packet) → list_any (packet_writes a p) qs ≡ true → list_any (packet_touches a p) qs ≡ true
writes_touch a p [] h = cc
writes_touch a p (q ∷ qs) h =
    ⊎_elim
    (λ e. or_first (packet_touches a p q) (list_any (packet_touches a p) qs) (or_first (packet_writes a p q) (packet_reads a p q) e))
    (λ e. or_second (packet_touches a p q) (list_any (packet_touches a p) qs) (writes_touch a p qs e))
    (or_cases (packet_writes a p q) (list_any (packet_writes a p) qs) h)

-- two jobs in conflict touch the page
both_touch : (d : Core) (i j : Job) (page : pages.Page) → conflict d page i j ≡ true → (touches d page i ≡ true) × (touches d page j ≡ true) × ((writes_to d page j ≡ true) ⊎ (writes_to d page i ≡ true))
both_touch d i j page h =
    ⊎_elim
    (λ z. let w = and_parts (touches d page i) (writes_to d page j) z in (w.0, writes_touch (aperture d) page (remaining j) w.1, inl w.1))
    (λ z. let w = and_parts (writes_to d page i) (touches d page j) z in (writes_touch (aperture d) page (remaining i) w.0, w.1, inr w.0))
    (or_cases (touches d page i && writes_to d page j) (writes_to d page i && touches d page j) h)

module _ (script : Script) (fits : IsTrue (is_script script)) where
  -- ---- whom the new job waits for

  module _ (journal : List Entry) (e : Entry) (l : IsLegal script journal) (n : IsLegalNext script (world_of script journal) e) where
    abbrev c : Core
    c = (state_of script journal).core

    abbrev d : Core
    d = (state_of script (journal ++ e ∷ [])).core

    -- a job among these, that isn't done, is waited for
    by_fence : (ids : List JobId) (m : ℕ) (x y : Job) → slice_get c.jobs m ≡ Some x → x.finished ≡ false →
        ((i : JobId) → list_any (same_job i) (unfinished c ids) ≡ true → list_any (same_job i) y.waits ≡ true) → CoveredAt c.jobs ids m → CoveredAt c.jobs y.waits m
    by_fence ids m x y a u waits w =
        let un = unfinished_too script fits journal l w.at m w.job x w.here a w.after u in
        record { at = w.at; job = w.job; here = w.here; among = waits w.job.id (among_unfinished c ids w.at w.job w.here un w.among); after = w.after }

    any_use : (b : BufId) (q : Bool) (m : ℕ) → CoveredAt c.jobs (if q then jobs_before_read (buffer_in c b) else jobs_before_write (buffer_in c b)) m →
        CoveredAt c.jobs (jobs_before_write (buffer_in c b)) m
    any_use b true m w = record { at = w.at; job = w.job; here = w.here; among = among_all (same_job w.job.id) changes (buffer_in c b).fences w.among; after = w.after }
    any_use b false m w = w

    new_waits : (m : ℕ) (x y : Job) (p : pages.Page) → slice_get c.jobs m ≡ Some x → x.finished ≡ false →
        slice_get d.jobs (length c.jobs) ≡ Some y →
        touches c p x ≡ true → touches d p y ≡ true →
        (writes_to d p y ≡ true) ⊎ (writes_to c p x ≡ true) → CoveredAt c.jobs y.waits m
    new_waits m x y p a u at t ty w = by (new_page script fits journal e l n y at p ty)
      where
        covering : (b : BufId) (k : ℕ) → place_of c b k ≡ p →
            CoveredAt c.jobs (if writes_to c p x then jobs_before_read (buffer_in c b) else jobs_before_write (buffer_in c b)) m
        covering b k is =
            subst (λ q. CoveredAt c.jobs (if writes_to c q x then jobs_before_read (buffer_in c b) else jobs_before_write (buffer_in c b)) m) is
            (at_covered script fits journal l _ m x a
            (places_covered script fits journal l x b k (has_of x c.jobs m a) u (subst (λ q. touches c q x ≡ true) (sym is) t)))

        of_all : (b : BufId) (k : ℕ) → place_of c b k ≡ p → WaitsForAll c y b → CoveredAt c.jobs y.waits m
        of_all b k is all = by_fence (jobs_before_write (buffer_in c b)) m x y a u all (any_use b (writes_to c p x) m (covering b k is))

        of_changes : (b : BufId) (k : ℕ) → place_of c b k ≡ p → writes_to c p x ≡ true → WaitsForChanges c y b → CoveredAt c.jobs y.waits m
        of_changes b k is h some =
            by_fence (jobs_before_read (buffer_in c b)) m x y a u some
            (subst (λ q. CoveredAt c.jobs (if q then jobs_before_read (buffer_in c b) else jobs_before_write (buffer_in c b)) m) h (covering b k is))

        by : NewPage c d y p → CoveredAt c.jobs y.waits m
        by (stands b k is (inl all)) = of_all b k is all
        by (stands b k is (inr some)) = ⊎_elim (λ h. absurd (some.0 h)) (λ h. of_changes b k is h some.1) w
        by (arrives b k q is target now all) =
            by_fence (jobs_before_write (buffer_in c b)) m x y a u all
            (any_use b true m
            (at_covered script fits journal l (jobs_before_read (buffer_in c b)) m x a
            (targets_covered script fits journal l x b q (has_of x c.jobs m a) u target (subst (λ z. touches c z x ≡ true) is t)).0))
        by (kept f is none) = clash t (none x (has_of x c.jobs m a) u)

    -- ---- one entry more

    waits_more : AllWait c → AllWait d
    waits_more old m k i j page less a b ui uj h = by (old_or_new script fits journal e l n m i a) (old_or_new script fits journal e l n k j b)
      where
        both_old : (x z : Job) → slice_get c.jobs m ≡ Some x → slice_get c.jobs k ≡ Some z → WaitsAt d.jobs k m
        both_old x z ax az =
            let gi = goes_on script fits journal e l n m x i ax a ui in
            let gj = goes_on script fits journal e l n k z j az b uj in
            let before : conflict c page x z ≡ true =
            ⊎_elim
            (λ q.
            let w = and_parts (touches d page i) (writes_to d page j) q in
            or_first (touches c page x && writes_to c page z) (writes_to c page x && touches c page z) (ap₂ ◌&&◌ (touched_before c d x i gi.1 page w.0) (written_before c d z j gj.1 page w.1)))
            (λ q.
            let w = and_parts (writes_to d page i) (touches d page j) q in
            or_second (touches c page x && writes_to c page z) (writes_to c page x && touches c page z) (ap₂ ◌&&◌ (written_before c d x i gi.1 page w.0) (touched_before c d z j gj.1 page w.1)))
            (or_cases (touches d page i && writes_to d page j) (writes_to d page i && touches d page j) h) in
            waits_go c.jobs d.jobs k m (one_step script fits journal e l n).goes (old m k x z page less ax az gi.0 gj.0 before)

        new_later : (x : Job) → slice_get c.jobs m ≡ Some x → k ≡ length c.jobs → WaitsAt d.jobs k m
        new_later x ax is =
            let gi = goes_on script fits journal e l n m x i ax a ui in
            let t = both_touch d i j page h in
            let w = new_waits m x j page ax gi.0 (subst (λ at. slice_get d.jobs at ≡ Some j) is b) (touched_before c d x i gi.1 page t.0) t.1
            (⊎_elim (λ q. inl q) (λ q. inr (written_before c d x i gi.1 page q)) t.2) in
            (j, b, covered_goes c.jobs d.jobs j.waits j.waits m (one_step script fits journal e l n).goes (λ q z. z) w)

        by : WasThere script (state_of script journal) m i → WasThere script (state_of script journal) k j → WaitsAt d.jobs k m
        by (inl p) (inl q) = both_old p.0 q.0 p.1 q.1
        by (inl p) (inr q) = new_later p.0 p.1 q.0
        by (inr p) q = absurd (no_later script fits journal e l n m p.0 k j b less)

  -- ---- along a journal

  all_along : (journal es : List Entry) → IsLegal script journal → IsLegalFrom script (world_of script journal) es → AllWait (state_of script journal).core → AllWait (world_along script (world_of script journal) es).state.core
  all_along journal [] l h f = f
  all_along journal (e ∷ es) l h f =
      let push = world_push script (first_world script) journal e in
      subst (λ (w : World). AllWait (world_along script w es).state.core) push
      (all_along (journal ++ e ∷ []) es (legal_push script (first_world script) journal e l h.0) (subst (λ (w : World). IsLegalFrom script w es) (sym push) h.1) (waits_more journal e l h.0 f))

  all_law : (journal : List Entry) → IsLegal script journal → AllWait (state_of script journal).core
  all_law journal l = all_along [] journal tt l (λ m n i j page less a b ui uj h. cc)

  -- a job that is done has no packet left
  touches_undone : (journal : List Entry) → IsLegal script journal → (m : ℕ) (x : Job) (p : pages.Page) → slice_get (state_of script journal).core.jobs m ≡ Some x → touches (state_of script journal).core p x ≡ true → x.finished ≡ false
  touches_undone journal l m x p a t =
      ⊎_elim
      (λ f.
      let v = viewed script fits journal l in
      let none : v.view.left m ≡ [] = v.good.ends m (v.seen.done m x a ∙ f) in
      clash (touched_at script fits journal l m x p a t) (ap (λ xs. touched xs (seen p)) none))
      (λ f. f)
      (bool_cases x.finished)

pub waits_law : LegalConflictsWait
waits_law script journal fits l m n i j page less a b h =
    let t = both_touch (state_of script journal).core i j page h in
    waits_of script fits journal l m n i j a b
    (all_law script fits journal l m n i j page less a b (touches_undone script fits journal l m i page a t.0) (touches_undone script fits journal l n j page b t.1) h)

pub ready_law : LegalReadyJobsMayRun
ready_law script journal fits l m n i j page less a b u none = ⊎_elim (λ h. clash (ends h) u) (λ h. h) (bool_cases (conflict (state_of script journal).core page i j))
  where
    ends : conflict (state_of script journal).core page i j ≡ true → i.finished ≡ true
    ends h =
        let t = both_touch (state_of script journal).core i j page h in
        let w = all_law script fits journal l m n i j page less a b u (touches_undone script fits journal l n j page b t.1) h in
        let two : Some w.0 ≡ Some j = sym w.1 ∙ b in
        let is : w.0 ≡ j = cc in
        let k = w.2 in
        let among : list_any (same_job k.job.id) j.waits ≡ true = subst (λ (z : Job). list_any (same_job k.job.id) z.waits ≡ true) is k.among in
        let done : k.job.finished ≡ true = waited_is_done (state_of script journal).core j.waits k.at k.job none k.here among in
        clash done (unfinished_too script fits journal l k.at m k.job i k.here a k.after u)
