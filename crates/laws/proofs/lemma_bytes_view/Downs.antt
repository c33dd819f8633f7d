-- A buffer moves from VRAM into TT, to the frames that its table kept: the pages that it leaves stay with a ghost, or are free at once.
use Rattle.std.proofs.Common.{◌≡◌, ℕ, ◌<◌, ◌≤◌, zero, suc, true, List, [], ◌∷◌, ◌++◌, length, Option, Some, refl, sym, subst, ◌∙◌, ap, arith, ◌⊎◌, inl, inr, ⊎_elim}
use Rattle.std.specs.Prelude.{slice_get, slice_set, option_map, option_and_then, unwrap_or}
use Rattle.std.proofs.lemmas.Bool.{cases_eq, cases_lt}
use Rattle.ttm_base.specs.declared.Mem.TheVariants as mem
use Rattle.ttm_base.specs.declared.BufId.{BufId}
use Rattle.ttm_base.specs.declared.JobId.{JobId}
use Rattle.ttm_base.specs.declared.Span.{Span}
use Rattle.ttm_base.specs.declared.Loc.{Loc}
use Rattle.ttm_base.specs.declared.Loc.TheVariants as loc
use Rattle.ttm_base.specs.Pages as pages
use Rattle.journal_model.specs.declared.script.Script.{Script}
use Rattle.journal_model.specs.declared.state.Core.{Core}
use Rattle.journal_model.specs.declared.state.Buffer.{Buffer}
use Rattle.journal_model.specs.declared.state.Targets.{Targets}
use Rattle.ttm_base.specs.declared.Fence.{Fence}
use Rattle.journal_model.specs.declared.state.Ghost as ghosts
use Rattle.journal_model.specs.rules.State.{target_spans, live_in, new_buffer}
use Rattle.journal_model.specs.rules.Places.{pages_of, aperture, page_in_table, page_in_vram}
use Rattle.journal_model.specs.rules.Holds.{has_number}
use Rattle.journal_model.specs.rules.PlainMemory.{Memory, OwedProbes}
use Rattle.journal_model.specs.rules.ApplyMoves.{moved, ghost_of_moved}
use Rattle.laws.proofs.law_state.Lists.{get_pushed}
use Rattle.laws.proofs.law_owners.Law.{AreHeldOnce}
use Rattle.laws.specs.lemma_bytes_model.Memory.{Page, Nowhere, Vram, Frame, Slot, Own}
use Rattle.laws.specs.lemma_bytes_model.View.{Owner, Idle, Free, Live, Kept, Target, Ghost}
use Rattle.laws.specs.law_holders.Holding.{seen, live_at, kept_in, target_at, in_ghost, buffer_at, Holds}
use Rattle.laws.specs.law_holders.Maps.{Maps}
use Rattle.laws.proofs.law_holders.HeldOnce.{held_once}
use Rattle.laws.proofs.law_holders.Owner.{owner_of, owner_is, owner_none, unheld}
use Rattle.laws.proofs.law_holders.Mapped.{maps_aperture}
use Rattle.laws.proofs.lemma_bytes_view.World.{bare}
use Rattle.laws.proofs.lemma_bytes_view.Binds.{IsAt, at_is, live_either}
use Rattle.laws.proofs.lemma_bytes_view.MoreJobs.{get_last, get_front}
use Rattle.laws.proofs.lemma_bytes_view.Moving.{moved_core, Moving, to_ghost_viewed, now_viewed}
use Rattle.laws.proofs.lemma_bytes_view.Viewed.{Viewed}
use Rattle.laws.proofs.lemma_bytes_view.Tables.{get_at, get_past, get_within, AllFrames, has_at, at_has}

module _ (script : Script) (c : Core) (owed_probes : OwedProbes) (m : Memory) (bytes : pages.PageBytes) (u : Viewed script c owed_probes m bytes)
    (b : BufId) (spans : List Span) (table : List Loc) (targets : Targets) (fences : List Fence) where
  -- the buffer in VRAM
  abbrev x : Buffer
  x = record { mem = mem.Vram; spans = spans; table = table; targets = targets; fences = fences }

  module _ (is : IsAt c b (record { mem = mem.Vram; spans = spans; table = table; targets = targets; fences = fences })) (n : ℕ)
      (held : AreHeldOnce script c) (full : AllFrames table) (long : length (pages_of spans) ≡ length table)
      (target_long : length (pages_of (target_spans mem.Tt (record { mem = mem.Vram; spans = spans; table = table; targets = targets; fences = fences }))) ≡ length table)
      (gs : List ghosts.Ghost) (mj : Option JobId)
      (once : AreHeldOnce script (moved_core c b (record { mem = mem.Vram; spans = spans; table = table; targets = targets; fences = fences }) mem.Tt n gs mj))
      (stay : (i : ℕ) (h : ghosts.Ghost) → slice_get c.ghosts i ≡ Some h → slice_get gs i ≡ Some h)
      (back : (p : Page) (i : ℕ) (h : ghosts.Ghost) → slice_get gs i ≡ Some h → in_ghost p h ≡ true →
      (slice_get c.ghosts i ≡ Some h) ⊎ ((k : ℕ) × (k < length table) × (live_at (record { mem = mem.Vram; spans = spans; table = table; targets = targets; fences = fences }) k ≡ p)))
      (undue : (k : ℕ) → owed_probes (record { ctx = 0; num = n }) k ≡ []) where
    abbrev d : Core
    d = moved_core c b x mem.Tt n gs mj

    abbrev y : Buffer
    y = moved mem.Tt (record { ctx = 0; num = n }) x

    -- where a page stands
    record From (k : ℕ) : Type 0 where
      page : ℕ
      at : slice_get (pages_of spans) k ≡ Some page
      is_there : live_at x k ≡ Vram page

    from : (k : ℕ) → k < length table → From k
    from k l = let e = long in let r = get_at (pages_of spans) k (omega (arith, l, e)) in record { page = r.0; at = r.1; is_there = ap (λ o. seen (page_in_vram o)) r.1 }

    -- where it goes
    record To (k : ℕ) : Type 0 where
      frame : ℕ
      at : slice_get table k ≡ Some (loc.Frame frame)
      is_there : kept_in mem.Vram x k ≡ Frame frame

    to_frame : (k : ℕ) → k < length table → To k
    to_frame k l = let r = full k l in record { frame = r.0; at = r.1; is_there = ap (λ o. seen (page_in_table (unwrap_or o loc.Zero))) r.1 }

    past_kept : (k : ℕ) → length table ≤ k → kept_in mem.Vram x k ≡ Nowhere
    past_kept k l = ap (λ o. seen (page_in_table (unwrap_or o loc.Zero))) (get_past table k l)

    maps_stay : (p q : ℕ) → Maps c p q → Maps d p q
    maps_stay p q (inr w) = inr (record { place = w.place; ghost = w.ghost; is = stay w.place w.ghost w.is; at = w.at; here = w.here; there = w.there })
    maps_stay p q (inl w) =
        ⊎_elim
        (λ e.
        let both : Some x ≡ Some w.buffer = sym is.live ∙ ap (λ i. live_in c.buffers (record { 0 = i })) e ∙ w.live in
        let one : x ≡ w.buffer = cc in
        let clash : mem.Vram ≡ mem.Tt = ap (λ (y : Buffer). y.mem) one ∙ w.mem in
        cc)
        (λ ne.
        ⊎_elim
        (λ e. inl (record { b = w.b; buffer = w.buffer; live = e ∙ w.live; mem = w.mem; at = w.at; here = w.here; there = w.there }))
        (λ e. absurd (ne e.0))
        (live_either (moved mem.Tt (record { ctx = 0; num = n })) c b x is w.b.0))
        (cases_eq b.0 w.b.0)

    here_now : live_in d.buffers b ≡ Some y
    here_now = set_here c.buffers b.0 is.live
      where
        set_here : (bs : List (Option Buffer)) (k : ℕ) → option_and_then (λ z. z) (slice_get bs k) ≡ Some x →
            option_and_then (λ z. z) (slice_get (slice_set bs k (option_map (moved mem.Tt (record { ctx = 0; num = n })) (option_and_then (λ z. z) (slice_get bs k)))) k) ≡ Some y
        set_here [] k e = cc
        set_here (o ∷ bs) zero e = ap (option_map (moved mem.Tt (record { ctx = 0; num = n }))) e
        set_here (o ∷ bs) (suc k) e = set_here bs k e

    mapped_there : (k p f : ℕ) → slice_get (pages_of (target_spans mem.Tt x)) k ≡ Some p → slice_get table k ≡ Some (loc.Frame f) → aperture d p ≡ Some f
    mapped_there k p f e h = maps_aperture script d once p f (inl (record { b = b; buffer = y; live = here_now; mem = refl; at = k; here = e; there = h }))

    pub moving : Moving script c b x mem.Tt n gs mj owed_probes (λ k. kept_in mem.Vram x k)
    moving = record {
      held = held;
      once = once;
      stands = λ k l e. let f = from k l in let z : Vram f.page ≡ Nowhere = sym f.is_there ∙ e in cc;
      reached = λ k i l e. let f = from k l in let z : Vram f.page ≡ Slot i = sym f.is_there ∙ e in cc;
      whole = λ k l. let e = long in ap (λ o. seen (page_in_vram o)) (get_past (pages_of spans) k (omega (arith, l, e)));
      arrives = λ k l. refl;
      beyond = λ k l. past_kept k l;
      ready = λ k l. inr refl;
      some = λ k l e. let t = to_frame k l in let z : Frame t.frame ≡ Nowhere = sym t.is_there ∙ e in cc;
      reaches = λ k i l e. let t = to_frame k l in let z : Frame t.frame ≡ Slot i = sym t.is_there ∙ e in cc;
      kept_back = λ k p ne h. absurd (ne (sym h));
      kept_on = λ k p ne h. ⊎_elim (λ l. inr (k, l, h)) (λ l. absurd (ne (sym h ∙ past_kept k l))) (cases_lt k (length table));
      target_back = λ k p ne h. h;
      target_on = λ k p ne h. inl h;
      ghosts_stay = stay;
      ghosts_back = back;
      maps_stay = maps_stay;
      names_to = λ k l.
          let t = to_frame k l in
          let e = target_long in
          let p = get_at (pages_of (target_spans mem.Tt x)) k (omega (arith, l, e)) in
          ap (λ o. seen (pages.mapped_page (aperture d (unwrap_or o 0)))) p.1 ∙ ap (λ o. seen (pages.mapped_page o)) (mapped_there k p.0 t.frame p.1 t.at) ∙ sym t.is_there;
      names_from = λ k l. let f = from k l in ap (λ o. Vram (unwrap_or o 0)) f.at ∙ sym f.is_there;
      undue = undue;
    }

    -- nobody holds a page that was left, where no ghost does
    nobody : (k : ℕ) → k < length table → ((i : ℕ) (h : ghosts.Ghost) → slice_get gs i ≡ Some h → slice_get c.ghosts i ≡ Some h) → (o : Owner) → Holds (bare d) (live_at x k) o → ⊥
    nobody k l ghostless o h = by o h
      where
        there : (z : Page) → live_at x k ≡ z → z ≡ Nowhere → ⊥
        there z e q = let f = from k l in let w : Vram f.page ≡ Nowhere = sym f.is_there ∙ e ∙ q in cc

        other : (e : ℕ) → (b.0 ≡ e → ⊥) → buffer_at d e ≡ buffer_at c e
        other e ne = ⊎_elim (λ q. ap (λ o. unwrap_or o (new_buffer 0)) q) (λ q. absurd (ne q.0)) (live_either (moved mem.Tt (record { ctx = 0; num = n })) c b x is e)

        here : buffer_at d b.0 ≡ y
        here = ap (λ o. unwrap_or o (new_buffer 0)) here_now

        was : (o : Owner) → Holds (bare c) (live_at x k) o → o ≡ Live b.0 k
        was o h = held_once script (bare c) held (live_at x k) o (Live b.0 k) (there (live_at x k) refl) h (ap (λ z. live_at z k) (at_is c b x is))

        no_frame : (j : ℕ) → kept_in mem.Vram x j ≡ live_at x k → ⊥
        no_frame j e =
            let f = from k l in
            ⊎_elim
            (λ i. let t = to_frame j i in let w : Frame t.frame ≡ Vram f.page = sym t.is_there ∙ e ∙ f.is_there in cc)
            (λ i. let w : Nowhere ≡ Vram f.page = sym (past_kept j i) ∙ e ∙ f.is_there in cc)
            (cases_lt j (length table))

        by : (o : Owner) → Holds (bare d) (live_at x k) o → ⊥
        by Idle h = h
        by Free h = h
        by (Live e j) h =
            ⊎_elim
            (λ q. no_frame j (ap (λ z. live_at z j) (sym here ∙ ap (buffer_at d) q) ∙ h))
            (λ ne. let w : Live e j ≡ Live b.0 k = was (Live e j) (ap (λ z. live_at z j) (sym (other e ne)) ∙ h) in let q : e ≡ b.0 = cc in ne (sym q))
            (cases_eq b.0 e)
        by (Kept e j) h =
            ⊎_elim
            (λ q. there (live_at x k) refl (sym h ∙ ap (λ (z : Buffer). kept_in z.mem z j) (sym (ap (buffer_at d) q) ∙ here)))
            (λ ne. let w : Kept e j ≡ Live b.0 k = was (Kept e j) (ap (λ (z : Buffer). kept_in z.mem z j) (sym (other e ne)) ∙ h) in cc)
            (cases_eq b.0 e)
        by (Target e j) h =
            ⊎_elim
            (λ q.
            let z : target_at x j ≡ live_at x k = ap (λ w. target_at w j) (sym here ∙ ap (buffer_at d) q) ∙ h in
            let w : Target b.0 j ≡ Live b.0 k = was (Target b.0 j) (ap (λ w. target_at w j) (at_is c b x is) ∙ z) in
            cc)
            (λ ne. let w : Target e j ≡ Live b.0 k = was (Target e j) (ap (λ z. target_at z j) (sym (other e ne)) ∙ h) in cc)
            (cases_eq b.0 e)
        by (Ghost i) h = let w : Ghost i ≡ Live b.0 k = was (Ghost i) (h.0, h.1, ghostless h.0 h.1 h.2, h.3, h.4) in cc

    pub frees : ((i : ℕ) (h : ghosts.Ghost) → slice_get gs i ≡ Some h → slice_get c.ghosts i ≡ Some h) → (k : ℕ) → k < length table → owner_of (bare d) (live_at x k) ≡ Free
    frees ghostless k l =
        let f = from k l in
        owner_none (bare d) (live_at x k) (λ e. let w : Vram f.page ≡ Nowhere = sym f.is_there ∙ e in cc) (nobody k l ghostless) ∙ ap unheld f.is_there

    -- the pages go to a ghost at the end
    pub keeps : (at gn : ℕ) (left : ghosts.Ghost) → slice_get gs at ≡ Some left → left.num ≡ gn → left.vram ≡ spans → (k : ℕ) → k < length table → owner_of (bare d) (live_at x k) ≡ Ghost gn
    keeps at gn left e num vram k l =
        let f = from k l in
        ap (owner_of (bare d)) f.is_there
        ∙ owner_is (bare d) (held_once script (bare d) once) (Vram f.page) (Ghost gn) (λ e. cc) (at, left, e, num, ap (λ ss. has_number (pages_of ss) f.page) vram ∙ has_at (pages_of spans) k f.page f.at)

  module _ (is : IsAt c b (record { mem = mem.Vram; spans = spans; table = table; targets = targets; fences = fences })) (n : ℕ)
      (held : AreHeldOnce script c) (full : AllFrames table) (long : length (pages_of spans) ≡ length table)
      (target_long : length (pages_of (target_spans mem.Tt (record { mem = mem.Vram; spans = spans; table = table; targets = targets; fences = fences }))) ≡ length table)
      (undue : (k : ℕ) → owed_probes (record { ctx = 0; num = n }) k ≡ []) where
    -- to a ghost
    module _ (gn : ℕ)
        (once : AreHeldOnce script (moved_core c b (record { mem = mem.Vram; spans = spans; table = table; targets = targets; fences = fences }) mem.Tt n
        (c.ghosts ++ ghost_of_moved (record { mem = mem.Vram; spans = spans; table = table; targets = targets; fences = fences }) (record { ctx = 0; num = n }) gn ∷ []) c.move_fence)) where
      abbrev left : ghosts.Ghost
      left = ghost_of_moved x (record { ctx = 0; num = n }) gn

      ghost_back : (p : Page) → in_ghost p left ≡ true → (k : ℕ) × (k < length table) × (live_at x k ≡ p)
      ghost_back (Vram i) h =
          let r = at_has (pages_of spans) i h in
          let w = get_within (pages_of spans) r.0 i r.1 in
          let e = long in
          (r.0, omega (arith, w, e), ap (λ o. seen (page_in_vram o)) r.1)
      ghost_back (Frame f) h = cc
      ghost_back (Slot i) h = cc
      ghost_back Nowhere h = cc
      ghost_back (Own e i) h = cc

      stay : (i : ℕ) (h : ghosts.Ghost) → slice_get c.ghosts i ≡ Some h → slice_get (c.ghosts ++ left ∷ []) i ≡ Some h
      stay i h e = get_front c.ghosts (left ∷ []) i h e

      back : (p : Page) (i : ℕ) (h : ghosts.Ghost) → slice_get (c.ghosts ++ left ∷ []) i ≡ Some h → in_ghost p h ≡ true → (slice_get c.ghosts i ≡ Some h) ⊎ ((k : ℕ) × (k < length table) × (live_at x k ≡ p))
      back p i h e g = ⊎_elim (λ z. inl z) (λ z. inr (ghost_back p (subst (λ (y : ghosts.Ghost). in_ghost p y ≡ true) z.1 g))) (get_pushed c.ghosts left h i e)

      pub down_viewed : Viewed script (moved_core c b x mem.Tt n (c.ghosts ++ left ∷ []) c.move_fence) owed_probes m bytes
      down_viewed =
          let t = moving is n held full long target_long (c.ghosts ++ left ∷ []) c.move_fence once stay back undue in
          let l = keeps is n held full long target_long (c.ghosts ++ left ∷ []) c.move_fence once stay back undue (length c.ghosts) gn left (get_last c.ghosts left) refl refl in
          to_ghost_viewed script c owed_probes m bytes u.view u.seen u.good b x is mem.Tt n (c.ghosts ++ left ∷ []) c.move_fence (λ k. kept_in mem.Vram x k) t gn l (length c.ghosts) left (get_last c.ghosts left) refl refl refl

    -- with pages that are free at once
    module _ (once : AreHeldOnce script (moved_core c b (record { mem = mem.Vram; spans = spans; table = table; targets = targets; fences = fences }) mem.Tt n c.ghosts (Some (record { ctx = 0; num = n }))))
        (ring : (i : JobId) → c.move_fence ≡ Some i → i.ctx ≡ 0) where
      pub evict_viewed : Viewed script (moved_core c b x mem.Tt n c.ghosts (Some (record { ctx = 0; num = n }))) owed_probes m bytes
      evict_viewed =
          let t = moving is n held full long target_long c.ghosts (Some (record { ctx = 0; num = n })) once (λ i h e. e) (λ p i h e g. inl e) undue in
          let l = frees is n held full long target_long c.ghosts (Some (record { ctx = 0; num = n })) once (λ i h e. e) (λ p i h e g. inl e) undue (λ i h e. e) in
          now_viewed script c owed_probes m bytes u.view u.seen u.good b x is mem.Tt n c.ghosts (Some (record { ctx = 0; num = n })) (λ k. kept_in mem.Vram x k) t l ring refl
