-- A buffer moves from TT into VRAM: its TT pages and its frames stay with a ghost.
use Rattle.std.proofs.Common.{◌≡◌, ℕ, ◌<◌, ◌≤◌, true, List, [], ◌∷◌, ◌++◌, length, Some, refl, sym, subst, ◌∙◌, ap, arith, inl, inr, ⊎_elim}
use Rattle.std.specs.Prelude.{slice_get, unwrap_or}
use Rattle.std.proofs.lemmas.Bool.{cases_eq, cases_lt}
use Rattle.ttm_base.specs.declared.Mem.TheVariants as mem
use Rattle.ttm_base.specs.declared.BufId.{BufId}
use Rattle.ttm_base.specs.declared.Span.{Span}
use Rattle.ttm_base.specs.declared.Loc.{Loc}
use Rattle.ttm_base.specs.declared.Loc.TheVariants as loc
use Rattle.ttm_base.specs.Pages as pages
use Rattle.journal_model.specs.declared.script.Script.{Script}
use Rattle.journal_model.specs.declared.state.Core.{Core}
use Rattle.journal_model.specs.declared.state.Buffer.{Buffer}
use Rattle.journal_model.specs.declared.state.Targets.{Targets}
use Rattle.ttm_base.specs.declared.Fence.{Fence}
use Rattle.journal_model.specs.declared.state.Ghost as ghosts
use Rattle.journal_model.specs.rules.State.{target_spans, live_in}
use Rattle.journal_model.specs.rules.Places.{pages_of, aperture, page_in_table, page_in_vram}
use Rattle.journal_model.specs.rules.PlainMemory.{Memory, OwedProbes}
use Rattle.journal_model.specs.rules.ApplyMoves.{moved, ghost_of_moved}
use Rattle.laws.proofs.law_state.Lists.{get_pushed}
use Rattle.laws.proofs.law_owners.Law.{AreHeldOnce}
use Rattle.laws.specs.lemma_bytes_model.Memory.{Page, Nowhere, Vram, Frame, Slot, Own}
use Rattle.laws.specs.lemma_bytes_model.View.{Ghost}
use Rattle.laws.specs.law_holders.Holding.{seen, live_at, target_at, in_ghost}
use Rattle.laws.specs.law_holders.Maps.{Maps}
use Rattle.laws.proofs.law_holders.HeldOnce.{held_once}
use Rattle.laws.proofs.law_holders.Owner.{owner_of, owner_is}
use Rattle.laws.proofs.law_holders.Mapped.{maps_aperture}
use Rattle.laws.proofs.lemma_bytes_view.World.{bare}
use Rattle.laws.proofs.lemma_bytes_view.Binds.{IsAt, live_either}
use Rattle.laws.proofs.lemma_bytes_view.MoreJobs.{get_last, get_front}
use Rattle.laws.proofs.lemma_bytes_view.Moving.{moved_core, Moving, to_ghost_viewed}
use Rattle.laws.proofs.lemma_bytes_view.Viewed.{Viewed}
use Rattle.laws.proofs.lemma_bytes_view.Tables.{get_at, get_past, get_within, AllFrames, frame_at, frame_stands, frame_listed, zero_loc}

module _ (script : Script) (c : Core) (owed_probes : OwedProbes) (m : Memory) (bytes : pages.PageBytes) (u : Viewed script c owed_probes m bytes)
    (b : BufId) (spans : List Span) (table : List Loc) (targets : Targets) (fences : List Fence) where
  -- the buffer in TT
  abbrev x : Buffer
  x = record { mem = mem.Tt; spans = spans; table = table; targets = targets; fences = fences }

  module _ (is : IsAt c b (record { mem = mem.Tt; spans = spans; table = table; targets = targets; fences = fences })) (n gn : ℕ)
      (held : AreHeldOnce script c)
      (once : AreHeldOnce script (moved_core c b (record { mem = mem.Tt; spans = spans; table = table; targets = targets; fences = fences }) mem.Vram n
      (c.ghosts ++ ghost_of_moved (record { mem = mem.Tt; spans = spans; table = table; targets = targets; fences = fences }) (record { ctx = 0; num = n }) gn ∷ []) c.move_fence))
      (full : AllFrames table) (long : length (pages_of spans) ≡ length table)
      (target_long : length (pages_of (target_spans mem.Vram (record { mem = mem.Tt; spans = spans; table = table; targets = targets; fences = fences }))) ≡ length table)
      (undue : (k : ℕ) → owed_probes (record { ctx = 0; num = n }) k ≡ []) where
    abbrev left : ghosts.Ghost
    left = ghost_of_moved x (record { ctx = 0; num = n }) gn

    abbrev gs : List ghosts.Ghost
    gs = c.ghosts ++ left ∷ []

    abbrev d : Core
    d = moved_core c b x mem.Vram n gs c.move_fence

    abbrev goal : List Span
    goal = target_spans mem.Vram x

    -- where a page stands
    record From (k : ℕ) : Type 0 where
      frame : ℕ
      at : slice_get table k ≡ Some (loc.Frame frame)
      is_there : live_at x k ≡ Frame frame

    from : (k : ℕ) → k < length table → From k
    from k l = let r = full k l in record { frame = r.0; at = r.1; is_there = ap (λ o. seen (page_in_table (unwrap_or o loc.Zero))) r.1 }

    -- where it goes
    record To (k : ℕ) : Type 0 where
      page : ℕ
      at : slice_get (pages_of goal) k ≡ Some page
      is_there : target_at x k ≡ Vram page

    to_page : (k : ℕ) → k < length table → To k
    to_page k l = let e = target_long in let r = get_at (pages_of goal) k (omega (arith, l, e)) in record { page = r.0; at = r.1; is_there = ap (λ o. seen (page_in_vram o)) r.1 }

    past_target : (k : ℕ) → length table ≤ k → target_at x k ≡ Nowhere
    past_target k l = let e = target_long in ap (λ o. seen (page_in_vram o)) (get_past (pages_of goal) k (omega (arith, l, e)))

    ghost_back : (p : Page) → in_ghost p left ≡ true → (k : ℕ) × (k < length table) × (live_at x k ≡ p)
    ghost_back (Vram i) h = cc
    ghost_back (Frame f) h = let r = frame_stands table f h in (r.0, get_within table r.0 (loc.Frame f) r.1, ap (λ o. seen (page_in_table (unwrap_or o loc.Zero))) r.1)
    ghost_back (Slot i) h = cc
    ghost_back Nowhere h = cc
    ghost_back (Own e i) h = cc

    maps_stay : (p q : ℕ) → Maps c p q → Maps d p q
    maps_stay p q (inr w) = inr (record { place = w.place; ghost = w.ghost; is = get_front c.ghosts (left ∷ []) w.place w.ghost w.is; at = w.at; here = w.here; there = w.there })
    maps_stay p q (inl w) =
        ⊎_elim
        (λ e.
        let both : Some x ≡ Some w.buffer = sym is.live ∙ ap (λ i. live_in c.buffers (record { 0 = i })) e ∙ w.live in
        let one : x ≡ w.buffer = cc in
        inr (record {
          place = length c.ghosts;
          ghost = left;
          is = get_last c.ghosts left;
          at = w.at;
          here = ap (λ (y : Buffer). slice_get (pages_of y.spans) w.at) one ∙ w.here;
          there = frame_at table full w.at q (ap (λ (y : Buffer). slice_get y.table w.at) one ∙ w.there);
        }))
        (λ ne.
        ⊎_elim
        (λ e. inl (record { b = w.b; buffer = w.buffer; live = e ∙ w.live; mem = w.mem; at = w.at; here = w.here; there = w.there }))
        (λ e. absurd (ne e.0))
        (live_either (moved mem.Vram (record { ctx = 0; num = n })) c b x is w.b.0))
        (cases_eq b.0 w.b.0)

    mapped_here : (k p f : ℕ) → slice_get (pages_of spans) k ≡ Some p → slice_get table k ≡ Some (loc.Frame f) → aperture d p ≡ Some f
    mapped_here k p f e h = maps_aperture script d once p f (maps_stay p f (inl (record { b = b; buffer = x; live = is.live; mem = refl; at = k; here = e; there = h })))

    moving : Moving script c b x mem.Vram n gs c.move_fence owed_probes (λ k. target_at x k)
    moving = record {
      held = held;
      once = once;
      stands = λ k l e. let f = from k l in let z : Frame f.frame ≡ Nowhere = sym f.is_there ∙ e in cc;
      reached = λ k i l e. let f = from k l in let z : Frame f.frame ≡ Slot i = sym f.is_there ∙ e in cc;
      whole = λ k l. ap (λ o. seen (page_in_table (unwrap_or o loc.Zero))) (get_past table k l);
      arrives = λ k l. refl;
      beyond = λ k l. past_target k l;
      ready = λ k l. inl refl;
      some = λ k l e. let t = to_page k l in let z : Vram t.page ≡ Nowhere = sym t.is_there ∙ e in cc;
      reaches = λ k i l e. let t = to_page k l in let z : Vram t.page ≡ Slot i = sym t.is_there ∙ e in cc;
      kept_back = λ k p ne h. absurd (ne (sym h ∙ ap (λ l. seen (page_in_table l)) (zero_loc table k)));
      kept_on = λ k p ne h. absurd (ne (sym h));
      target_back = λ k p ne h. absurd (ne (sym h));
      target_on = λ k p ne h. ⊎_elim (λ l. inr (k, l, h)) (λ l. absurd (ne (sym h ∙ past_target k l))) (cases_lt k (length table));
      ghosts_stay = λ i h e. get_front c.ghosts (left ∷ []) i h e;
      ghosts_back = λ p i h e g. ⊎_elim (λ z. inl z) (λ z. inr (ghost_back p (subst (λ (y : ghosts.Ghost). in_ghost p y ≡ true) z.1 g))) (get_pushed c.ghosts left h i e);
      maps_stay = maps_stay;
      names_to = λ k l. let t = to_page k l in ap (λ o. Vram (unwrap_or o 0)) t.at ∙ sym t.is_there;
      names_from = λ k l.
          let f = from k l in
          let e = long in
          let p = get_at (pages_of spans) k (omega (arith, l, e)) in
          ap (λ o. seen (pages.mapped_page (aperture d (unwrap_or o 0)))) p.1 ∙ ap (λ o. seen (pages.mapped_page o)) (mapped_here k p.0 f.frame p.1 f.at) ∙ sym f.is_there;
      undue = undue;
    }

    leaves : (k : ℕ) → k < length table → owner_of (bare d) (live_at x k) ≡ Ghost gn
    leaves k l =
        let f = from k l in
        ap (owner_of (bare d)) f.is_there
        ∙ owner_is (bare d) (held_once script (bare d) once) (Frame f.frame) (Ghost gn) (λ e. cc) (length c.ghosts, left, get_last c.ghosts left, refl, frame_listed table k f.frame f.at)

    pub up_viewed : Viewed script d owed_probes m bytes
    up_viewed = to_ghost_viewed script c owed_probes m bytes u.view u.seen u.good b x is mem.Vram n gs c.move_fence (λ k. target_at x k) moving gn leaves (length c.ghosts) left (get_last c.ghosts left) refl refl refl
