-- A buffer in VRAM gets a fresh frame in its table: none of its pages stands there yet.
use Rattle.std.proofs.Common.{◌≡◌, ℕ, ◌+◌, zero, suc, Bool, true, false, List, [], ◌∷◌, Some, refl, sym, subst, ◌∙◌, ap, arith, ◌⊎◌, inl, inr, ⊎_elim}
use Rattle.std.specs.Prelude.{slice_get, slice_set, nat_le, nat_lt, ◌&&◌, cond, drop, unwrap_or, if◌then◌else◌}
use Rattle.std.specs.List.{list_any}
use Rattle.std.proofs.lemmas.Bool.{cases_Bool, cases_eq}
use Rattle.std.proofs.lemmas.Bool.Decides.{nat_tests}
use Rattle.ttm_base.specs.declared.Mem.TheVariants as mem
use Rattle.ttm_base.specs.declared.BufId.{BufId}
use Rattle.ttm_base.specs.declared.Span.{Span}
use Rattle.ttm_base.specs.declared.Loc.{Loc}
use Rattle.ttm_base.specs.declared.Loc.TheVariants as loc
use Rattle.ttm_base.specs.Pages as pages
use Rattle.journal_model.specs.declared.script.Script.{Script}
use Rattle.journal_model.specs.declared.state.Core.{Core}
use Rattle.journal_model.specs.declared.state.Buffer.{Buffer}
use Rattle.journal_model.specs.declared.state.Targets.{Targets}
use Rattle.ttm_base.specs.declared.Fence.{Fence}
use Rattle.journal_model.specs.rules.State.{live_in, changed, new_buffer}
use Rattle.journal_model.specs.rules.Places.{aperture, page_in_table}
use Rattle.journal_model.specs.rules.Waits.{same_job, jobs_before_read, jobs_before_write}
use Rattle.journal_model.specs.rules.Stores.{is_there, within}
use Rattle.journal_model.specs.rules.Stores as stores
use Rattle.journal_model.specs.rules.PlainMemory.{Memory, OwedProbes}
use Rattle.journal_model.specs.rules.ApplyPages.{with_loc}
use Rattle.laws.proofs.law_owners.Law.{AreHeldOnce}
use Rattle.laws.specs.lemma_bytes_model.Memory.{Page, Nowhere, Vram, Frame, Slot, Own, same_page, touched}
use Rattle.laws.specs.lemma_bytes_model.View.{View, Good, Owner, Idle, Free, Live, Kept, Target, Ghost, Guarded}
use Rattle.laws.specs.lemma_bytes_model.Entries.{retitled, cleared}
use Rattle.laws.proofs.lemma_bytes_model.Actions.{same_page-refl, same_page-true}
use Rattle.laws.proofs.lemma_bytes_model.Cpu.{clear_keeps}
use Rattle.laws.proofs.lemma_bytes_model.Owners.{retitle_keeps}
use Rattle.laws.specs.law_holders.Holding.{seen, live_at, kept_in, target_at, buffer_at, Holds}
use Rattle.laws.proofs.law_holders.HeldOnce.{held_once}
use Rattle.laws.proofs.law_holders.Owner.{owner_of, owner_same}
use Rattle.laws.proofs.lemma_bytes_view.World.{Seen, bare}
use Rattle.laws.proofs.lemma_bytes_view.Kept.{keep_all, changing_kept, using_kept, ghostly_kept}
use Rattle.laws.proofs.lemma_bytes_view.PacketStep.{no_bytes, same_seen, within_same, within_cut}
use Rattle.laws.proofs.lemma_bytes_view.Apertures.{Spared, steps_same}
use Rattle.laws.proofs.lemma_bytes_view.Binds.{IsAt, at_is, live_either, all_kept, spared_but}
use Rattle.laws.proofs.lemma_bytes_view.Viewed.{Viewed}

get_other : {X : Type 0} (xs : List X) (i j : ℕ) (y : X) → (i ≡ j → ⊥) → slice_get (slice_set xs i y) j ≡ slice_get xs j
get_other [] i j y ne = refl
get_other (x ∷ xs) zero zero y ne = absurd (ne refl)
get_other (x ∷ xs) zero (suc j) y ne = refl
get_other (x ∷ xs) (suc i) zero y ne = refl
get_other (x ∷ xs) (suc i) (suc j) y ne = get_other xs i j y (λ e. ne (ap suc e))

-- at the place itself it is the new one, or what was there
get_same : {X : Type 0} (xs : List X) (i : ℕ) (y : X) → (slice_get (slice_set xs i y) i ≡ Some y) ⊎ (slice_get (slice_set xs i y) i ≡ slice_get xs i)
get_same [] i y = inr refl
get_same (x ∷ xs) zero y = inl refl
get_same (x ∷ xs) (suc i) y = get_same xs i y

module _ (script : Script) (c : Core) (owed_probes : OwedProbes) (m : Memory) (bytes : pages.PageBytes) (u : Viewed script c owed_probes m bytes)
    (b : BufId) (spans : List Span) (table : List Loc) (targets : Targets) (fences : List Fence)
    (is : IsAt c b (record { mem = mem.Vram; spans = spans; table = table; targets = targets; fences = fences })) (i f : ℕ)
    (fresh : unwrap_or (slice_get table i) loc.Zero ≡ loc.Zero)
    (once : AreHeldOnce script (record c { buffers = changed (with_loc i (loc.Frame f)) c.buffers b })) (idle : u.view.owner (Frame f) ≡ Idle) where
  abbrev v : View
  v = u.view

  abbrev s : Seen script c owed_probes m bytes u.view
  s = u.seen

  abbrev g : Good no_bytes u.view
  g = u.good

  abbrev x : Buffer
  x = record { mem = mem.Vram; spans = spans; table = table; targets = targets; fences = fences }

  abbrev after : Core
  after = record c { buffers = changed (with_loc i (loc.Frame f)) c.buffers b }

  abbrev new : View
  new = retitled v.fences (owner_of (bare after)) (cleared (Frame f) v)

  buffer_either : (e : ℕ) → (buffer_at after e ≡ buffer_at c e) ⊎ ((b.0 ≡ e) × (buffer_at after e ≡ with_loc i (loc.Frame f) x))
  buffer_either e = ⊎_elim (λ q. inl (ap (λ o. unwrap_or o (new_buffer 0)) q)) (λ q. inr (q.0, ap (λ o. unwrap_or o (new_buffer 0)) q.1)) (live_either (with_loc i (loc.Frame f)) c b x is e)

  was_is : (e : ℕ) → b.0 ≡ e → buffer_at c e ≡ x
  was_is e q = ap (buffer_at c) (sym q) ∙ at_is c b x is

  live_same : (e k : ℕ) → live_at (buffer_at after e) k ≡ live_at (buffer_at c e) k
  live_same e k = all_kept (λ y. live_at y k) (with_loc i (loc.Frame f)) c b x is refl e

  target_same : (e k : ℕ) → target_at (buffer_at after e) k ≡ target_at (buffer_at c e) k
  target_same e k = all_kept (λ y. target_at y k) (with_loc i (loc.Frame f)) c b x is refl e

  -- what the new table keeps was kept, or is the new frame
  kept_now : (k : ℕ) (p : Page) → (p ≡ Frame f → ⊥) → (p ≡ Nowhere → ⊥) → kept_in mem.Vram (with_loc i (loc.Frame f) x) k ≡ p → kept_in mem.Vram x k ≡ p
  kept_now k p nf nn h =
      ⊎_elim
      (λ e.
      ⊎_elim
      (λ q. absurd (nf (sym h ∙ ap (λ o. seen (page_in_table (unwrap_or o loc.Zero))) (ap (slice_get (slice_set table i (loc.Frame f))) (sym e) ∙ q))))
      (λ q. sym (ap (λ o. seen (page_in_table (unwrap_or o loc.Zero))) (ap (slice_get (slice_set table i (loc.Frame f))) (sym e) ∙ q ∙ ap (slice_get table) e)) ∙ h)
      (get_same table i (loc.Frame f)))
      (λ ne. sym (ap (λ o. seen (page_in_table (unwrap_or o loc.Zero))) (get_other table i k (loc.Frame f) ne)) ∙ h)
      (cases_eq i k)

  kept_then : (k : ℕ) (p : Page) → (p ≡ Nowhere → ⊥) → kept_in mem.Vram x k ≡ p → kept_in mem.Vram (with_loc i (loc.Frame f) x) k ≡ p
  kept_then k p nn h =
      ⊎_elim
      (λ e. absurd (nn (sym h ∙ ap (λ l. seen (page_in_table l)) (ap (λ j. unwrap_or (slice_get table j) loc.Zero) (sym e) ∙ fresh))))
      (λ ne. ap (λ o. seen (page_in_table (unwrap_or o loc.Zero))) (get_other table i k (loc.Frame f) ne) ∙ h)
      (cases_eq i k)

  back : (y : Page) → (y ≡ Frame f → ⊥) → (y ≡ Nowhere → ⊥) → (o : Owner) → Holds (bare after) y o → Holds (bare c) y o
  back y nf nn Idle h = h
  back y nf nn Free h = h
  back y nf nn (Live e k) h = sym (live_same e k) ∙ h
  back y nf nn (Kept e k) h =
      ⊎_elim
      (λ q. ap (λ (z : Buffer). kept_in z.mem z k) (sym q) ∙ h)
      (λ q. ap (λ (z : Buffer). kept_in z.mem z k) (was_is e q.0) ∙ kept_now k y nf nn (ap (λ (z : Buffer). kept_in z.mem z k) (sym q.1) ∙ h))
      (buffer_either e)
  back y nf nn (Target e k) h = sym (target_same e k) ∙ h
  back y nf nn (Ghost n) h = h

  forth : (y : Page) → (y ≡ Nowhere → ⊥) → (o : Owner) → Holds (bare c) y o → Holds (bare after) y o
  forth y nn Idle h = h
  forth y nn Free h = h
  forth y nn (Live e k) h = live_same e k ∙ h
  forth y nn (Kept e k) h =
      ⊎_elim
      (λ q. ap (λ (z : Buffer). kept_in z.mem z k) q ∙ h)
      (λ q. ap (λ (z : Buffer). kept_in z.mem z k) q.1 ∙ kept_then k y nn (ap (λ (z : Buffer). kept_in z.mem z k) (sym (was_is e q.0)) ∙ h))
      (buffer_either e)
  forth y nn (Target e k) h = target_same e k ∙ h
  forth y nn (Ghost n) h = h

  abbrev Fate : Page → Type 0
  Fate y = (owner_of (bare after) y ≡ v.owner y) ⊎ (((d k : ℕ) → v.owner y ≡ Live d k → ⊥) × ((j : ℕ) (w : Bool) → (v.done j ≡ true → ⊥) → Guarded v.fences (v.owner y) j w → Guarded v.fences (owner_of (bare after) y) j w))

  fate_at : (y : Page) → (y ≡ Nowhere → ⊥) → Fate y
  fate_at y nn =
      ⊎_elim
      (λ t.
      let one : Frame f ≡ y = same_page-true (Frame f) y t in
      let none : v.owner y ≡ Idle = ap v.owner (sym one) ∙ idle in
      inr (λ d k e. (let z : Idle ≡ Live d k = sym none ∙ e in cc), λ j w undone h. absurd (subst (λ o. Guarded v.fences o j w) none h)))
      (λ n.
      inl
      (owner_same (bare c) (bare after) (held_once script (bare after) once) y nn (forth y nn) (back y (apart y n) nn) ∙ sym (s.owner y)))
      (cases_Bool (same_page (Frame f) y))
    where
      apart : (y : Page) → same_page (Frame f) y ≡ false → y ≡ Frame f → ⊥
      apart y n e = clash (same_page (Frame f) y) (subst (λ z. same_page (Frame f) z ≡ true) (sym e) (same_page-refl (Frame f))) n
        where
          clash : (a : Bool) → a ≡ true → a ≡ false → ⊥
          clash a t f = cc

  fate : (y : Page) → Fate y
  fate Nowhere = inl (sym (s.owner Nowhere))
  fate (Vram n) = fate_at (Vram n) (λ e. cc)
  fate (Frame n) = fate_at (Frame n) (λ e. cc)
  fate (Slot n) = fate_at (Slot n) (λ e. cc)
  fate (Own d k) = fate_at (Own d k) (λ e. cc)

  fill_good : Good no_bytes (retitled v.fences (owner_of (bare after)) (cleared (Frame f) v))
  fill_good = retitle_keeps no_bytes (cleared (Frame f) v) (clear_keeps no_bytes v g (Frame f) idle (λ e. cc)) v.fences refl (owner_of (bare after)) (λ o j w h. h) fate refl

  bytes_after : (p : pages.Page) (o : ℕ) → (cleared (Frame f) v).stores (seen p) o ≡ within script.sizes (stores.with_page_bytes (pages.frame f) (λ o. 0) bytes) p o
  bytes_after p o = ap (λ q. cond q (v.stores Nowhere) (v.stores (seen p)) o) (same_seen (pages.frame f) p) ∙ by (pages.same_page p (pages.frame f))
    where
      inner : (o : ℕ) → nat_lt o 4096 ≡ true → (true && (nat_le 0 o && nat_lt o (0 + 4096))) ≡ true
      inner o e = grind (arith, nat_tests)

      filled : (t q : Bool) → nat_lt o 4096 ≡ q → ◌≡◌ {A = ℕ} 0 (if t && q then (if true && nat_le 0 o && nat_lt o (0 + 4096) then 0 else bytes p o) else 0)
      filled true true e = sym (ap (λ r. if r then 0 else bytes p o) (inner o e))
      filled true false e = refl
      filled false q e = refl

      by : (q : Bool) → cond q (v.stores Nowhere) (v.stores (seen p)) o
          ≡ (if is_there script.sizes p && nat_lt o 4096 then (if q && nat_le 0 o && nat_lt o (0 + 4096) then 0 else bytes p o) else 0)
      by true = ap (λ (z : ℕ → ℕ). z o) g.zero ∙ filled (is_there script.sizes p) (nat_lt o 4096) refl
      by false = s.stores p o ∙ within_same script.sizes v.stores bytes s.stores s.cut p o

  fill_spares : (j p : ℕ) → Spared (aperture c) (aperture after) (touched (v.left j)) p
  fill_spares j p =
      spared_but script (with_loc i (loc.Frame f)) c b x is once v g j
      (λ q h w e.
      let both : Some x ≡ Some w.buffer = sym is.live ∙ ap (λ n. live_in c.buffers (record { 0 = n })) e ∙ w.live in
      let one : x ≡ w.buffer = cc in
      let clash : mem.Vram ≡ mem.Tt = ap (λ (y : Buffer). y.mem) one ∙ w.mem in
      cc)
      p

  fill_seen : Seen script after owed_probes m (within script.sizes (stores.with_page_bytes (pages.frame f) (λ o. 0) bytes)) (retitled v.fences (owner_of (bare after)) (cleared (Frame f) v))
  fill_seen = record {
    count = s.count;
    left = λ j y e.
        let was = s.left j y e in
        was ∙ sym (steps_same (aperture c) (aperture after) (owed_probes y.id) y.ran (drop y.ran y.packets) (λ p. subst (λ t. Spared (aperture c) (aperture after) (touched t) p) was (fill_spares j p)));
    begun = s.begun;
    done = s.done;
    prior = s.prior;
    strong = λ e j h.
        changing_kept c after (keep_all c.jobs) e j
        (λ n w. ap (list_any (same_job n)) (all_kept jobs_before_read (with_loc i (loc.Frame f)) c b x is refl e) ∙ w)
        (s.strong e j h);
    shared = λ e j h.
        using_kept c after (keep_all c.jobs) e j
        (λ n w. ap (list_any (same_job n)) (all_kept jobs_before_write (with_loc i (loc.Frame f)) c b x is refl e) ∙ w)
        (s.shared e j h);
    ghost = λ n j h. ghostly_kept c after (keep_all c.jobs) n j (λ k y w. w) (s.ghost n j h);
    mover = λ j h. let old = s.mover j h in record { job = old.job; at = old.at; is = old.is };
    place = λ e k. s.place e k ∙ sym (live_same e k);
    owner = λ y. refl;
    there = s.there;
    stores = bytes_after;
    cut = within_cut script.sizes (stores.with_page_bytes (pages.frame f) (λ o. 0) bytes);
    plain = s.plain;
  }

  pub fill_viewed : Viewed script (record c { buffers = changed (with_loc i (loc.Frame f)) c.buffers b }) owed_probes m (within script.sizes (stores.with_page_bytes (pages.frame f) (λ o. 0) bytes))
  fill_viewed = record { view = retitled v.fences (owner_of (bare after)) (cleared (Frame f) v); good = fill_good; seen = fill_seen }
