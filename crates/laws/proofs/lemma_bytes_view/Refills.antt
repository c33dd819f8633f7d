-- A page of a buffer in SYSTEM gets a frame or a slot at once: fresh, swapped in, or swapped out.
use Rattle.std.proofs.Common.{◌≡◌, ℕ, ◌+◌, ◌-◌, ◌<◌, zero, suc, Bool, true, false, List, [], ◌∷◌, length, Option, Some, refl, sym, subst, ◌∙◌, ap, ap₂, arith, ◌⊎◌, inl, inr, ⊎_elim}
use Rattle.std.specs.Prelude.{slice_get, slice_set, nat_eq, nat_le, nat_lt, ◌&&◌, cond, drop, option_map, option_and_then, unwrap_or, if◌then◌else◌}
use Rattle.std.specs.List.{list_any}
use Rattle.std.proofs.lemmas.Bool.{cases_eq, eqb-true, eq-eqb, and_parts}
use Rattle.std.proofs.lemmas.Bool.Decides.{nat_tests}
use Rattle.ttm_base.specs.declared.Mem.TheVariants as mem
use Rattle.ttm_base.specs.declared.BufId.{BufId}
use Rattle.ttm_base.specs.declared.Loc.{Loc}
use Rattle.ttm_base.specs.declared.Loc.TheVariants as loc
use Rattle.ttm_base.specs.Pages as pages
use Rattle.journal_model.specs.declared.script.Script.{Script}
use Rattle.journal_model.specs.declared.state.Core.{Core}
use Rattle.journal_model.specs.declared.state.Buffer.{Buffer}
use Rattle.journal_model.specs.rules.State.{live_in, changed, new_buffer}
use Rattle.journal_model.specs.rules.Places.{aperture, place_of, page_at, page_in_table, loc_of}
use Rattle.journal_model.specs.rules.Waits.{same_job, jobs_before_read, jobs_before_write}
use Rattle.journal_model.specs.rules.Stores.{is_there, within}
use Rattle.journal_model.specs.rules.Stores as stores
use Rattle.journal_model.specs.rules.PlainMemory.{Memory, OwedProbes}
use Rattle.journal_model.specs.rules.ApplyPages.{with_loc}
use Rattle.laws.proofs.law_owners.Law.{AreHeldOnce}
use Rattle.laws.specs.lemma_bytes_model.Memory.{Page, Nowhere, Vram, Frame, Slot, Own, same_page, touched}
use Rattle.laws.specs.lemma_bytes_model.View.{View, Good, Owner, Idle, Free, Live, Kept, Target, Ghost}
use Rattle.laws.specs.lemma_bytes_model.Entries.{relocated}
use Rattle.laws.proofs.lemma_bytes_model.Actions.{same_page-refl, same_page-true}
use Rattle.laws.proofs.lemma_bytes_model.Cpu.{relocate_keeps}
use Rattle.laws.specs.law_holders.Holding.{seen, live_at, kept_in, target_at, buffer_at, Holds, HeldOnce}
use Rattle.laws.proofs.law_holders.HeldOnce.{held_once}
use Rattle.laws.proofs.law_holders.Owner.{owner_of, owner_is, owner_none, owner_same, unheld}
use Rattle.laws.proofs.lemma_bytes_view.World.{Seen, bare}
use Rattle.laws.proofs.lemma_bytes_view.Kept.{keep_all, changing_kept, using_kept, ghostly_kept}
use Rattle.laws.proofs.lemma_bytes_view.PacketStep.{no_bytes, same_seen, same-true, within_same, within_cut}
use Rattle.laws.proofs.lemma_bytes_view.Apertures.{Spared, steps_same}
use Rattle.laws.proofs.lemma_bytes_view.Binds.{IsAt, at_is, live_either, all_kept, spared_but, stands_by_table, keeps_none, not_vram}

-- ---- another location in the table

get_set : {X : Type 0} (xs : List X) (i : ℕ) (y : X) → i < length xs → slice_get (slice_set xs i y) i ≡ Some y
get_set [] i y h = absurd (omega (arith, h))
get_set (x ∷ xs) zero y h = refl
get_set (x ∷ xs) (suc i) y h = get_set xs i y (omega (arith, h))

get_other : {X : Type 0} (xs : List X) (i j : ℕ) (y : X) → (i ≡ j → ⊥) → slice_get (slice_set xs i y) j ≡ slice_get xs j
get_other [] i j y ne = refl
get_other (x ∷ xs) zero zero y ne = absurd (ne refl)
get_other (x ∷ xs) zero (suc j) y ne = refl
get_other (x ∷ xs) (suc i) zero y ne = refl
get_other (x ∷ xs) (suc i) (suc j) y ne = get_other xs i j y (λ e. ne (ap suc e))

-- a page of a table is none of VRAM
table_unheld : (l : Loc) (x : Page) → seen (page_in_table l) ≡ x → unheld x ≡ Idle
table_unheld loc.Zero x e = ap unheld (sym e)
table_unheld (loc.Frame f) x e = ap unheld (sym e)
table_unheld (loc.Slot k) x e = ap unheld (sym e)

module _ (script : Script) (c : Core) (owed_probes : OwedProbes) (m : Memory) (bytes : pages.PageBytes) (v : View) (s : Seen script c owed_probes m bytes v) (g : Good no_bytes v)
    (b : BufId) (x : Buffer) (is : IsAt c b x) (i : ℕ) (l : Loc) (system : x.mem ≡ mem.System) (inside : i < length x.table)
    (before : HeldOnce (bare c)) (once : AreHeldOnce script (record c { buffers = changed (with_loc i l) c.buffers b }))
    (idle : v.owner (seen (page_in_table l)) ≡ Idle) (some : Nowhere ≡ seen (page_in_table l) → ⊥) (there : is_there script.sizes (page_in_table l) ≡ true)
    (untouched : (j : ℕ) → touched (v.left j) (v.place b.0 i) ≡ false) where
  abbrev after : Core
  after = record c { buffers = changed (with_loc i l) c.buffers b }

  abbrev new : Page
  new = seen (page_in_table l)

  pub refill_good : Good no_bytes (relocated b.0 i (seen (page_in_table l)) v)
  refill_good = relocate_keeps no_bytes v g (seen (page_in_table l)) idle some b.0 i untouched

  -- ---- places

  here_now : live_at (with_loc i l x) i ≡ seen (page_in_table l)
  here_now =
      ap seen (stands_by_table (with_loc i l x) i (not_vram mem.System x system (λ e. cc)))
      ∙ ap (λ o. seen (page_in_table (unwrap_or o loc.Zero))) (get_set x.table i l inside)

  as_before : (k : ℕ) → (i ≡ k → ⊥) → page_at (with_loc i l x) k ≡ page_at x k
  as_before k ne =
      stands_by_table (with_loc i l x) k (not_vram mem.System x system (λ e. cc))
      ∙ ap (λ o. page_in_table (unwrap_or o loc.Zero)) (get_other x.table i k l ne)
      ∙ sym (stands_by_table x k (not_vram mem.System x system (λ e. cc)))

  was_here : v.place b.0 i ≡ live_at x i
  was_here = s.place b.0 i ∙ ap (λ y. seen (page_at y i)) (at_is c b x is)

  buffer_either : (e : ℕ) → (buffer_at (record c { buffers = changed (with_loc i l) c.buffers b }) e ≡ buffer_at c e) ⊎ ((b.0 ≡ e) × (buffer_at (record c { buffers = changed (with_loc i l) c.buffers b }) e ≡ with_loc i l x))
  buffer_either e = ⊎_elim (λ q. inl (ap (λ o. unwrap_or o (new_buffer 0)) q)) (λ q. inr (q.0, ap (λ o. unwrap_or o (new_buffer 0)) q.1)) (live_either (with_loc i l) c b x is e)

  -- each page but the one stands where it stood
  others_stay : (e k : ℕ) → ((b.0 ≡ e) × (i ≡ k) → ⊥) → page_at (buffer_at (record c { buffers = changed (with_loc i l) c.buffers b }) e) k ≡ page_at (buffer_at c e) k
  others_stay e k ne =
      ⊎_elim
      (λ q. ap (λ y. page_at y k) q)
      (λ q. ap (λ y. page_at y k) q.1 ∙ as_before k (λ r. ne (q.0, r)) ∙ ap (λ y. page_at y k) (sym (at_is c b x is) ∙ ap (buffer_at c) q.0))
      (buffer_either e)

  it_moves : live_at (buffer_at (record c { buffers = changed (with_loc i l) c.buffers b }) b.0) i ≡ seen (page_in_table l)
  it_moves =
      ⊎_elim
      (λ q. ap (λ y. live_at y i) (changed_is q))
      (λ q. ap (λ y. live_at y i) q.1)
      (buffer_either b.0)
      ∙ here_now
    where
      changed_is : buffer_at (record c { buffers = changed (with_loc i l) c.buffers b }) b.0 ≡ buffer_at c b.0 → buffer_at (record c { buffers = changed (with_loc i l) c.buffers b }) b.0 ≡ with_loc i l x
      changed_is q = ap (λ o. unwrap_or o (new_buffer 0)) (set_here c.buffers b.0 is.live)
        where
          set_here : (bs : List (Option Buffer)) (k : ℕ) → option_and_then (λ y. y) (slice_get bs k) ≡ Some x →
              option_and_then (λ y. y) (slice_get (slice_set bs k (option_map (with_loc i l) (option_and_then (λ y. y) (slice_get bs k)))) k) ≡ Some (with_loc i l x)
          set_here [] k e = cc
          set_here (o ∷ bs) zero e = ap (option_map (with_loc i l)) e
          set_here (o ∷ bs) (suc k) e = set_here bs k e

  place_after : (e k : ℕ) → (relocated b.0 i (seen (page_in_table l)) v).place e k ≡ seen (place_of (record c { buffers = changed (with_loc i l) c.buffers b }) (record { 0 = e }) k)
  place_after e k = by (nat_eq b.0 e && nat_eq i k) refl
    where
      by : (q : Bool) → (nat_eq b.0 e && nat_eq i k) ≡ q → cond q (seen (page_in_table l)) (v.place e k) ≡ seen (place_of (record c { buffers = changed (with_loc i l) c.buffers b }) (record { 0 = e }) k)
      by true t =
          let parts = and_parts (nat_eq b.0 e) (nat_eq i k) t in
          sym it_moves ∙ ap₂ (λ d j. live_at (buffer_at (record c { buffers = changed (with_loc i l) c.buffers b }) d) j) (eqb-true b.0 e parts.0) (eqb-true i k parts.1)
      by false t = s.place e k ∙ ap seen (sym (others_stay e k (λ q. no (nat_eq b.0 e) (nat_eq i k) (eq-eqb b.0 e q.0) (eq-eqb i k q.1) t)))
        where
          no : (p q : Bool) → p ≡ true → q ≡ true → (p && q) ≡ false → ⊥
          no true q e f h = cc
          no false q e f h = cc

  -- ---- owners

  kept_same : (e k : ℕ) → kept_in (buffer_at (record c { buffers = changed (with_loc i l) c.buffers b }) e).mem (buffer_at (record c { buffers = changed (with_loc i l) c.buffers b }) e) k ≡ kept_in (buffer_at c e).mem (buffer_at c e) k
  kept_same e k =
      all_kept (λ y. kept_in y.mem y k) (with_loc i l) c b x is
      (keeps_none (with_loc i l x) k (not_vram mem.System x system (λ e. cc)) ∙ sym (keeps_none x k (not_vram mem.System x system (λ e. cc)))) e

  target_same : (e k : ℕ) → target_at (buffer_at (record c { buffers = changed (with_loc i l) c.buffers b }) e) k ≡ target_at (buffer_at c e) k
  target_same e k = all_kept (λ y. target_at y k) (with_loc i l) c b x is refl e

  -- who holds another page than the new one held it, and who held another than the old one holds it
  back : (y : Page) → (y ≡ seen (page_in_table l) → ⊥) → (o : Owner) → Holds (bare (record c { buffers = changed (with_loc i l) c.buffers b })) y o → Holds (bare c) y o
  back y ne Idle h = h
  back y ne Free h = h
  back y ne (Live e k) h =
      ⊎_elim
      (λ q. ⊎_elim (λ r. absurd (ne (sym h ∙ ap₂ (λ d j. live_at (buffer_at (record c { buffers = changed (with_loc i l) c.buffers b }) d) j) (sym q) (sym r) ∙ it_moves))) (λ r. ap seen (sym (others_stay e k (λ z. r z.1))) ∙ h) (cases_eq i k))
      (λ q. ap seen (sym (others_stay e k (λ z. q z.0))) ∙ h)
      (cases_eq b.0 e)
  back y ne (Kept e k) h = sym (kept_same e k) ∙ h
  back y ne (Target e k) h = sym (target_same e k) ∙ h
  back y ne (Ghost n) h = h

  forth : (y : Page) → (live_at x i ≡ y → ⊥) → (o : Owner) → Holds (bare c) y o → Holds (bare (record c { buffers = changed (with_loc i l) c.buffers b })) y o
  forth y ne Idle h = h
  forth y ne Free h = h
  forth y ne (Live e k) h =
      ap seen (others_stay e k (λ z. ne (ap (λ w. live_at w i) (sym (at_is c b x is)) ∙ ap₂ (λ d j. live_at (buffer_at c d) j) z.0 z.1 ∙ h))) ∙ h
  forth y ne (Kept e k) h = kept_same e k ∙ h
  forth y ne (Target e k) h = target_same e k ∙ h
  forth y ne (Ghost n) h = h

  -- nobody holds the old page
  left_none : (y : Page) → (y ≡ Nowhere → ⊥) → live_at x i ≡ y → (y ≡ seen (page_in_table l) → ⊥) → (o : Owner) → Holds (bare (record c { buffers = changed (with_loc i l) c.buffers b })) y o → ⊥
  left_none y n e ne o h =
      let held = before y o (Live b.0 i) n (back y ne o h) (ap (λ w. live_at w i) (at_is c b x is) ∙ e) in
      let again : live_at (buffer_at (record c { buffers = changed (with_loc i l) c.buffers b }) b.0) i ≡ y = subst (Holds (bare (record c { buffers = changed (with_loc i l) c.buffers b })) y) held h in
      ne (sym again ∙ it_moves)

  owner_after : (y : Page) → (relocated b.0 i (seen (page_in_table l)) v).owner y ≡ owner_of (bare (record c { buffers = changed (with_loc i l) c.buffers b })) y
  owner_after y = by (same_page (seen (page_in_table l)) y) (same_page (v.place b.0 i) y) refl refl
    where
      there_now : HeldOnce (bare (record c { buffers = changed (with_loc i l) c.buffers b }))
      there_now = held_once script (bare (record c { buffers = changed (with_loc i l) c.buffers b })) once

      apart : (y : Page) → same_page (seen (page_in_table l)) y ≡ false → y ≡ seen (page_in_table l) → ⊥
      apart y f e = clash (same_page (seen (page_in_table l)) y) (subst (λ z. same_page (seen (page_in_table l)) z ≡ true) (sym e) (same_page-refl (seen (page_in_table l)))) f
        where
          clash : (a : Bool) → a ≡ true → a ≡ false → ⊥
          clash a t f = cc

      still : (y : Page) → (y ≡ Nowhere → ⊥) → same_page (seen (page_in_table l)) y ≡ false → same_page (v.place b.0 i) y ≡ false → v.owner y ≡ owner_of (bare (record c { buffers = changed (with_loc i l) c.buffers b })) y
      still y n f h =
          s.owner y
          ∙ sym (owner_same (bare c) (bare (record c { buffers = changed (with_loc i l) c.buffers b })) there_now y n
          (forth y (λ e. clash (same_page (v.place b.0 i) y) (subst (λ z. same_page (v.place b.0 i) z ≡ true) (was_here ∙ e) (same_page-refl (v.place b.0 i))) h))
          (back y (apart y f)))
        where
          clash : (a : Bool) → a ≡ true → a ≡ false → ⊥
          clash a t f = cc

      by_page : (y : Page) → same_page (seen (page_in_table l)) y ≡ false → same_page (v.place b.0 i) y ≡ false → v.owner y ≡ owner_of (bare (record c { buffers = changed (with_loc i l) c.buffers b })) y
      by_page Nowhere f h = s.owner Nowhere
      by_page (Vram n) f h = still (Vram n) (λ e. cc) f h
      by_page (Frame n) f h = still (Frame n) (λ e. cc) f h
      by_page (Slot n) f h = still (Slot n) (λ e. cc) f h
      by_page (Own d k) f h = still (Own d k) (λ e. cc) f h

      old_gone : (y : Page) → same_page (seen (page_in_table l)) y ≡ false → live_at x i ≡ y → Idle ≡ owner_of (bare (record c { buffers = changed (with_loc i l) c.buffers b })) y
      old_gone Nowhere f e = refl
      old_gone (Vram n) f e = absurd (not_there (loc_of x i) (sym (ap seen (stands_by_table x i (not_vram mem.System x system (λ e. cc)))) ∙ e))
        where
          not_there : (q : Loc) → seen (page_in_table q) ≡ Vram n → ⊥
          not_there loc.Zero e = cc
          not_there (loc.Frame f) e = cc
          not_there (loc.Slot k) e = cc
      old_gone (Frame n) f e = sym (owner_none (bare (record c { buffers = changed (with_loc i l) c.buffers b })) (Frame n) (λ z. cc) (left_none (Frame n) (λ z. cc) e (apart (Frame n) f)))
      old_gone (Slot n) f e = sym (owner_none (bare (record c { buffers = changed (with_loc i l) c.buffers b })) (Slot n) (λ z. cc) (left_none (Slot n) (λ z. cc) e (apart (Slot n) f)))
      old_gone (Own d k) f e = sym (owner_none (bare (record c { buffers = changed (with_loc i l) c.buffers b })) (Own d k) (λ z. cc) (left_none (Own d k) (λ z. cc) e (apart (Own d k) f)))

      by : (p q : Bool) → same_page (seen (page_in_table l)) y ≡ p → same_page (v.place b.0 i) y ≡ q → cond p (Live b.0 i) (cond q Idle (v.owner y)) ≡ owner_of (bare (record c { buffers = changed (with_loc i l) c.buffers b })) y
      by true q e f =
          let one : seen (page_in_table l) ≡ y = same_page-true (seen (page_in_table l)) y e in
          sym (owner_is (bare (record c { buffers = changed (with_loc i l) c.buffers b })) there_now y (Live b.0 i) (λ z. some (sym z ∙ sym one)) (it_moves ∙ one))
      by false true e f = old_gone y e (sym was_here ∙ same_page-true (v.place b.0 i) y f)
      by false false e f = by_page y e f

  -- ---- bytes

  bytes_after : (p : pages.Page) (o : ℕ) → (relocated b.0 i (seen (page_in_table l)) v).stores (seen p) o ≡ within script.sizes (stores.with_page_bytes (page_in_table l) (bytes (page_at x i)) bytes) p o
  bytes_after p o = ap (λ q. cond q (v.stores (v.place b.0 i)) (v.stores (seen p)) o) (same_seen (page_in_table l) p) ∙ by (pages.same_page p (page_in_table l)) refl
    where
      old : (o : ℕ) → v.stores (v.place b.0 i) o ≡ bytes (page_at x i) o
      old o = ap (λ q. v.stores q o) was_here ∙ s.stores (page_at x i) o

      long : (o : ℕ) → nat_lt o 4096 ≡ false → bytes (page_at x i) o ≡ 0
      long o h = s.cut (page_at x i) o (both (is_there script.sizes (page_at x i)) (nat_lt o 4096) h)
        where
          both : (a b : Bool) → b ≡ false → (a && b) ≡ false
          both true b h = h
          both false b h = refl

      filled : (t q : Bool) → nat_lt o 4096 ≡ q → t ≡ true → bytes (page_at x i) o ≡ (if t && q then (if true && nat_le 0 o && nat_lt o (0 + 4096) then bytes (page_at x i) (o - 0) else bytes p o) else 0)
      filled true true e t = ap (bytes (page_at x i)) (let z : o ≡ o - 0 = omega arith in z) ∙ sym (ap (λ r. if r then bytes (page_at x i) (o - 0) else bytes p o) (inner o e))
        where
          inner : (o : ℕ) → nat_lt o 4096 ≡ true → (true && (nat_le 0 o && nat_lt o (0 + 4096))) ≡ true
          inner o e = grind (arith, nat_tests)
      filled true false e t = long o e
      filled false q e t = cc

      by : (q : Bool) → pages.same_page p (page_in_table l) ≡ q → cond q (v.stores (v.place b.0 i)) (v.stores (seen p)) o
          ≡ (if is_there script.sizes p && nat_lt o 4096 then (if q && nat_le 0 o && nat_lt o (0 + 4096) then bytes (page_at x i) (o - 0) else bytes p o) else 0)
      by true e = old o ∙ filled (is_there script.sizes p) (nat_lt o 4096) refl (subst (λ q. is_there script.sizes q ≡ true) (sym (same-true p (page_in_table l) e)) there)
      by false e = s.stores p o ∙ within_same script.sizes v.stores bytes s.stores s.cut p o

  refill_spares : (j p : ℕ) → Spared (aperture c) (aperture (record c { buffers = changed (with_loc i l) c.buffers b })) (touched (v.left j)) p
  refill_spares j p =
      spared_but script (with_loc i l) c b x is once v g j
      (λ q f w e.
      let both : Some x ≡ Some w.buffer = sym is.live ∙ ap (λ n. live_in c.buffers (record { 0 = n })) e ∙ w.live in
      let one : x ≡ w.buffer = cc in
      let clash : mem.System ≡ mem.Tt = sym system ∙ ap (λ (y : Buffer). y.mem) one ∙ w.mem in
      cc)
      p

  pub refill_seen : Seen script (record c { buffers = changed (with_loc i l) c.buffers b }) owed_probes m (within script.sizes (stores.with_page_bytes (page_in_table l) (bytes (page_at x i)) bytes)) (relocated b.0 i (seen (page_in_table l)) v)
  refill_seen = record {
    count = s.count;
    left = λ j y e.
        let was = s.left j y e in
        was
        ∙ sym (steps_same (aperture c) (aperture (record c { buffers = changed (with_loc i l) c.buffers b })) (owed_probes y.id) y.ran (drop y.ran y.packets)
        (λ p. subst (λ t. Spared (aperture c) (aperture (record c { buffers = changed (with_loc i l) c.buffers b })) (touched t) p) was (refill_spares j p)));
    begun = s.begun;
    done = s.done;
    prior = s.prior;
    strong = λ e j h.
        changing_kept c (record c { buffers = changed (with_loc i l) c.buffers b }) (keep_all c.jobs) e j
        (λ n w. ap (list_any (same_job n)) (all_kept jobs_before_read (with_loc i l) c b x is refl e) ∙ w)
        (s.strong e j h);
    shared = λ e j h.
        using_kept c (record c { buffers = changed (with_loc i l) c.buffers b }) (keep_all c.jobs) e j
        (λ n w. ap (list_any (same_job n)) (all_kept jobs_before_write (with_loc i l) c b x is refl e) ∙ w)
        (s.shared e j h);
    ghost = λ n j h. ghostly_kept c (record c { buffers = changed (with_loc i l) c.buffers b }) (keep_all c.jobs) n j (λ k y w. w) (s.ghost n j h);
    mover = λ j h. let old = s.mover j h in record { job = old.job; at = old.at; is = old.is };
    place = place_after;
    owner = owner_after;
    there = s.there;
    stores = bytes_after;
    cut = within_cut script.sizes (stores.with_page_bytes (page_in_table l) (bytes (page_at x i)) bytes);
    plain = s.plain;
  }
