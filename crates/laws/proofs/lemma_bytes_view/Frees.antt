-- An idle buffer is freed, and leaves no ghost: nobody waits for its jobs any more.
use Rattle.std.proofs.Common.{◌≡◌, ℕ, ◌+◌, ◌*◌, zero, suc, Bool, true, false, List, [], ◌∷◌, Option, Some, None, refl, sym, subst, ◌∙◌, ap, ap₂, ◌⊎◌, inl, inr, ⊎_elim}
use Rattle.std.specs.Prelude.{slice_get, slice_set, drop, nat_lt, nat_eq, not, cond, ◌&&◌, ◌||◌, option_and_then, unwrap_or, if◌then◌else◌}
use Rattle.std.specs.List.{list_any}
use Rattle.std.proofs.lemmas.Bool.{cases_eq, eqb-true, eq-eqb, ne_eqb, and_parts}
use Rattle.ttm_base.specs.declared.Mem.TheVariants as mem
use Rattle.ttm_base.specs.declared.BufId.{BufId}
use Rattle.ttm_base.specs.declared.Loc.TheVariants as loc
use Rattle.ttm_base.specs.Pages as pages
use Rattle.journal_model.specs.declared.script.Script.{Script}
use Rattle.journal_model.specs.declared.state.Core.{Core}
use Rattle.journal_model.specs.declared.state.Buffer.{Buffer}
use Rattle.journal_model.specs.rules.State.{live_in, new_buffer, target_spans}
use Rattle.journal_model.specs.rules.Places.{pages_of, aperture, place_of, page_at, page_in_table}
use Rattle.journal_model.specs.rules.Waits.{same_job, waited_for, jobs_before_read, jobs_before_write}
use Rattle.journal_model.specs.rules.PlainMemory.{Memory, OwedProbes, with_zeros}
use Rattle.laws.proofs.law_state.Lists.{set_at}
use Rattle.laws.proofs.law_owners.Law.{AreHeldOnce}
use Rattle.laws.specs.lemma_bytes_model.Memory.{Page, Nowhere, Frame, Own, touched, written}
use Rattle.laws.specs.lemma_bytes_model.View.{View, Good, Fences, Owner, Idle, Free, Live, Kept, Target, Ghost, Guarded, is_fence}
use Rattle.laws.specs.lemma_bytes_model.Entries.{freed, Fate}
use Rattle.laws.proofs.lemma_bytes_model.Cpu.{done_untouched}
use Rattle.laws.proofs.lemma_bytes_model.Owners.{free_keeps, reown_keeps}
use Rattle.laws.specs.law_holders.Holding.{seen, live_at, kept_in, target_at, buffer_at, Holds, HeldOnce}
use Rattle.laws.specs.law_holders.Maps.{Maps}
use Rattle.laws.proofs.law_holders.HeldOnce.{held_once, in_vram_is}
use Rattle.laws.proofs.law_holders.Owner.{owner_of, owner_is, owner_none, owning, unheld, by_place, unheld-live, unheld-target, idle-live, idle-target}
use Rattle.laws.proofs.law_holders.Mapped.{aperture_maps, maps_aperture}
use Rattle.laws.proofs.lemma_bytes_view.World.{Seen, bare}
use Rattle.laws.proofs.lemma_bytes_view.PacketStep.{no_bytes}
use Rattle.laws.proofs.lemma_bytes_view.Apertures.{Spared, steps_same, unmapped_spared}
use Rattle.laws.proofs.lemma_bytes_view.Binds.{IsAt, at_is, idle_done, stands_by_table, not_vram}
use Rattle.laws.proofs.lemma_bytes_view.News.{fresh_page}

-- ---- the fences of a dead buffer are nobody's

abbrev pub without : ℕ → Fences → Fences
without b f = record f { strong = λ e j. f.strong e j && not (nat_eq b e); shared = λ e j. f.shared e j && not (nat_eq b e) }

still : (a c w q : Bool) → q ≡ false → (a || (not w && c)) ≡ true → ((a && not q) || (not w && (c && not q))) ≡ true
still true c w false e h = refl
still false true false false e h = refl
still false true true false e h = cc
still false false false false e h = cc
still false false true false e h = cc
still a c w true e h = cc

guard_without : (f : Fences) (b : ℕ) (o : Owner) (i : ℕ) (w : Bool) → ((k : ℕ) → o ≡ Live b k → ⊥) → ((k : ℕ) → o ≡ Target b k → ⊥) → Guarded f o i w → Guarded (without b f) o i w
guard_without f b Idle i w l t h = h
guard_without f b Free i w l t h = h
guard_without f b (Kept e k) i w l t h = h
guard_without f b (Ghost n) i w l t h = h
guard_without f b (Live e k) i w l t h = (h.0, still (f.strong e h.0) (f.shared e h.0) w (nat_eq b e) (ne_eqb b e (λ q. l k (ap (λ d. Live d k) (sym q)))) h.1, h.2)
guard_without f b (Target e k) i w l t h =
    ((h.0.0, ap₂ (λ a q. a && not q) h.0.1 (ne_eqb b e (λ q. t k (ap (λ d. Target d k) (sym q)))), h.0.2), h.1)

pub without_keeps : (w : View) (b : ℕ) → Good no_bytes w → ((x : Page) (k : ℕ) → w.owner x ≡ Live b k → ⊥) → ((x : Page) (k : ℕ) → w.owner x ≡ Target b k → ⊥) → Good no_bytes (record w { fences = without b w.fences })
without_keeps w b g l t =
    reown_keeps no_bytes w g (without b w.fences) refl w.owner w.place w.plain
    (λ i x h. guard_without w.fences b (w.owner x) i (written (w.left i) x) (l x) (t x) (g.guard i x h))
    g.nowhere g.placed g.value

-- ---- the buffer is gone

set_none : (bs : List (Option Buffer)) (k : ℕ) → option_and_then (λ y. y) (slice_get (slice_set bs k None) k) ≡ None
set_none [] k = refl
set_none (o ∷ bs) zero = refl
set_none (o ∷ bs) (suc k) = set_none bs k

module _ (script : Script) (c : Core) (owed_probes : OwedProbes) (m : Memory) (bytes : pages.PageBytes) (v : View) (s : Seen script c owed_probes m bytes v) (g : Good no_bytes v)
    (b : BufId) (x : Buffer) (is : IsAt c b x) (idle : waited_for c (jobs_before_write x) ≡ None) (before : HeldOnce (bare c))
    (once : AreHeldOnce script (record c { buffers = slice_set c.buffers b.0 None })) where
  abbrev after : Core
  after = record c { buffers = slice_set c.buffers b.0 None }

  dead : (e : ℕ) → b.0 ≡ e → live_in (slice_set c.buffers b.0 None) (record { 0 = e }) ≡ None
  dead e q = subst (λ k. live_in (slice_set c.buffers b.0 None) (record { 0 = k }) ≡ None) q (set_none c.buffers b.0)

  dead_is : (e : ℕ) → b.0 ≡ e → buffer_at (record c { buffers = slice_set c.buffers b.0 None }) e ≡ new_buffer 0
  dead_is e q = ap (λ o. unwrap_or o (new_buffer 0)) (dead e q)

  other_live : (e : ℕ) → (b.0 ≡ e → ⊥) → live_in (slice_set c.buffers b.0 None) (record { 0 = e }) ≡ live_in c.buffers (record { 0 = e })
  other_live e ne = ⊎_elim (λ q. ap (option_and_then (λ y. y)) q) (λ q. absurd (ne q.0)) (set_at c.buffers b.0 e None)

  other_is : (e : ℕ) → (b.0 ≡ e → ⊥) → buffer_at (record c { buffers = slice_set c.buffers b.0 None }) e ≡ buffer_at c e
  other_is e ne = ap (λ o. unwrap_or o (new_buffer 0)) (other_live e ne)

  jobs_done : (j : ℕ) → is_fence v.fences b.0 false j ≡ true → v.done j ≡ true
  jobs_done = idle_done script c owed_probes m bytes v s b.0 (subst (λ y. waited_for c (jobs_before_write y) ≡ None) (sym (at_is c b x is)) idle)

  -- ---- owners

  back : (y : Page) → (y ≡ Nowhere → ⊥) → (o : Owner) → Holds (bare (record c { buffers = slice_set c.buffers b.0 None })) y o → Holds (bare c) y o
  back y ne Idle h = h
  back y ne Free h = h
  back y ne (Live e k) h =
      ⊎_elim (λ q. absurd (ne (sym h ∙ ap (λ z. live_at z k) (dead_is e q) ∙ ap seen (fresh_page 0 k)))) (λ q. ap (λ z. live_at z k) (sym (other_is e q)) ∙ h) (cases_eq b.0 e)
  back y ne (Kept e k) h =
      ⊎_elim (λ q. absurd (ne (sym h ∙ ap (λ z. kept_in z.mem z k) (dead_is e q)))) (λ q. ap (λ z. kept_in z.mem z k) (sym (other_is e q)) ∙ h) (cases_eq b.0 e)
  back y ne (Target e k) h =
      ⊎_elim (λ q. absurd (ne (sym h ∙ ap (λ z. target_at z k) (dead_is e q)))) (λ q. ap (λ z. target_at z k) (sym (other_is e q)) ∙ h) (cases_eq b.0 e)
  back y ne (Ghost n) h = h

  abbrev new_owner : Page → Owner
  new_owner = owner_of (bare (record c { buffers = slice_set c.buffers b.0 None }))

  none_of : (y : Page) (k : ℕ) → owner_of (bare (record c { buffers = slice_set c.buffers b.0 None })) y ≡ Live b.0 k → ⊥
  none_of y k e = by y e
    where
      at : (y : Page) → (y ≡ Nowhere → ⊥) → (unheld y ≡ Live b.0 k → ⊥) → owner_of (bare (record c { buffers = slice_set c.buffers b.0 None })) y ≡ Live b.0 k → ⊥
      at y ne un e =
          ⊎_elim
          (λ h. let l : live_at (buffer_at (record c { buffers = slice_set c.buffers b.0 None }) b.0) k ≡ y = subst (Holds (bare (record c { buffers = slice_set c.buffers b.0 None })) y) e h in ne (sym l ∙ ap (λ z. live_at z k) (dead_is b.0 refl) ∙ ap seen (fresh_page 0 k)))
          (λ n. un (sym n.1 ∙ e))
          (owning (bare (record c { buffers = slice_set c.buffers b.0 None })) y ne).fact

      by : (y : Page) → owner_of (bare (record c { buffers = slice_set c.buffers b.0 None })) y ≡ Live b.0 k → ⊥
      by = by_place (λ y. owner_of (bare (record c { buffers = slice_set c.buffers b.0 None })) y ≡ Live b.0 k → ⊥) (idle-live b.0 k) (λ y ne. at y ne (unheld-live y b.0 k))

  no_target_of : (y : Page) (k : ℕ) → owner_of (bare (record c { buffers = slice_set c.buffers b.0 None })) y ≡ Target b.0 k → ⊥
  no_target_of y k e = by y e
    where
      at : (y : Page) → (y ≡ Nowhere → ⊥) → (unheld y ≡ Target b.0 k → ⊥) → owner_of (bare (record c { buffers = slice_set c.buffers b.0 None })) y ≡ Target b.0 k → ⊥
      at y ne un e =
          ⊎_elim
          (λ h. let l : target_at (buffer_at (record c { buffers = slice_set c.buffers b.0 None }) b.0) k ≡ y = subst (Holds (bare (record c { buffers = slice_set c.buffers b.0 None })) y) e h in ne (sym l ∙ ap (λ z. target_at z k) (dead_is b.0 refl)))
          (λ n. un (sym n.1 ∙ e))
          (owning (bare (record c { buffers = slice_set c.buffers b.0 None })) y ne).fact

      by : (y : Page) → owner_of (bare (record c { buffers = slice_set c.buffers b.0 None })) y ≡ Target b.0 k → ⊥
      by = by_place (λ y. owner_of (bare (record c { buffers = slice_set c.buffers b.0 None })) y ≡ Target b.0 k → ⊥) (idle-target b.0 k) (λ y ne. at y ne (unheld-target y b.0 k))

  fate : (y : Page) → Fate v b.0 0 y (owner_of (bare (record c { buffers = slice_set c.buffers b.0 None })) y)
  fate y = by_page y
    where
      stays : (y : Page) → (y ≡ Nowhere → ⊥) → (p : Owner) → v.owner y ≡ p → Holds (bare (record c { buffers = slice_set c.buffers b.0 None })) y p → owner_of (bare (record c { buffers = slice_set c.buffers b.0 None })) y ≡ v.owner y
      stays y ne p e h = owner_is (bare (record c { buffers = slice_set c.buffers b.0 None })) (held_once script (bare (record c { buffers = slice_set c.buffers b.0 None })) once) y p ne h ∙ sym e

      -- nobody holds a page that the buffer held
      none_now : (y : Page) → (y ≡ Nowhere → ⊥) → (k : ℕ) → Holds (bare c) y (Target b.0 k) → (o : Owner) → Holds (bare (record c { buffers = slice_set c.buffers b.0 None })) y o → ⊥
      none_now y ne k t o h =
          let same = before y o (Target b.0 k) ne (back y ne o h) t in
          let l : target_at (buffer_at (record c { buffers = slice_set c.buffers b.0 None }) b.0) k ≡ y = subst (Holds (bare (record c { buffers = slice_set c.buffers b.0 None })) y) same h in
          ne (sym l ∙ ap (λ z. target_at z k) (dead_is b.0 refl))

      held : (y : Page) → (y ≡ Nowhere → ⊥) → (p : Owner) → v.owner y ≡ p → Holds (bare c) y p → Fate v b.0 0 y (owner_of (bare (record c { buffers = slice_set c.buffers b.0 None })) y)
      held y ne Idle e h = absurd h
      held y ne Free e h = absurd h
      held y ne (Live d k) e h =
          ⊎_elim
          (λ q. let own : v.owner y ≡ Live b.0 k = e ∙ ap (λ a. Live a k) (sym q) in inr (inr (inl (k, own, done_untouched no_bytes v g b.0 k y own jobs_done))))
          (λ q. inr (inr (inr (inr (stays y ne (Live d k) e (ap (λ z. live_at z k) (other_is d q) ∙ h))))))
          (cases_eq b.0 d)
      held y ne (Kept d k) e h =
          ⊎_elim
          (λ q. inl (k, e ∙ ap (λ a. Kept a k) (sym q)))
          (λ q. inr (inr (inr (inr (stays y ne (Kept d k) e (ap (λ z. kept_in z.mem z k) (other_is d q) ∙ h))))))
          (cases_eq b.0 d)
      held y ne (Target d k) e h =
          ⊎_elim
          (λ q.
          let mine : Holds (bare c) y (Target b.0 k) = subst (λ a. target_at (buffer_at c a) k ≡ y) (sym q) h in
          let w = in_vram_is (slice_get (pages_of (target_spans mem.Vram (buffer_at c b.0))) k) y mine ne in
          let free : owner_of (bare (record c { buffers = slice_set c.buffers b.0 None })) y ≡ Free = owner_none (bare (record c { buffers = slice_set c.buffers b.0 None })) y ne (none_now y ne k mine) ∙ ap unheld w.2 in
          inr (inr (inr (inl (k, e ∙ ap (λ a. Target a k) (sym q), free)))))
          (λ q. inr (inr (inr (inr (stays y ne (Target d k) e (ap (λ z. target_at z k) (other_is d q) ∙ h))))))
          (cases_eq b.0 d)
      held y ne (Ghost n) e h = inr (inr (inr (inr (stays y ne (Ghost n) e h))))

      at : (y : Page) → (y ≡ Nowhere → ⊥) → Fate v b.0 0 y (owner_of (bare (record c { buffers = slice_set c.buffers b.0 None })) y)
      at y ne =
          ⊎_elim
          (λ h. held y ne (owner_of (bare c) y) (s.owner y) h)
          (λ n. inr (inr (inr (inr (owner_none (bare (record c { buffers = slice_set c.buffers b.0 None })) y ne (λ o h. n.0 o (back y ne o h)) ∙ sym n.1 ∙ sym (s.owner y))))))
          (owning (bare c) y ne).fact

      by_page : (y : Page) → Fate v b.0 0 y (owner_of (bare (record c { buffers = slice_set c.buffers b.0 None })) y)
      by_page = by_place (λ y. Fate v b.0 0 y (owner_of (bare (record c { buffers = slice_set c.buffers b.0 None })) y)) (inr (inr (inr (inr (sym (s.owner Nowhere)))))) at

  abbrev gone : View
  gone = freed b.0 (owner_of (bare (record c { buffers = slice_set c.buffers b.0 None }))) 0 (λ j. false) no_bytes v

  pub free_good : Good no_bytes (record (freed b.0 (owner_of (bare (record c { buffers = slice_set c.buffers b.0 None }))) 0 (λ j. false) no_bytes v) {
    fences = without b.0 (freed b.0 (owner_of (bare (record c { buffers = slice_set c.buffers b.0 None }))) 0 (λ j. false) no_bytes v).fences;
  })
  free_good =
      without_keeps (freed b.0 (owner_of (bare (record c { buffers = slice_set c.buffers b.0 None }))) 0 (λ j. false) no_bytes v) b.0
      (free_keeps no_bytes v g b.0 0 (λ j. false) (owner_of (bare (record c { buffers = slice_set c.buffers b.0 None }))) (λ j h. inr (jobs_done j h)) fate refl)
      none_of no_target_of

  -- ---- seen

  spared : (i p : ℕ) → Spared (aperture c) (aperture (record c { buffers = slice_set c.buffers b.0 None })) (touched (v.left i)) p
  spared i p = by (aperture c p) refl
    where
      found : (q : ℕ) → aperture c p ≡ Some q → Maps c p q → Spared (aperture c) (aperture (record c { buffers = slice_set c.buffers b.0 None })) (touched (v.left i)) p
      found q e (inr w) =
          inl (maps_aperture script (record c { buffers = slice_set c.buffers b.0 None }) once p q (inr (record { place = w.place; ghost = w.ghost; is = w.is; at = w.at; here = w.here; there = w.there })) ∙ sym e)
      found q e (inl w) =
          ⊎_elim
          (λ r.
          let live : live_in c.buffers (record { 0 = b.0 }) ≡ Some w.buffer = ap (λ k. live_in c.buffers (record { 0 = k })) r ∙ w.live in
          let one : buffer_at c b.0 ≡ w.buffer = ap (λ o. unwrap_or o (new_buffer 0)) live in
          let stands : page_at w.buffer w.at ≡ pages.frame q = stands_by_table w.buffer w.at (not_vram mem.Tt w.buffer w.mem (λ z. cc)) ∙ ap (λ o. page_in_table (unwrap_or o loc.Zero)) w.there in
          let holds : live_at (buffer_at c b.0) w.at ≡ Frame q = ap (λ y. live_at y w.at) one ∙ ap seen stands in
          inr (subst (λ o. touched (v.left i) (seen (pages.mapped_page o)) ≡ false) (sym e)
          (done_untouched no_bytes v g b.0 w.at (Frame q) (s.owner (Frame q) ∙ owner_is (bare c) before (Frame q) (Live b.0 w.at) (λ z. cc) holds) jobs_done i)))
          (λ r.
          inl (maps_aperture script (record c { buffers = slice_set c.buffers b.0 None }) once p q (inl (record { b = w.b; buffer = w.buffer; live = other_live w.b.0 r ∙ w.live; mem = w.mem; at = w.at; here = w.here; there = w.there })) ∙ sym e))
          (cases_eq b.0 w.b.0)

      by : (o : Option ℕ) → aperture c p ≡ o → Spared (aperture c) (aperture (record c { buffers = slice_set c.buffers b.0 None })) (touched (v.left i)) p
      by None e = unmapped_spared v g (aperture c) (aperture (record c { buffers = slice_set c.buffers b.0 None })) i p e
      by (Some q) e = found q e (aperture_maps c p q e)

  place_after : (e k : ℕ) → cond (nat_eq b.0 e) Nowhere (v.place e k) ≡ seen (place_of (record c { buffers = slice_set c.buffers b.0 None }) (record { 0 = e }) k)
  place_after e k = by (nat_eq b.0 e) refl
    where
      apart : (q : Bool) → nat_eq b.0 e ≡ q → q ≡ false → b.0 ≡ e → ⊥
      apart true t f r = cc
      apart false t f r = let u : nat_eq b.0 e ≡ true = eq-eqb b.0 e r in cc

      by : (q : Bool) → nat_eq b.0 e ≡ q → cond q Nowhere (v.place e k) ≡ seen (place_of (record c { buffers = slice_set c.buffers b.0 None }) (record { 0 = e }) k)
      by true t = sym (ap (λ z. seen (page_at z k)) (dead_is e (eqb-true b.0 e t)) ∙ ap seen (fresh_page 0 k))
      by false t = s.place e k ∙ ap (λ z. seen (page_at z k)) (sym (other_is e (apart false t refl)))

  plain_after : (e i o : ℕ) → cond (nat_eq b.0 e) no_bytes (v.plain (Own e i)) o ≡ (if nat_lt o 4096 then with_zeros b m e (4096 * i + o) else 0)
  plain_after e i o = by (nat_eq b.0 e)
    where
      zero_either : (q : Bool) → ◌≡◌ {A = ℕ} 0 (if q then 0 else 0)
      zero_either true = refl
      zero_either false = refl

      by : (q : Bool) → cond q no_bytes (v.plain (Own e i)) o ≡ (if nat_lt o 4096 then (if q then 0 else m e (4096 * i + o)) else 0)
      by true = zero_either (nat_lt o 4096)
      by false = s.plain e i o

  waits_of : (a : Bool) (e : ℕ) → (a && not (nat_eq b.0 e)) ≡ true → (a ≡ true) × (b.0 ≡ e → ⊥)
  waits_of a e h =
      let parts = and_parts a (not (nat_eq b.0 e)) h in
      (parts.0, λ q. no (nat_eq b.0 e) (eq-eqb b.0 e q) parts.1)
    where
      no : (q : Bool) → q ≡ true → not q ≡ true → ⊥
      no true e f = cc
      no false e f = cc

  pub free_seen : Seen script (record c { buffers = slice_set c.buffers b.0 None }) owed_probes (with_zeros b m) bytes (record (freed b.0 (owner_of (bare (record c { buffers = slice_set c.buffers b.0 None }))) 0 (λ j. false) no_bytes v) {
    fences = without b.0 (freed b.0 (owner_of (bare (record c { buffers = slice_set c.buffers b.0 None }))) 0 (λ j. false) no_bytes v).fences;
  })
  free_seen = record {
    count = s.count;
    left = λ i y e.
        let was = s.left i y e in
        was
        ∙ sym (steps_same (aperture c) (aperture (record c { buffers = slice_set c.buffers b.0 None })) (owed_probes y.id) y.ran (drop y.ran y.packets)
        (λ p. subst (λ t. Spared (aperture c) (aperture (record c { buffers = slice_set c.buffers b.0 None })) (touched t) p) was (spared i p)));
    begun = s.begun;
    done = s.done;
    prior = s.prior;
    strong = λ e j h.
        let w = waits_of (v.fences.strong e j) e h in
        let f = s.strong e j w.0 in
        record { job = f.job; at = f.at; has = ap (λ z. list_any (same_job f.job.id) (jobs_before_read z)) (other_is e w.1) ∙ f.has };
    shared = λ e j h.
        let w = waits_of (v.fences.shared e j) e h in
        let f = s.shared e j w.0 in
        record { job = f.job; at = f.at; has = ap (λ z. list_any (same_job f.job.id) (jobs_before_write z)) (other_is e w.1) ∙ f.has };
    ghost = λ n j h.
        let f = s.ghost n j (old (v.fences.ghost n j) (nat_eq 0 n) h) in
        record { job = f.job; at = f.at; place = f.place; ghost = f.ghost; there = f.there; number = f.number; has = f.has };
    mover = λ j h. let f = s.mover j h in record { job = f.job; at = f.at; is = f.is };
    place = place_after;
    owner = λ y. refl;
    there = s.there;
    stores = s.stores;
    cut = s.cut;
    plain = plain_after;
  }
    where
      old : (a q : Bool) → (a || (q && false)) ≡ true → a ≡ true
      old true q h = refl
      old false true h = cc
      old false false h = cc
