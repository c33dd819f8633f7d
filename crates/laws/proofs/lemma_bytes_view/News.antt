-- A buffer is made: it stands nowhere, and its bytes are zeros in the plain memory as before.
use Rattle.std.proofs.Common.{◌≡◌, ℕ, ◌+◌, ◌*◌, zero, suc, Bool, true, false, Option, Some, None, refl, sym, ◌∙◌, ap, ◌⊎◌, inl, inr, ⊎_elim}
use Rattle.std.specs.Prelude.{slice_get, slice_set, replicate, nat_lt, ◌==◌, option_and_then, unwrap_or, if◌then◌else◌}
use Rattle.std.specs.List.{list_any}
use Rattle.std.proofs.lemmas.Bool.{eqb-true}
use Rattle.ttm_base.specs.declared.BufId.{BufId}
use Rattle.ttm_base.specs.declared.Loc.TheVariants as loc
use Rattle.ttm_base.specs.Pages as pages
use Rattle.journal_model.specs.declared.script.Script.{Script}
use Rattle.journal_model.specs.declared.state.Core.{Core}
use Rattle.journal_model.specs.declared.state.Buffer.{Buffer}
use Rattle.journal_model.specs.rules.State.{live_in, new_buffer}
use Rattle.journal_model.specs.rules.Places.{aperture, page_at, page_in_table}
use Rattle.journal_model.specs.rules.Waits.{same_job, jobs_before_read, jobs_before_write}
use Rattle.journal_model.specs.rules.PlainMemory.{Memory, OwedProbes, with_zeros}
use Rattle.laws.proofs.law_state.Lists.{set_at}
use Rattle.laws.proofs.law_owners.Law.{AreHeldOnce}
use Rattle.laws.specs.lemma_bytes_model.Memory.{Nowhere, Own, Bytes, touched}
use Rattle.laws.specs.lemma_bytes_model.View.{View, Good, rest}
use Rattle.laws.specs.lemma_bytes_model.Entries.{retitled}
use Rattle.laws.proofs.lemma_bytes_model.Cpu.{idle_untouched, untouched_unwritten, rest_unwritten}
use Rattle.laws.proofs.lemma_bytes_model.Owners.{untake_keeps}
use Rattle.laws.specs.law_holders.Holding.{seen, live_at, kept_in, target_at, buffer_at}
use Rattle.laws.specs.law_holders.Maps.{Maps}
use Rattle.laws.proofs.law_holders.HeldOnce.{held_once}
use Rattle.laws.proofs.law_holders.Owner.{owner_of}
use Rattle.laws.proofs.law_holders.Mapped.{aperture_maps, maps_aperture}
use Rattle.laws.proofs.lemma_bytes_view.World.{Seen, bare}
use Rattle.laws.proofs.lemma_bytes_view.Kept.{keep_all, changing_kept, using_kept, ghostly_kept}
use Rattle.laws.proofs.lemma_bytes_view.PacketStep.{no_bytes}
use Rattle.laws.proofs.lemma_bytes_view.Apertures.{Spared, unmapped_spared}
use Rattle.laws.proofs.lemma_bytes_view.Titles.{SameHolds, owners_same, retitled_seen}

-- another memory with the same pages
pub with_memory : (script : Script) (c : Core) (owed_probes : OwedProbes) (m m' : Memory) (bytes : pages.PageBytes) (v : View) → Seen script c owed_probes m bytes v →
    ((b i o : ℕ) → v.plain (Own b i) o ≡ (if nat_lt o 4096 then m' b (4096 * i + o) else 0)) → Seen script c owed_probes m' bytes v
with_memory script c owed_probes m m' bytes v s plain = record {
  count = s.count;
  left = s.left;
  begun = s.begun;
  done = s.done;
  prior = s.prior;
  strong = s.strong;
  shared = s.shared;
  ghost = s.ghost;
  mover = s.mover;
  place = s.place;
  owner = s.owner;
  there = s.there;
  stores = s.stores;
  cut = s.cut;
  plain = plain;
}

-- what stands nowhere has zeros in the plain memory
pub nowhere_plain : (v : View) → Good no_bytes v → (b i : ℕ) → v.place b i ≡ Nowhere → v.plain (Own b i) ≡ no_bytes
nowhere_plain v g b i e =
    sym (g.value b i)
    ∙ ap (rest v.left v.count v.stores) e
    ∙ rest_unwritten no_bytes v g Nowhere (λ j. untouched_unwritten no_bytes v g Nowhere j (idle_untouched no_bytes v g Nowhere g.nowhere j)) v.count
    ∙ g.zero

-- a fresh table has no page
fresh_loc : (n k : ℕ) → unwrap_or (slice_get (replicate n loc.Zero) k) loc.Zero ≡ loc.Zero
fresh_loc zero k = refl
fresh_loc (suc n) zero = refl
fresh_loc (suc n) (suc k) = fresh_loc n k

pub fresh_page : (n k : ℕ) → page_at (new_buffer n) k ≡ pages.nowhere
fresh_page n k = ap page_in_table (fresh_loc n k)

module _ (script : Script) (c : Core) (owed_probes : OwedProbes) (m : Memory) (bytes : pages.PageBytes) (v : View) (s : Seen script c owed_probes m bytes v) (g : Good no_bytes v)
    (b : BufId) (n : ℕ) (dead : live_in c.buffers b ≡ None) (once : AreHeldOnce script (record c { buffers = slice_set c.buffers b.0 (Some (new_buffer n)) })) where
  was_none : buffer_at c b.0 ≡ new_buffer 0
  was_none = ap (λ o. unwrap_or o (new_buffer 0)) dead

  -- each other buffer is as it was
  made_either : (e : ℕ) → (live_in (slice_set c.buffers b.0 (Some (new_buffer n))) (record { 0 = e }) ≡ live_in c.buffers (record { 0 = e }))
      ⊎ ((b.0 ≡ e) × (live_in (slice_set c.buffers b.0 (Some (new_buffer n))) (record { 0 = e }) ≡ Some (new_buffer n)))
  made_either e = ⊎_elim (λ q. inl (ap (option_and_then (λ y. y)) q)) (λ q. inr (q.0, ap (option_and_then (λ y. y)) q.1)) (set_at c.buffers b.0 e (Some (new_buffer n)))

  kept_new : {A : Type 0} (h : Buffer → A) → h (new_buffer n) ≡ h (new_buffer 0) → (e : ℕ) → h (buffer_at (record c { buffers = slice_set c.buffers b.0 (Some (new_buffer n)) }) e) ≡ h (buffer_at c e)
  kept_new h same e =
      ⊎_elim
      (λ q. ap (λ o. h (unwrap_or o (new_buffer 0))) q)
      (λ q. ap (λ o. h (unwrap_or o (new_buffer 0))) q.1 ∙ same ∙ ap h (sym was_none ∙ ap (buffer_at c) q.0))
      (made_either e)

  same_holds : SameHolds (bare c) (bare (record c { buffers = slice_set c.buffers b.0 (Some (new_buffer n)) }))
  same_holds = record {
    live = λ e k. kept_new (λ y. live_at y k) (ap seen (fresh_page n k ∙ sym (fresh_page 0 k))) e;
    kept = λ e k. kept_new (λ y. kept_in y.mem y k) refl e;
    target = λ e k. kept_new (λ y. target_at y k) refl e;
    ghosts = refl;
  }

  spared : (i p : ℕ) → Spared (aperture c) (aperture (record c { buffers = slice_set c.buffers b.0 (Some (new_buffer n)) })) (touched (v.left i)) p
  spared i p = by (aperture c p) refl
    where
      found : (q : ℕ) → aperture c p ≡ Some q → Maps c p q → Spared (aperture c) (aperture (record c { buffers = slice_set c.buffers b.0 (Some (new_buffer n)) })) (touched (v.left i)) p
      found q e (inl w) =
          ⊎_elim
          (λ r. inl (maps_aperture script (record c { buffers = slice_set c.buffers b.0 (Some (new_buffer n)) }) once p q (inl (record { b = w.b; buffer = w.buffer; live = r ∙ w.live; mem = w.mem; at = w.at; here = w.here; there = w.there })) ∙ sym e))
          (λ r. let both : None ≡ Some w.buffer = sym dead ∙ ap (λ k. live_in c.buffers (record { 0 = k })) r.0 ∙ w.live in cc)
          (made_either w.b.0)
      found q e (inr w) =
          inl (maps_aperture script (record c { buffers = slice_set c.buffers b.0 (Some (new_buffer n)) }) once p q (inr (record { place = w.place; ghost = w.ghost; is = w.is; at = w.at; here = w.here; there = w.there })) ∙ sym e)

      by : (o : Option ℕ) → aperture c p ≡ o → Spared (aperture c) (aperture (record c { buffers = slice_set c.buffers b.0 (Some (new_buffer n)) })) (touched (v.left i)) p
      by None e = unmapped_spared v g (aperture c) (aperture (record c { buffers = slice_set c.buffers b.0 (Some (new_buffer n)) })) i p e
      by (Some q) e = found q e (aperture_maps c p q e)

  pub new_good : Good no_bytes (retitled v.fences (owner_of (bare (record c { buffers = slice_set c.buffers b.0 (Some (new_buffer n)) }))) v)
  new_good =
      untake_keeps no_bytes v g (owner_of (bare (record c { buffers = slice_set c.buffers b.0 (Some (new_buffer n)) })))
      (λ y. inl (owners_same (bare c) (bare (record c { buffers = slice_set c.buffers b.0 (Some (new_buffer n)) })) (held_once script (bare (record c { buffers = slice_set c.buffers b.0 (Some (new_buffer n)) })) once) same_holds y ∙ sym (s.owner y)))

  zeros_after : (e i o : ℕ) → v.plain (Own e i) o ≡ (if nat_lt o 4096 then with_zeros b m e (4096 * i + o) else 0)
  zeros_after e i o = by (b.0 == e) refl
    where
      by : (q : Bool) → (b.0 == e) ≡ q → v.plain (Own e i) o ≡ (if nat_lt o 4096 then (if q then 0 else m e (4096 * i + o)) else 0)
      by true t =
          let nowhere : v.place e i ≡ Nowhere = s.place e i ∙ ap (λ k. seen (page_at (buffer_at c k) i)) (sym (eqb-true b.0 e t)) ∙ ap (λ y. seen (page_at y i)) was_none ∙ ap seen (fresh_page 0 i) in
          ap (λ (f : Bytes). f o) (nowhere_plain v g e i nowhere) ∙ zero_either (nat_lt o 4096)
        where
          zero_either : (q : Bool) → ◌≡◌ {A = ℕ} 0 (if q then 0 else 0)
          zero_either true = refl
          zero_either false = refl
      by false t = s.plain e i o

  pub new_seen : Seen script (record c { buffers = slice_set c.buffers b.0 (Some (new_buffer n)) }) owed_probes (with_zeros b m) bytes
      (retitled v.fences (owner_of (bare (record c { buffers = slice_set c.buffers b.0 (Some (new_buffer n)) }))) v)
  new_seen =
      with_memory script (record c { buffers = slice_set c.buffers b.0 (Some (new_buffer n)) }) owed_probes m (with_zeros b m) bytes
      (retitled v.fences (owner_of (bare (record c { buffers = slice_set c.buffers b.0 (Some (new_buffer n)) }))) v)
      (retitled_seen script c owed_probes m bytes v (slice_set c.buffers b.0 (Some (new_buffer n))) c.ghosts v.fences s
      (record {
        prior = refl;
        strong = λ e j h.
            changing_kept c (record c { buffers = slice_set c.buffers b.0 (Some (new_buffer n)) }) (keep_all c.jobs) e j
            (λ i w. ap (list_any (same_job i)) (kept_new jobs_before_read refl e) ∙ w) (s.strong e j h);
        shared = λ e j h.
            using_kept c (record c { buffers = slice_set c.buffers b.0 (Some (new_buffer n)) }) (keep_all c.jobs) e j
            (λ i w. ap (list_any (same_job i)) (kept_new jobs_before_write refl e) ∙ w) (s.shared e j h);
        ghost = λ k j h. ghostly_kept c (record c { buffers = slice_set c.buffers b.0 (Some (new_buffer n)) }) (keep_all c.jobs) k j (λ i y w. w) (s.ghost k j h);
        mover = refl;
        place = λ e i. kept_new (λ y. page_at y i) (fresh_page n i ∙ sym (fresh_page 0 i)) e;
        spared = spared;
      }))
      zeros_after
