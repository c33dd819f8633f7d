-- A buffer gives back its target in VRAM, or in VRAM the frames in its table: their pages are nobody's.
use Rattle.std.proofs.Common.{◌≡◌, ℕ, zero, suc, Bool, true, List, [], ◌∷◌, None, refl, sym, subst, ◌∙◌, ap, ◌⊎◌, inl, inr, ⊎_elim, ◌≢◌}
use Rattle.std.specs.Prelude.{slice_get, map, filter, unwrap_or}
use Rattle.std.specs.List.{list_any}
use Rattle.ttm_base.specs.declared.Mem.{Mem}
use Rattle.ttm_base.specs.declared.Mem.TheVariants as mem
use Rattle.ttm_base.specs.declared.BufId.{BufId}
use Rattle.ttm_base.specs.declared.Loc.{Loc}
use Rattle.ttm_base.specs.declared.Loc.TheVariants as loc
use Rattle.ttm_base.specs.Pages as pages
use Rattle.journal_model.specs.declared.script.Script.{Script}
use Rattle.journal_model.specs.declared.state.Core.{Core}
use Rattle.journal_model.specs.declared.state.Buffer.{Buffer}
use Rattle.ttm_base.specs.declared.Fence.{Fence}
use Rattle.journal_model.specs.rules.State.{changed, new_buffer, target_spans}
use Rattle.journal_model.specs.rules.Places.{pages_of, aperture, page_at, page_in, page_in_table, loc_of}
use Rattle.journal_model.specs.rules.Waits.{same_job, changes, jobs_before_read, jobs_before_write}
use Rattle.journal_model.specs.rules.PlainMemory.{Memory, OwedProbes}
use Rattle.journal_model.specs.rules.ApplyPages.{with_spans, without_frame, without_frames}
use Rattle.laws.proofs.law_owners.Law.{AreHeldOnce}
use Rattle.laws.specs.lemma_bytes_model.Memory as memory
use Rattle.laws.specs.lemma_bytes_model.Memory.{Page, Nowhere, touched}
use Rattle.laws.specs.lemma_bytes_model.View.{View, Good, Owner, Idle, Free, Live, Kept, Target, Ghost, Guarded}
use Rattle.laws.specs.lemma_bytes_model.Entries.{retitled}
use Rattle.laws.proofs.lemma_bytes_model.Owners.{retitle_keeps}
use Rattle.laws.specs.law_holders.Holding.{seen, live_at, kept_in, target_at, buffer_at, Holds, HeldOnce}
use Rattle.laws.proofs.law_holders.HeldOnce.{in_vram_is}
use Rattle.laws.proofs.law_holders.Owner.{owner_of, owner_is, owning, unheld}
use Rattle.laws.proofs.lemma_bytes_view.World.{Seen, bare}
use Rattle.laws.proofs.lemma_bytes_view.Kept.{keep_all, changing_kept, using_kept, ghostly_kept}
use Rattle.laws.proofs.lemma_bytes_view.PacketStep.{no_bytes}
use Rattle.laws.proofs.lemma_bytes_view.Apertures.{Spared}
use Rattle.laws.proofs.lemma_bytes_view.Titles.{retitled_seen}
use Rattle.laws.proofs.lemma_bytes_view.Binds.{IsAt, at_is, live_either, all_kept}

-- as before, or gone
abbrev pub SameOrGone : Page → Page → Type 0
SameOrGone new old = (new ≡ old) ⊎ (new ≡ Nowhere)

module _ (script : Script) (c : Core) (owed_probes : OwedProbes) (m : Memory) (bytes : pages.PageBytes) (v : View) (s : Seen script c owed_probes m bytes v) (g : Good no_bytes v)
    (f : Buffer → Buffer) (b : BufId) (x : Buffer) (is : IsAt c b x) (before : HeldOnce (bare c)) (once : AreHeldOnce script (record c { buffers = changed f c.buffers b }))
    (place : (i : ℕ) → page_at (f x) i ≡ page_at x i) (kept : (k : ℕ) → SameOrGone (kept_in (f x).mem (f x) k) (kept_in x.mem x k)) (target : (k : ℕ) → SameOrGone (target_at (f x) k) (target_at x k))
    (fences : (f x).fences ≡ x.fences)
    (spared : (i p : ℕ) → Spared (aperture c) (aperture (record c { buffers = changed f c.buffers b })) (touched (v.left i)) p) where
  live_same : (e k : ℕ) → live_at (buffer_at (record c { buffers = changed f c.buffers b }) e) k ≡ live_at (buffer_at c e) k
  live_same e k = all_kept (λ y. live_at y k) f c b x is (ap seen (place k)) e

  -- what h says of each buffer is as before, or gone
  each_either : (h : Buffer → Page) → SameOrGone (h (f x)) (h x) → (e : ℕ) → SameOrGone (h (buffer_at (record c { buffers = changed f c.buffers b }) e)) (h (buffer_at c e))
  each_either h one e =
      ⊎_elim
      (λ q. inl (ap (λ o. h (unwrap_or o (new_buffer 0))) q))
      (λ q.
      ⊎_elim
      (λ r. inl (ap (λ o. h (unwrap_or o (new_buffer 0))) q.1 ∙ r ∙ ap h (sym (at_is c b x is) ∙ ap (buffer_at c) q.0)))
      (λ r. inr (ap (λ o. h (unwrap_or o (new_buffer 0))) q.1 ∙ r))
      one)
      (live_either f c b x is e)

  back : (y : Page) → (y ≡ Nowhere → ⊥) → (o : Owner) → Holds (bare (record c { buffers = changed f c.buffers b })) y o → Holds (bare c) y o
  back y ne Idle h = h
  back y ne Free h = h
  back y ne (Live e k) h = sym (live_same e k) ∙ h
  back y ne (Kept e k) h = ⊎_elim (λ q. sym q ∙ h) (λ q. absurd (ne (sym h ∙ q))) (each_either (λ z. kept_in z.mem z k) (kept k) e)
  back y ne (Target e k) h = ⊎_elim (λ q. sym q ∙ h) (λ q. absurd (ne (sym h ∙ q))) (each_either (λ z. target_at z k) (target k) e)
  back y ne (Ghost n) h = h

  abbrev Fate : Page → Owner → Owner → Type 0
  Fate y new old = (new ≡ old) ⊎ (((d k : ℕ) → old ≡ Live d k → ⊥) × ((i : ℕ) (w : Bool) → v.done i ≢ true → Guarded v.fences old i w → Guarded v.fences new i w))

  -- what nobody holds any more was kept, or of a target
  gone : (y : Page) → (y ≡ Nowhere → ⊥) → (new : Owner) → ((o : Owner) → Holds (bare (record c { buffers = changed f c.buffers b })) y o → ⊥) → new ≡ unheld y → (old : Owner) → Holds (bare c) y old → Fate y new old
  gone y ne new none e Idle h = absurd h
  gone y ne new none e Free h = absurd h
  gone y ne new none e (Live d k) h = absurd (none (Live d k) (live_same d k ∙ h))
  gone y ne new none e (Kept d k) h = inr (λ a j q. (let p : Kept d k ≡ Live a j = q in cc), λ i w undone guarded. absurd guarded)
  gone y ne new none e (Target d k) h =
      let w = in_vram_is (slice_get (pages_of (target_spans mem.Vram (buffer_at c d))) k) y h ne in
      inr (
        λ a j q. (let p : Target d k ≡ Live a j = q in cc),
        λ i u undone guarded. subst (λ o. Guarded v.fences o i u) (sym (e ∙ ap unheld w.2)) guarded.1,
      )
  gone y ne new none e (Ghost n) h = absurd (none (Ghost n) h)

  fate_at : (y : Page) → (y ≡ Nowhere → ⊥) → Fate y (owner_of (bare (record c { buffers = changed f c.buffers b })) y) (v.owner y)
  fate_at y ne =
      ⊎_elim
      (λ h. inl (sym (owner_is (bare c) before y (owner_of (bare (record c { buffers = changed f c.buffers b })) y) ne (back y ne (owner_of (bare (record c { buffers = changed f c.buffers b })) y) h)) ∙ sym (s.owner y)))
      (λ n.
      subst (Fate y (owner_of (bare (record c { buffers = changed f c.buffers b })) y)) (sym (s.owner y))
      (⊎_elim
      (λ h. gone y ne (owner_of (bare (record c { buffers = changed f c.buffers b })) y) n.0 n.1 (owner_of (bare c) y) h)
      (λ q. inl (n.1 ∙ sym q.1))
      (owning (bare c) y ne).fact))
      (owning (bare (record c { buffers = changed f c.buffers b })) y ne).fact

  fate : (y : Page) → Fate y (owner_of (bare (record c { buffers = changed f c.buffers b })) y) (v.owner y)
  fate Nowhere = inl (sym (s.owner Nowhere))
  fate (memory.Vram n) = fate_at (memory.Vram n) (λ e. cc)
  fate (memory.Frame n) = fate_at (memory.Frame n) (λ e. cc)
  fate (memory.Slot n) = fate_at (memory.Slot n) (λ e. cc)
  fate (memory.Own d i) = fate_at (memory.Own d i) (λ e. cc)

  pub drop_good : Good no_bytes (retitled v.fences (owner_of (bare (record c { buffers = changed f c.buffers b }))) v)
  drop_good = retitle_keeps no_bytes v g v.fences refl (owner_of (bare (record c { buffers = changed f c.buffers b }))) (λ o i w h. h) fate refl

  pub drop_seen : Seen script (record c { buffers = changed f c.buffers b }) owed_probes m bytes (retitled v.fences (owner_of (bare (record c { buffers = changed f c.buffers b }))) v)
  drop_seen =
      retitled_seen script c owed_probes m bytes v (changed f c.buffers b) c.ghosts v.fences s
      (record {
        prior = refl;
        strong = λ e j h.
            changing_kept c (record c { buffers = changed f c.buffers b }) (keep_all c.jobs) e j
            (λ i w. ap (list_any (same_job i)) (all_kept jobs_before_read f c b x is (ap (λ fs. map (λ (y : Fence). y.job) (filter changes fs)) fences) e) ∙ w)
            (s.strong e j h);
        shared = λ e j h.
            using_kept c (record c { buffers = changed f c.buffers b }) (keep_all c.jobs) e j
            (λ i w. ap (list_any (same_job i)) (all_kept jobs_before_write f c b x is (ap (map (λ (y : Fence). y.job)) fences) e) ∙ w)
            (s.shared e j h);
        ghost = λ n j h. ghostly_kept c (record c { buffers = changed f c.buffers b }) (keep_all c.jobs) n j (λ i y w. w) (s.ghost n j h);
        mover = refl;
        place = λ e i. all_kept (λ y. page_at y i) f c b x is (place i) e;
        spared = spared;
      })

-- ---- frames that a buffer in VRAM gives back

without_loc : (table : List Loc) (k : ℕ) → unwrap_or (slice_get (map without_frame table) k) loc.Zero ≡ without_frame (unwrap_or (slice_get table k) loc.Zero)
without_loc [] k = refl
without_loc (l ∷ table) zero = refl
without_loc (l ∷ table) (suc k) = without_loc table k

pub emptied_kept : (x : Buffer) (k : ℕ) → x.mem ≡ mem.Vram → SameOrGone (kept_in (without_frames x).mem (without_frames x) k) (kept_in x.mem x k)
emptied_kept x k e = by x.mem
  where
    at : (l : Loc) → SameOrGone (seen (page_in_table (without_frame l))) (seen (page_in_table l))
    at loc.Zero = inl refl
    at (loc.Slot q) = inl refl
    at (loc.Frame q) = inr refl

    by : (l : Mem) → SameOrGone (kept_in l (without_frames x) k) (kept_in l x k)
    by mem.Tt = inl refl
    by mem.System = inl refl
    by mem.Vram = subst (λ q. SameOrGone (seen (page_in_table q)) (seen (page_in_table (loc_of x k)))) (sym (without_loc x.table k)) (at (loc_of x k))

pub emptied_place : (x : Buffer) (i : ℕ) → x.mem ≡ mem.Vram → page_at (without_frames x) i ≡ page_at x i
emptied_place x i e = by x.mem e
  where
    by : (l : Mem) → l ≡ mem.Vram → page_in l (without_frames x) i ≡ page_in l x i
    by mem.Vram e = refl
    by mem.Tt e = cc
    by mem.System e = cc

-- ---- a target in VRAM that is given back

pub untaken_place : (x : Buffer) (i : ℕ) → page_at (with_spans mem.Vram None x) i ≡ page_at x i
untaken_place x i = by x.mem
  where
    by : (l : Mem) → page_in l (with_spans mem.Vram None x) i ≡ page_in l x i
    by mem.Vram = refl
    by mem.Tt = refl
    by mem.System = refl

pub untaken_kept : (x : Buffer) (k : ℕ) → SameOrGone (kept_in (with_spans mem.Vram None x).mem (with_spans mem.Vram None x) k) (kept_in x.mem x k)
untaken_kept x k = by x.mem
  where
    by : (l : Mem) → SameOrGone (kept_in l (with_spans mem.Vram None x) k) (kept_in l x k)
    by mem.Vram = inl refl
    by mem.Tt = inl refl
    by mem.System = inl refl

pub untaken_target : (x : Buffer) (k : ℕ) → SameOrGone (target_at (with_spans mem.Vram None x) k) (target_at x k)
untaken_target x k = inr refl
