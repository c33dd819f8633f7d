-- Between SYSTEM and TT: pages stay at their frames, and the aperture gives or takes pages that no packet goes to.
use Rattle.std.proofs.Common.{◌≡◌, ℕ, Bool, true, false, List, [], ◌∷◌, Option, Some, None, refl, sym, subst, ◌∙◌, ap, ◌⊎◌, inl, inr, ⊎_elim}
use Rattle.std.specs.Prelude.{slice_get, map, filter, option_map, option_and_then, unwrap_or, ◌||◌, if◌then◌else◌}
use Rattle.std.specs.List.{list_any}
use Rattle.std.proofs.lemmas.Bool.{cases_eq, or_cases}
use Rattle.ttm_base.specs.declared.Mem.{Mem}
use Rattle.ttm_base.specs.declared.Mem.TheVariants as mem
use Rattle.ttm_base.specs.declared.BufId.{BufId}
use Rattle.ttm_base.specs.declared.JobId.{JobId}
use Rattle.ttm_base.specs.declared.Loc.TheVariants as loc
use Rattle.ttm_base.specs.Pages as pages
use Rattle.journal_model.specs.declared.script.Script.{Script}
use Rattle.journal_model.specs.declared.state.Core.{Core}
use Rattle.journal_model.specs.declared.state.Buffer.{Buffer}
use Rattle.ttm_base.specs.declared.Fence.{Fence}
use Rattle.journal_model.specs.rules.State.{live_in, changed, new_buffer}
use Rattle.journal_model.specs.rules.Places.{aperture, page_at, page_in, page_in_table, loc_of}
use Rattle.journal_model.specs.rules.Waits.{same_job, changes, waited_for, jobs_before_read, jobs_before_write}
use Rattle.journal_model.specs.rules.PlainMemory.{Memory, OwedProbes}
use Rattle.journal_model.specs.rules.ApplyPages.{bound, unbound}
use Rattle.laws.proofs.law_state.Lists.{set_at}
use Rattle.laws.proofs.law_owners.Law.{AreHeldOnce}
use Rattle.laws.specs.lemma_bytes_model.Memory.{Nowhere, Frame, touched}
use Rattle.laws.specs.lemma_bytes_model.View.{View, Good, Live, is_fence}
use Rattle.laws.specs.lemma_bytes_model.Entries.{retitled}
use Rattle.laws.proofs.lemma_bytes_model.Cpu.{done_untouched}
use Rattle.laws.proofs.lemma_bytes_model.Owners.{untake_keeps}
use Rattle.laws.specs.law_holders.Holding.{seen, live_at, kept_in, target_at, buffer_at, HeldOnce}
use Rattle.laws.specs.law_holders.Maps.{BufferMaps, GhostMaps, Maps}
use Rattle.laws.proofs.law_holders.HeldOnce.{held_once}
use Rattle.laws.proofs.law_holders.Owner.{owner_of, owner_is}
use Rattle.laws.proofs.law_holders.Mapped.{aperture_maps, maps_aperture}
use Rattle.laws.proofs.lemma_bytes_view.World.{Seen, bare}
use Rattle.laws.proofs.lemma_bytes_view.Jobs.{waited_is_done}
use Rattle.laws.proofs.lemma_bytes_view.Kept.{keep_all, changing_kept, using_kept, ghostly_kept}
use Rattle.laws.proofs.lemma_bytes_view.PacketStep.{no_bytes}
use Rattle.laws.proofs.lemma_bytes_view.Apertures.{Spared, unmapped_spared}
use Rattle.laws.proofs.lemma_bytes_view.Titles.{SameHolds, owners_same, retitled_seen}

-- ---- one buffer changed

-- a live buffer, and those after it was changed
pub record IsAt (c : Core) (b : BufId) (x : Buffer) : Type 0 where
  pub live : live_in c.buffers b ≡ Some x

pub at_is : (c : Core) (b : BufId) (x : Buffer) → IsAt c b x → buffer_at c b.0 ≡ x
at_is c b x h = ap (λ o. unwrap_or o (new_buffer 0)) h.live

-- each other buffer is as it was
pub live_either : (f : Buffer → Buffer) (c : Core) (b : BufId) (x : Buffer) → IsAt c b x → (e : ℕ) →
    (live_in (changed f c.buffers b) (record { 0 = e }) ≡ live_in c.buffers (record { 0 = e })) ⊎ ((b.0 ≡ e) × (live_in (changed f c.buffers b) (record { 0 = e }) ≡ Some (f x)))
live_either f c b x h e =
    ⊎_elim
    (λ q. inl (ap (option_and_then (λ y. y)) q))
    (λ q. inr (q.0, ap (option_and_then (λ y. y)) q.1 ∙ ap (option_map f) h.live))
    (set_at c.buffers b.0 e (option_map f (live_in c.buffers b)))

-- what f keeps of the buffer is kept of all
pub all_kept : {A : Type 0} (h : Buffer → A) (f : Buffer → Buffer) (c : Core) (b : BufId) (x : Buffer) → IsAt c b x → h (f x) ≡ h x → (e : ℕ) →
    h (buffer_at (record c { buffers = changed f c.buffers b }) e) ≡ h (buffer_at c e)
all_kept h f c b x is same e =
    ⊎_elim
    (λ q. ap (λ o. h (unwrap_or o (new_buffer 0))) q)
    (λ q. ap (λ o. h (unwrap_or o (new_buffer 0))) q.1 ∙ same ∙ ap h (sym (at_is c b x is) ∙ ap (buffer_at c) q.0))
    (live_either f c b x is e)

-- ---- a mapping of a buffer that isn't changed, or of a ghost, stays

pub stays : (f : Buffer → Buffer) (c : Core) (b : BufId) (x : Buffer) → IsAt c b x → (p q : ℕ) (m : BufferMaps c p q) → (b.0 ≡ m.b.0 → ⊥) → Maps (record c { buffers = changed f c.buffers b }) p q
stays f c b x is p q m ne =
    ⊎_elim
    (λ s. inl (record { b = m.b; buffer = m.buffer; live = s ∙ m.live; mem = m.mem; at = m.at; here = m.here; there = m.there }))
    (λ s. absurd (ne s.0))
    (live_either f c b x is m.b.0)

pub ghost_stays : (f : Buffer → Buffer) (c : Core) (b : BufId) (p q : ℕ) → GhostMaps c p q → Maps (record c { buffers = changed f c.buffers b }) p q
ghost_stays f c b p q m = inr (record { place = m.place; ghost = m.ghost; is = m.is; at = m.at; here = m.here; there = m.there })

-- a mapped page is mapped as before, or is one of the buffer's
pub spared_but : (script : Script) (f : Buffer → Buffer) (c : Core) (b : BufId) (x : Buffer) → IsAt c b x → AreHeldOnce script (record c { buffers = changed f c.buffers b }) →
    (v : View) → Good no_bytes v → (i : ℕ) → ((p q : ℕ) (m : BufferMaps c p q) → b.0 ≡ m.b.0 → touched (v.left i) (Frame q) ≡ false) → (p : ℕ) →
    Spared (aperture c) (aperture (record c { buffers = changed f c.buffers b })) (touched (v.left i)) p
spared_but script f c b x is once v g i own p = by (aperture c p) refl
  where
    found : (q : ℕ) → aperture c p ≡ Some q → Maps c p q → Spared (aperture c) (aperture (record c { buffers = changed f c.buffers b })) (touched (v.left i)) p
    found q e (inr m) = inl (maps_aperture script (record c { buffers = changed f c.buffers b }) once p q (ghost_stays f c b p q m) ∙ sym e)
    found q e (inl m) =
        ⊎_elim
        (λ same. inr (subst (λ o. touched (v.left i) (seen (pages.mapped_page o)) ≡ false) (sym e) (own p q m same)))
        (λ ne. inl (maps_aperture script (record c { buffers = changed f c.buffers b }) once p q (stays f c b x is p q m ne) ∙ sym e))
        (cases_eq b.0 m.b.0)

    by : (o : Option ℕ) → aperture c p ≡ o → Spared (aperture c) (aperture (record c { buffers = changed f c.buffers b })) (touched (v.left i)) p
    by None e = unmapped_spared v g (aperture c) (aperture (record c { buffers = changed f c.buffers b })) i p e
    by (Some q) e = found q e (aperture_maps c p q e)

-- ---- an idle buffer

pub among_all : (p : JobId → Bool) (q : Fence → Bool) (fs : List Fence) → list_any p (map (λ f. f.job) (filter q fs)) ≡ true → list_any p (map (λ f. f.job) fs) ≡ true
among_all p q [] h = h
among_all p q (f ∷ fs) h = by (q f) (p f.job) refl (among_all p q fs) h
  where
    by : (t u : Bool) → p f.job ≡ u → (list_any p (map (λ f. f.job) (filter q fs)) ≡ true → list_any p (map (λ f. f.job) fs) ≡ true) →
        list_any p (map (λ f. f.job) (if t then f ∷ filter q fs else filter q fs)) ≡ true → (u || list_any p (map (λ f. f.job) fs)) ≡ true
    by t true e rest h = refl
    by true false e rest h = rest (ap (λ z. z || list_any p (map (λ f. f.job) (filter q fs))) (sym e) ∙ h)
    by false false e rest h = rest h

-- where nothing is waited for before a write, all jobs of the buffer are done
pub idle_done : (script : Script) (c : Core) (owed_probes : OwedProbes) (m : Memory) (bytes : pages.PageBytes) (v : View) → Seen script c owed_probes m bytes v → (b : ℕ) →
    waited_for c (jobs_before_write (buffer_at c b)) ≡ None → (j : ℕ) → is_fence v.fences b false j ≡ true → v.done j ≡ true
idle_done script c owed_probes m bytes v s b none j h =
    ⊎_elim
    (λ e.
    let f = s.strong b j e in
    s.done j f.job f.at ∙ waited_is_done c (jobs_before_write (buffer_at c b)) j f.job none f.at (among_all (same_job f.job.id) changes (buffer_at c b).fences f.has))
    (λ e. let f = s.shared b j e in s.done j f.job f.at ∙ waited_is_done c (jobs_before_write (buffer_at c b)) j f.job none f.at f.has)
    (or_cases (v.fences.strong b j) (v.fences.shared b j) h)

-- ---- the entries

module _ (script : Script) (c : Core) (owed_probes : OwedProbes) (m : Memory) (bytes : pages.PageBytes) (v : View) (s : Seen script c owed_probes m bytes v) (g : Good no_bytes v)
    (f : Buffer → Buffer) (b : BufId) (x : Buffer) (is : IsAt c b x) (once : AreHeldOnce script (record c { buffers = changed f c.buffers b }))
    (live : (k : ℕ) → live_at (f x) k ≡ live_at x k) (kept : (k : ℕ) → kept_in (f x).mem (f x) k ≡ kept_in x.mem x k) (target : (k : ℕ) → target_at (f x) k ≡ target_at x k)
    (place : (i : ℕ) → page_at (f x) i ≡ page_at x i) (fences : (f x).fences ≡ x.fences)
    (spared : (i p : ℕ) → Spared (aperture c) (aperture (record c { buffers = changed f c.buffers b })) (touched (v.left i)) p) where
  same_holds : SameHolds (bare c) (bare (record c { buffers = changed f c.buffers b }))
  same_holds = record {
    live = λ e k. all_kept (λ y. live_at y k) f c b x is (live k) e;
    kept = λ e k. all_kept (λ y. kept_in y.mem y k) f c b x is (kept k) e;
    target = λ e k. all_kept (λ y. target_at y k) f c b x is (target k) e;
    ghosts = refl;
  }

  pub carried_good : Good no_bytes (retitled v.fences (owner_of (bare (record c { buffers = changed f c.buffers b }))) v)
  carried_good =
      untake_keeps no_bytes v g (owner_of (bare (record c { buffers = changed f c.buffers b })))
      (λ y. inl (owners_same (bare c) (bare (record c { buffers = changed f c.buffers b })) (held_once script (bare (record c { buffers = changed f c.buffers b })) once) same_holds y ∙ sym (s.owner y)))

  pub carried_seen : Seen script (record c { buffers = changed f c.buffers b }) owed_probes m bytes (retitled v.fences (owner_of (bare (record c { buffers = changed f c.buffers b }))) v)
  carried_seen =
      retitled_seen script c owed_probes m bytes v (changed f c.buffers b) c.ghosts v.fences s
      (record {
        prior = refl;
        strong = λ e j h.
            changing_kept c (record c { buffers = changed f c.buffers b }) (keep_all c.jobs) e j
            (λ i w. ap (list_any (same_job i)) (all_kept jobs_before_read f c b x is (ap (λ fs. map (λ (y : Fence). y.job) (filter changes fs)) fences) e) ∙ w)
            (s.strong e j h);
        shared = λ e j h.
            using_kept c (record c { buffers = changed f c.buffers b }) (keep_all c.jobs) e j
            (λ i w. ap (list_any (same_job i)) (all_kept jobs_before_write f c b x is (ap (map (λ (y : Fence). y.job)) fences) e) ∙ w)
            (s.shared e j h);
        ghost = λ n j h. ghostly_kept c (record c { buffers = changed f c.buffers b }) (keep_all c.jobs) n j (λ i y w. w) (s.ghost n j h);
        mover = refl;
        place = λ e i. all_kept (λ y. page_at y i) f c b x is (place i) e;
        spared = spared;
      })

-- in SYSTEM and TT a page stands where the table says
pub stands_by_table : (y : Buffer) (i : ℕ) → (y.mem ≡ mem.Vram → ⊥) → page_at y i ≡ page_in_table (loc_of y i)
stands_by_table y i ne = by y.mem refl
  where
    by : (l : Mem) → y.mem ≡ l → page_in l y i ≡ page_in_table (loc_of y i)
    by mem.System e = refl
    by mem.Tt e = refl
    by mem.Vram e = absurd (ne e)

pub keeps_none : (y : Buffer) (i : ℕ) → (y.mem ≡ mem.Vram → ⊥) → kept_in y.mem y i ≡ Nowhere
keeps_none y i ne = by y.mem refl
  where
    by : (l : Mem) → y.mem ≡ l → kept_in l y i ≡ Nowhere
    by mem.System e = refl
    by mem.Tt e = refl
    by mem.Vram e = absurd (ne e)

pub not_vram : (l : Mem) (y : Buffer) → y.mem ≡ l → (l ≡ mem.Vram → ⊥) → y.mem ≡ mem.Vram → ⊥
not_vram l y e ne f = ne (sym e ∙ f)

module _ (script : Script) (c : Core) (owed_probes : OwedProbes) (m : Memory) (bytes : pages.PageBytes) (v : View) (s : Seen script c owed_probes m bytes v) (g : Good no_bytes v) (b : BufId) (x : Buffer) (is : IsAt c b x) where
  -- from SYSTEM into TT
  module _ (system : x.mem ≡ mem.System) (once : AreHeldOnce script (record c { buffers = changed bound c.buffers b })) where
    bind_spares : (i p : ℕ) → Spared (aperture c) (aperture (record c { buffers = changed bound c.buffers b })) (touched (v.left i)) p
    bind_spares i p =
        spared_but script bound c b x is once v g i
        (λ q f w e.
        let both : Some x ≡ Some w.buffer = sym is.live ∙ ap (λ n. live_in c.buffers (record { 0 = n })) e ∙ w.live in
        let one : x ≡ w.buffer = cc in
        let clash : mem.System ≡ mem.Tt = sym system ∙ ap (λ (y : Buffer). y.mem) one ∙ w.mem in
        cc)
        p

    bind_place : (i : ℕ) → page_at (bound x) i ≡ page_at x i
    bind_place i = sym (stands_by_table x i (not_vram mem.System x system (λ e. cc)))

    pub bind_good : Good no_bytes (retitled v.fences (owner_of (bare (record c { buffers = changed bound c.buffers b }))) v)
    bind_good =
        carried_good script c owed_probes m bytes v s g bound b x is once (λ k. ap seen (bind_place k)) (λ k. sym (keeps_none x k (not_vram mem.System x system (λ e. cc)))) (λ k. refl) bind_place refl bind_spares

    pub bind_seen : Seen script (record c { buffers = changed bound c.buffers b }) owed_probes m bytes (retitled v.fences (owner_of (bare (record c { buffers = changed bound c.buffers b }))) v)
    bind_seen =
        carried_seen script c owed_probes m bytes v s g bound b x is once (λ k. ap seen (bind_place k)) (λ k. sym (keeps_none x k (not_vram mem.System x system (λ e. cc)))) (λ k. refl) bind_place refl bind_spares

  -- from TT into SYSTEM, once all jobs are done
  module _ (tt : x.mem ≡ mem.Tt) (idle : waited_for c (jobs_before_write x) ≡ None) (once : AreHeldOnce script (record c { buffers = changed unbound c.buffers b })) (before : HeldOnce (bare c)) where
    jobs_done : (j : ℕ) → is_fence v.fences b.0 false j ≡ true → v.done j ≡ true
    jobs_done = idle_done script c owed_probes m bytes v s b.0 (subst (λ y. waited_for c (jobs_before_write y) ≡ None) (sym (at_is c b x is)) idle)

    unbind_spares : (i p : ℕ) → Spared (aperture c) (aperture (record c { buffers = changed unbound c.buffers b })) (touched (v.left i)) p
    unbind_spares i p = spared_but script unbound c b x is once v g i own p
      where
        own : (p q : ℕ) (w : BufferMaps c p q) → b.0 ≡ w.b.0 → touched (v.left i) (Frame q) ≡ false
        own p q w e =
            let both : Some x ≡ Some w.buffer = sym is.live ∙ ap (λ n. live_in c.buffers (record { 0 = n })) e ∙ w.live in
            let one : x ≡ w.buffer = cc in
            let at : slice_get x.table w.at ≡ Some (loc.Frame q) = ap (λ (y : Buffer). slice_get y.table w.at) one ∙ w.there in
            let stands : page_at x w.at ≡ pages.frame q = stands_by_table x w.at (not_vram mem.Tt x tt (λ e. cc)) ∙ ap (λ o. page_in_table (unwrap_or o loc.Zero)) at in
            let holds : live_at (buffer_at c b.0) w.at ≡ Frame q = ap (λ y. live_at y w.at) (at_is c b x is) ∙ ap seen stands in
            done_untouched no_bytes v g b.0 w.at (Frame q) (s.owner (Frame q) ∙ owner_is (bare c) before (Frame q) (Live b.0 w.at) (λ z. cc) holds) jobs_done i

    unbind_place : (i : ℕ) → page_at (unbound x) i ≡ page_at x i
    unbind_place i = sym (stands_by_table x i (not_vram mem.Tt x tt (λ e. cc)))

    pub unbind_good : Good no_bytes (retitled v.fences (owner_of (bare (record c { buffers = changed unbound c.buffers b }))) v)
    unbind_good =
        carried_good script c owed_probes m bytes v s g unbound b x is once (λ k. ap seen (unbind_place k)) (λ k. sym (keeps_none x k (not_vram mem.Tt x tt (λ e. cc)))) (λ k. refl) unbind_place refl unbind_spares

    pub unbind_seen : Seen script (record c { buffers = changed unbound c.buffers b }) owed_probes m bytes (retitled v.fences (owner_of (bare (record c { buffers = changed unbound c.buffers b }))) v)
    unbind_seen =
        carried_seen script c owed_probes m bytes v s g unbound b x is once (λ k. ap seen (unbind_place k)) (λ k. sym (keeps_none x k (not_vram mem.Tt x tt (λ e. cc)))) (λ k. refl) unbind_place refl unbind_spares
