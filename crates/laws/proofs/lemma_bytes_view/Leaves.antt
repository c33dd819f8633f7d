-- A buffer with unfinished jobs is freed, and leaves a ghost: its pages, its frames and its jobs are the ghost's.
use Rattle.std.proofs.Common.{◌≡◌, ℕ, ◌+◌, ◌*◌, zero, suc, Bool, true, false, List, [], ◌∷◌, ◌++◌, length, Option, Some, None, refl, sym, subst, ◌∙◌, ap, ◌⊎◌, inl, inr, ⊎_elim}
use Rattle.std.specs.Prelude.{slice_get, slice_set, drop, nat_lt, nat_eq, not, cond, ◌&&◌, ◌||◌, option_and_then, unwrap_or, if◌then◌else◌}
use Rattle.std.specs.List.{list_any}
use Rattle.std.proofs.lemmas.Bool.{cases_Bool, cases_eq, eqb-true, eq-eqb, and_parts, or_cases}
use Rattle.ttm_base.specs.declared.Mem.{Mem}
use Rattle.ttm_base.specs.declared.Mem.TheVariants as mem
use Rattle.ttm_base.specs.declared.BufId.{BufId}
use Rattle.ttm_base.specs.declared.JobId.{JobId}
use Rattle.ttm_base.specs.declared.Loc.{Loc}
use Rattle.ttm_base.specs.declared.Loc.TheVariants as loc
use Rattle.ttm_base.specs.Reach.{same_mem}
use Rattle.ttm_base.specs.Pages as pages
use Rattle.journal_model.specs.declared.script.Script.{Script}
use Rattle.journal_model.specs.declared.state.Core.{Core}
use Rattle.journal_model.specs.declared.state.Buffer.{Buffer}
use Rattle.journal_model.specs.declared.state.Job.{Job}
use Rattle.journal_model.specs.declared.state.Ghost as ghosts
use Rattle.journal_model.specs.rules.State.{live_in, new_buffer, target_spans}
use Rattle.journal_model.specs.rules.Places.{pages_of, aperture, place_of, page_at, page_in, page_in_table, loc_of}
use Rattle.journal_model.specs.rules.Holds.{has_number}
use Rattle.journal_model.specs.rules.Waits.{same_job, changes, unfinished, jobs_before_read, jobs_before_write}
use Rattle.journal_model.specs.rules.PlainMemory.{Memory, OwedProbes, with_zeros}
use Rattle.journal_model.specs.rules.ApplyCommands.{ghost_of_freed}
use Rattle.laws.proofs.law_state.Lists.{set_at, get_pushed}
use Rattle.laws.proofs.law_owners.Law.{AreHeldOnce}
use Rattle.laws.specs.lemma_bytes_model.Memory.{Page, Nowhere, Vram, Frame, Slot, Own, touched}
use Rattle.laws.specs.lemma_bytes_model.View.{View, Good, Owner, Idle, Free, Live, Kept, Target, Ghost, is_fence}
use Rattle.laws.specs.lemma_bytes_model.Entries.{freed, Fate}
use Rattle.laws.proofs.lemma_bytes_model.Owners.{free_keeps}
use Rattle.laws.specs.law_holders.Holding.{seen, live_at, kept_in, target_at, in_ghost, buffer_at, Holds, HeldOnce}
use Rattle.laws.specs.law_holders.Maps.{Maps}
use Rattle.laws.proofs.law_holders.HeldOnce.{held_once, in_vram_is, in_vram, live_is, LiveVram, LiveTable, Located, in_frame, in_slot}
use Rattle.laws.proofs.law_holders.Owner.{owner_of, owner_is, owner_none, owning, unheld, by_place, unheld-live, unheld-target, idle-live, idle-target, live-target, kept-target}
use Rattle.laws.proofs.law_holders.Mapped.{aperture_maps, maps_aperture}
use Rattle.laws.proofs.lemma_bytes_view.World.{Seen, bare, IsGhostly}
use Rattle.laws.proofs.lemma_bytes_view.PacketStep.{no_bytes}
use Rattle.laws.proofs.lemma_bytes_view.Apertures.{Spared, steps_same, unmapped_spared}
use Rattle.laws.proofs.lemma_bytes_view.Binds.{IsAt, at_is, among_all, stands_by_table, not_vram}
use Rattle.laws.proofs.lemma_bytes_view.News.{fresh_page}
use Rattle.laws.proofs.lemma_bytes_view.Frees.{without, without_keeps}
use Rattle.laws.proofs.lemma_bytes_view.MoreJobs.{get_last, get_front, among_unfinished}
use Rattle.laws.proofs.lemma_bytes_view.Viewed.{Viewed}
use Rattle.laws.proofs.lemma_bytes_view.Tables.{AllFrames, frame_at, frame_stands, frame_listed, has_at, at_has}

set_none : (bs : List (Option Buffer)) (k : ℕ) → option_and_then (λ y. y) (slice_get (slice_set bs k None) k) ≡ None
set_none [] k = refl
set_none (o ∷ bs) zero = refl
set_none (o ∷ bs) (suc k) = set_none bs k

-- the job at a place is one of these
abbrev among_at : List JobId → Option Job → Bool
among_at ws None = false
among_at ws (Some y) = list_any (same_job y.id) ws

abbrev is_left : List Job → List JobId → ℕ → Bool
is_left jobs ws j = among_at ws (slice_get jobs j)

record Left (jobs : List Job) (ws : List JobId) (j : ℕ) : Type 0 where
  job : Job
  at : slice_get jobs j ≡ Some job
  has : list_any (same_job job.id) ws ≡ true

left_is : (jobs : List Job) (ws : List JobId) (j : ℕ) → is_left jobs ws j ≡ true → Left jobs ws j
left_is jobs ws j h = by (slice_get jobs j) refl h
  where
    by : (o : Option Job) → slice_get jobs j ≡ o → among_at ws o ≡ true → Left jobs ws j
    by None e g = cc
    by (Some y) e g = record { job = y; at = e; has = g }

module _ (script : Script) (c : Core) (owed_probes : OwedProbes) (m : Memory) (bytes : pages.PageBytes) (u : Viewed script c owed_probes m bytes)
    (b : BufId) (x : Buffer) (is : IsAt c b x) (gn : ℕ) (held : AreHeldOnce script c)
    (once : AreHeldOnce script (record c { buffers = slice_set c.buffers b.0 None; ghosts = c.ghosts ++ ghost_of_freed c x gn ∷ [] }))
    (full : x.mem ≡ mem.Tt → AllFrames x.table) where
  abbrev v : View
  v = u.view

  abbrev s : Seen script c owed_probes m bytes u.view
  s = u.seen

  abbrev g : Good no_bytes u.view
  g = u.good

  abbrev left : ghosts.Ghost
  left = ghost_of_freed c x gn

  abbrev d : Core
  d = record c { buffers = slice_set c.buffers b.0 None; ghosts = c.ghosts ++ left ∷ [] }

  before : HeldOnce (bare c)
  before = held_once script (bare c) held

  now_once : HeldOnce (bare d)
  now_once = held_once script (bare d) once

  dead : (e : ℕ) → b.0 ≡ e → live_in (slice_set c.buffers b.0 None) (record { 0 = e }) ≡ None
  dead e q = subst (λ k. live_in (slice_set c.buffers b.0 None) (record { 0 = k }) ≡ None) q (set_none c.buffers b.0)

  dead_is : (e : ℕ) → b.0 ≡ e → buffer_at d e ≡ new_buffer 0
  dead_is e q = ap (λ o. unwrap_or o (new_buffer 0)) (dead e q)

  other_live : (e : ℕ) → (b.0 ≡ e → ⊥) → live_in (slice_set c.buffers b.0 None) (record { 0 = e }) ≡ live_in c.buffers (record { 0 = e })
  other_live e ne = ⊎_elim (λ q. ap (option_and_then (λ y. y)) q) (λ q. absurd (ne q.0)) (set_at c.buffers b.0 e None)

  other_is : (e : ℕ) → (b.0 ≡ e → ⊥) → buffer_at d e ≡ buffer_at c e
  other_is e ne = ap (λ o. unwrap_or o (new_buffer 0)) (other_live e ne)

  was_is : buffer_at c b.0 ≡ x
  was_is = at_is c b x is

  -- ---- the ghost has what the buffer had

  abbrev OfBuffer : Page → Type 0
  OfBuffer p = (j : ℕ) × (Holds (bare c) p (Live b.0 j) ⊎ Holds (bare c) p (Kept b.0 j))

  ghost_was : (p : Page) → in_ghost p left ≡ true → OfBuffer p
  ghost_was (Vram n) h = by x.mem refl h
    where
      by : (l : Mem) → x.mem ≡ l → has_number (pages_of (if same_mem l mem.Vram then x.spans else [])) n ≡ true → OfBuffer (Vram n)
      by mem.Vram e g =
          let r = at_has (pages_of x.spans) n g in
          (r.0, inl (ap (λ y. live_at y r.0) was_is ∙ ap (λ l. seen (page_in l x r.0)) e ∙ ap (λ o. seen (page_of o)) r.1))
        where
          page_of : Option ℕ → pages.Page
          page_of None = pages.nowhere
          page_of (Some k) = pages.vram k
      by mem.Tt e g = cc
      by mem.System e g = cc
  ghost_was (Frame f) h =
      let r = frame_stands x.table f h in
      let loc_is : seen (page_in_table (loc_of x r.0)) ≡ Frame f = ap (λ o. seen (page_in_table (unwrap_or o loc.Zero))) r.1 in
      by x.mem refl r.0 loc_is
    where
      by : (l : Mem) → x.mem ≡ l → (k : ℕ) → seen (page_in_table (loc_of x k)) ≡ Frame f → OfBuffer (Frame f)
      by mem.Vram e k q = (k, inr (ap (λ (y : Buffer). kept_in y.mem y k) was_is ∙ ap (λ l. kept_in l x k) e ∙ q))
      by mem.Tt e k q = (k, inl (ap (λ y. live_at y k) was_is ∙ ap seen (stands_by_table x k (not_vram mem.Tt x e (λ z. cc))) ∙ q))
      by mem.System e k q = (k, inl (ap (λ y. live_at y k) was_is ∙ ap seen (stands_by_table x k (not_vram mem.System x e (λ z. cc))) ∙ q))
  ghost_was (Slot k) h = cc
  ghost_was Nowhere h = cc
  ghost_was (Own e i) h = cc

  -- each page of the buffer that isn't in swap
  data IsLeft (p : Page) : Type 0 where
    with_ghost : in_ghost p left ≡ true → IsLeft p
    in_swap : (k : ℕ) → p ≡ Slot k → IsLeft p

  live_left : (p : Page) (k : ℕ) → (p ≡ Nowhere → ⊥) → live_at x k ≡ p → IsLeft p
  live_left p k ne h = ⊎_elim (λ z. by_vram z.0 z.1 z.2) (λ z. by_table z) (live_is x k p h ne)
    where
      by_vram : (n : ℕ) → p ≡ Vram n → LiveVram x k n → IsLeft p
      by_vram n e l =
          with_ghost
          (ap (λ q. in_ghost q left) e ∙ ap (λ ss. has_number (pages_of ss) n) (in_vram x l.mem) ∙ has_at (pages_of x.spans) k n l.at)

      by_loc : (l : Loc) (q : Page) → slice_get x.table k ≡ Some l → Located l q → IsLeft q
      by_loc l q at (in_frame {f = f}) = with_ghost (frame_listed x.table k f at)
      by_loc l q at (in_slot {k = j}) = in_swap j refl

      by_table : LiveTable x k p → IsLeft p
      by_table l = by_loc l.loc p l.at l.is

  -- ---- owners

  back : (y : Page) → (y ≡ Nowhere → ⊥) → (o : Owner) → Holds (bare d) y o → Holds (bare c) y o ⊎ OfBuffer y
  back y ne Idle h = inl h
  back y ne Free h = inl h
  back y ne (Live e k) h =
      ⊎_elim (λ q. absurd (ne (sym h ∙ ap (λ z. live_at z k) (dead_is e q) ∙ ap seen (fresh_page 0 k)))) (λ q. inl (ap (λ z. live_at z k) (sym (other_is e q)) ∙ h)) (cases_eq b.0 e)
  back y ne (Kept e k) h =
      ⊎_elim (λ q. absurd (ne (sym h ∙ ap (λ (z : Buffer). kept_in z.mem z k) (dead_is e q)))) (λ q. inl (ap (λ (z : Buffer). kept_in z.mem z k) (sym (other_is e q)) ∙ h)) (cases_eq b.0 e)
  back y ne (Target e k) h =
      ⊎_elim (λ q. absurd (ne (sym h ∙ ap (λ z. target_at z k) (dead_is e q)))) (λ q. inl (ap (λ z. target_at z k) (sym (other_is e q)) ∙ h)) (cases_eq b.0 e)
  back y ne (Ghost n) h =
      ⊎_elim
      (λ z. inl (h.0, h.1, z, h.3, h.4))
      (λ z. inr (ghost_was y (subst (λ (w : ghosts.Ghost). in_ghost y w ≡ true) z.1 h.4)))
      (get_pushed c.ghosts left h.1 h.0 h.2)

  none_of : (y : Page) (k : ℕ) → owner_of (bare d) y ≡ Live b.0 k → ⊥
  none_of y k e = by y e
    where
      at : (y : Page) → (y ≡ Nowhere → ⊥) → (unheld y ≡ Live b.0 k → ⊥) → owner_of (bare d) y ≡ Live b.0 k → ⊥
      at y ne un e =
          ⊎_elim
          (λ h. let l : live_at (buffer_at d b.0) k ≡ y = subst (Holds (bare d) y) e h in ne (sym l ∙ ap (λ z. live_at z k) (dead_is b.0 refl) ∙ ap seen (fresh_page 0 k)))
          (λ n. un (sym n.1 ∙ e))
          (owning (bare d) y ne).fact

      by : (y : Page) → owner_of (bare d) y ≡ Live b.0 k → ⊥
      by = by_place (λ y. owner_of (bare d) y ≡ Live b.0 k → ⊥) (idle-live b.0 k) (λ y ne. at y ne (unheld-live y b.0 k))

  no_target_of : (y : Page) (k : ℕ) → owner_of (bare d) y ≡ Target b.0 k → ⊥
  no_target_of y k e = by y e
    where
      at : (y : Page) → (y ≡ Nowhere → ⊥) → (unheld y ≡ Target b.0 k → ⊥) → owner_of (bare d) y ≡ Target b.0 k → ⊥
      at y ne un e =
          ⊎_elim
          (λ h. let l : target_at (buffer_at d b.0) k ≡ y = subst (Holds (bare d) y) e h in ne (sym l ∙ ap (λ z. target_at z k) (dead_is b.0 refl)))
          (λ n. un (sym n.1 ∙ e))
          (owning (bare d) y ne).fact

      by : (y : Page) → owner_of (bare d) y ≡ Target b.0 k → ⊥
      by = by_place (λ y. owner_of (bare d) y ≡ Target b.0 k → ⊥) (idle-target b.0 k) (λ y ne. at y ne (unheld-target y b.0 k))

  fate : (y : Page) → Fate v b.0 gn y (owner_of (bare d) y)
  fate y = by_page y
    where
      stays : (y : Page) → (y ≡ Nowhere → ⊥) → (p : Owner) → v.owner y ≡ p → Holds (bare d) y p → owner_of (bare d) y ≡ v.owner y
      stays y ne p e h = owner_is (bare d) now_once y p ne h ∙ sym e

      none_now : (y : Page) → (y ≡ Nowhere → ⊥) → (k : ℕ) → Holds (bare c) y (Target b.0 k) → (o : Owner) → Holds (bare d) y o → ⊥
      none_now y ne k t o h =
          ⊎_elim
          (λ w.
          let same = before y o (Target b.0 k) ne w t in
          let l : target_at (buffer_at d b.0) k ≡ y = subst (Holds (bare d) y) same h in
          ne (sym l ∙ ap (λ z. target_at z k) (dead_is b.0 refl)))
          (λ w.
          ⊎_elim
          (λ q. live-target b.0 w.0 b.0 k (before y (Live b.0 w.0) (Target b.0 k) ne q t))
          (λ q. kept-target b.0 w.0 b.0 k (before y (Kept b.0 w.0) (Target b.0 k) ne q t))
          w.1)
          (back y ne o h)

      lives : (y : Page) → (y ≡ Nowhere → ⊥) → (k : ℕ) → v.owner y ≡ Live b.0 k → IsLeft y → Fate v b.0 gn y (owner_of (bare d) y)
      lives y ne k e (with_ghost h) = inr (inl (k, e, owner_is (bare d) now_once y (Ghost gn) ne (length c.ghosts, left, get_last c.ghosts left, refl, h)))
      lives y ne k e (in_swap j q) = inr (inr (inl (k, e, λ i. ap (touched (v.left i)) q ∙ g.slots i j)))

      held_so : (y : Page) → (y ≡ Nowhere → ⊥) → (p : Owner) → v.owner y ≡ p → Holds (bare c) y p → Fate v b.0 gn y (owner_of (bare d) y)
      held_so y ne Idle e h = absurd h
      held_so y ne Free e h = absurd h
      held_so y ne (Live e k) q h =
          ⊎_elim
          (λ r. lives y ne k (q ∙ ap (λ a. Live a k) (sym r)) (live_left y k ne (ap (λ z. live_at z k) (sym was_is ∙ ap (buffer_at c) r) ∙ h)))
          (λ r. inr (inr (inr (inr (stays y ne (Live e k) q (ap (λ z. live_at z k) (other_is e r) ∙ h))))))
          (cases_eq b.0 e)
      held_so y ne (Kept e k) q h =
          ⊎_elim
          (λ r. inl (k, q ∙ ap (λ a. Kept a k) (sym r)))
          (λ r. inr (inr (inr (inr (stays y ne (Kept e k) q (ap (λ (z : Buffer). kept_in z.mem z k) (other_is e r) ∙ h))))))
          (cases_eq b.0 e)
      held_so y ne (Target e k) q h =
          ⊎_elim
          (λ r.
          let mine : Holds (bare c) y (Target b.0 k) = subst (λ a. target_at (buffer_at c a) k ≡ y) (sym r) h in
          let w = in_vram_is (slice_get (pages_of (target_spans mem.Vram (buffer_at c b.0))) k) y mine ne in
          let free : owner_of (bare d) y ≡ Free = owner_none (bare d) y ne (none_now y ne k mine) ∙ ap unheld w.2 in
          inr (inr (inr (inl (k, q ∙ ap (λ a. Target a k) (sym r), free)))))
          (λ r. inr (inr (inr (inr (stays y ne (Target e k) q (ap (λ z. target_at z k) (other_is e r) ∙ h))))))
          (cases_eq b.0 e)
      held_so y ne (Ghost n) q h = inr (inr (inr (inr (stays y ne (Ghost n) q (h.0, h.1, get_front c.ghosts (left ∷ []) h.0 h.1 h.2, h.3, h.4)))))

      of_none : (y : Page) → ((o : Owner) → Holds (bare c) y o → ⊥) → (o : Owner) → Holds (bare c) y o ⊎ OfBuffer y → ⊥
      of_none y none o (inl h) = none o h
      of_none y none o (inr w) = ⊎_elim (λ q. none (Live b.0 w.0) q) (λ q. none (Kept b.0 w.0) q) w.1

      at : (y : Page) → (y ≡ Nowhere → ⊥) → Fate v b.0 gn y (owner_of (bare d) y)
      at y ne =
          ⊎_elim
          (λ h. held_so y ne (owner_of (bare c) y) (s.owner y) h)
          (λ n. inr (inr (inr (inr (owner_none (bare d) y ne (λ o h. of_none y n.0 o (back y ne o h)) ∙ sym n.1 ∙ sym (s.owner y))))))
          (owning (bare c) y ne).fact

      by_page : (y : Page) → Fate v b.0 gn y (owner_of (bare d) y)
      by_page = by_place (λ y. Fate v b.0 gn y (owner_of (bare d) y)) (inr (inr (inr (inr (sym (s.owner Nowhere)))))) at

  -- ---- jobs

  abbrev jobs : ℕ → Bool
  jobs = is_left c.jobs (unfinished c (jobs_before_write x))

  waited : (j : ℕ) → is_fence v.fences b.0 false j ≡ true → (is_left c.jobs (unfinished c (jobs_before_write x)) j ≡ true) ⊎ (v.done j ≡ true)
  waited j h =
      ⊎_elim
      (λ e.
      let f = s.strong b.0 j e in
      let w : list_any (same_job f.job.id) (jobs_before_read x) ≡ true = ap (λ y. list_any (same_job f.job.id) (jobs_before_read y)) (sym was_is) ∙ f.has in
      by f.job j f.at (among_all (same_job f.job.id) changes x.fences w))
      (λ e.
      let f = s.shared b.0 j e in
      by f.job j f.at (ap (λ y. list_any (same_job f.job.id) (jobs_before_write y)) (sym was_is) ∙ f.has))
      (or_cases (v.fences.strong b.0 j) (v.fences.shared b.0 j) h)
    where
      by : (y : Job) (j : ℕ) → slice_get c.jobs j ≡ Some y → list_any (same_job y.id) (jobs_before_write x) ≡ true → (is_left c.jobs (unfinished c (jobs_before_write x)) j ≡ true) ⊎ (v.done j ≡ true)
      by y j at w =
          ⊎_elim
          (λ t. inr (s.done j y at ∙ t))
          (λ f. inl (ap (among_at (unfinished c (jobs_before_write x))) at ∙ among_unfinished c (jobs_before_write x) j y at f w))
          (cases_Bool y.finished)

  abbrev gone : View
  gone = freed b.0 (owner_of (bare d)) gn jobs no_bytes v

  abbrev new : View
  new = record gone { fences = without b.0 gone.fences }

  leave_good : Good no_bytes (record (freed b.0 (owner_of (bare d)) gn jobs no_bytes v) { fences = without b.0 (freed b.0 (owner_of (bare d)) gn jobs no_bytes v).fences })
  leave_good = without_keeps (freed b.0 (owner_of (bare d)) gn jobs no_bytes v) b.0 (free_keeps no_bytes v g b.0 gn jobs (owner_of (bare d)) waited fate refl) none_of no_target_of

  -- ---- seen

  maps_stay : (p q : ℕ) → Maps c p q → Maps d p q
  maps_stay p q (inr w) = inr (record { place = w.place; ghost = w.ghost; is = get_front c.ghosts (left ∷ []) w.place w.ghost w.is; at = w.at; here = w.here; there = w.there })
  maps_stay p q (inl w) =
      ⊎_elim
      (λ e.
      let both : Some x ≡ Some w.buffer = sym is.live ∙ ap (λ i. live_in c.buffers (record { 0 = i })) e ∙ w.live in
      let one : x ≡ w.buffer = cc in
      let tt_is : x.mem ≡ mem.Tt = ap (λ (y : Buffer). y.mem) one ∙ w.mem in
      inr (record {
        place = length c.ghosts;
        ghost = left;
        is = get_last c.ghosts left;
        at = w.at;
        here = ap (λ ss. slice_get (pages_of ss) w.at) (in_tt x.mem tt_is) ∙ ap (λ (y : Buffer). slice_get (pages_of y.spans) w.at) one ∙ w.here;
        there = frame_at x.table (full tt_is) w.at q (ap (λ (y : Buffer). slice_get y.table w.at) one ∙ w.there);
      }))
      (λ ne. inl (record { b = w.b; buffer = w.buffer; live = other_live w.b.0 ne ∙ w.live; mem = w.mem; at = w.at; here = w.here; there = w.there }))
      (cases_eq b.0 w.b.0)
    where
      in_tt : (l : Mem) → l ≡ mem.Tt → (if same_mem l mem.Tt then x.spans else []) ≡ x.spans
      in_tt mem.Tt e = refl
      in_tt mem.Vram e = cc
      in_tt mem.System e = cc

  spared : (i p : ℕ) → Spared (aperture c) (aperture d) (touched (v.left i)) p
  spared i p = by (aperture c p) refl
    where
      by : (o : Option ℕ) → aperture c p ≡ o → Spared (aperture c) (aperture d) (touched (v.left i)) p
      by None e = unmapped_spared v g (aperture c) (aperture d) i p e
      by (Some q) e = inl (maps_aperture script d once p q (maps_stay p q (aperture_maps c p q e)) ∙ sym e)

  place_after : (e k : ℕ) → cond (nat_eq b.0 e) Nowhere (v.place e k) ≡ seen (place_of d (record { 0 = e }) k)
  place_after e k =
      ⊎_elim
      (λ q. ap (λ t. cond t Nowhere (v.place e k)) (eq-eqb b.0 e q) ∙ sym (ap (λ z. seen (page_at z k)) (dead_is e q) ∙ ap seen (fresh_page 0 k)))
      (λ q. by (nat_eq b.0 e) refl q)
      (cases_eq b.0 e)
    where
      by : (t : Bool) → nat_eq b.0 e ≡ t → (b.0 ≡ e → ⊥) → cond t Nowhere (v.place e k) ≡ seen (place_of d (record { 0 = e }) k)
      by true t q = absurd (q (eqb-true b.0 e t))
      by false t q = s.place e k ∙ ap (λ z. seen (page_at z k)) (sym (other_is e q))

  plain_after : (e i o : ℕ) → cond (nat_eq b.0 e) no_bytes (v.plain (Own e i)) o ≡ (if nat_lt o 4096 then with_zeros b m e (4096 * i + o) else 0)
  plain_after e i o = by (nat_eq b.0 e)
    where
      zero_either : (q : Bool) → ◌≡◌ {A = ℕ} 0 (if q then 0 else 0)
      zero_either true = refl
      zero_either false = refl

      by : (q : Bool) → cond q no_bytes (v.plain (Own e i)) o ≡ (if nat_lt o 4096 then (if q then 0 else m e (4096 * i + o)) else 0)
      by true = zero_either (nat_lt o 4096)
      by false = s.plain e i o

  waits_of : (a : Bool) (e : ℕ) → (a && not (nat_eq b.0 e)) ≡ true → (a ≡ true) × (b.0 ≡ e → ⊥)
  waits_of a e h =
      let parts = and_parts a (not (nat_eq b.0 e)) h in
      (parts.0, λ q. no (nat_eq b.0 e) (eq-eqb b.0 e q) parts.1)
    where
      no : (q : Bool) → q ≡ true → not q ≡ true → ⊥
      no true e f = cc
      no false e f = cc

  ghost_after : (n j : ℕ) → (v.fences.ghost n j || (nat_eq gn n && is_left c.jobs (unfinished c (jobs_before_write x)) j)) ≡ true → IsGhostly d n j
  ghost_after n j h =
      ⊎_elim
      (λ a. let f = s.ghost n j a in record { job = f.job; at = f.at; place = f.place; ghost = f.ghost; there = get_front c.ghosts (left ∷ []) f.place f.ghost f.there; number = f.number; has = f.has })
      (λ a.
      let parts = and_parts (nat_eq gn n) (is_left c.jobs (unfinished c (jobs_before_write x)) j) a in
      let l = left_is c.jobs (unfinished c (jobs_before_write x)) j parts.1 in
      record { job = l.job; at = l.at; place = length c.ghosts; ghost = left; there = get_last c.ghosts left; number = eqb-true gn n parts.0; has = l.has })
      (or_cases (v.fences.ghost n j) (nat_eq gn n && is_left c.jobs (unfinished c (jobs_before_write x)) j) h)

  leave_seen : Seen script d owed_probes (with_zeros b m) bytes (record (freed b.0 (owner_of (bare d)) gn jobs no_bytes v) { fences = without b.0 (freed b.0 (owner_of (bare d)) gn jobs no_bytes v).fences })
  leave_seen = record {
    count = s.count;
    left = λ i y e.
        let was = s.left i y e in
        was ∙ sym (steps_same (aperture c) (aperture d) (owed_probes y.id) y.ran (drop y.ran y.packets) (λ p. subst (λ t. Spared (aperture c) (aperture d) (touched t) p) was (spared i p)));
    begun = s.begun;
    done = s.done;
    prior = s.prior;
    strong = λ e j h.
        let w = waits_of (v.fences.strong e j) e h in
        let f = s.strong e j w.0 in
        record { job = f.job; at = f.at; has = ap (λ z. list_any (same_job f.job.id) (jobs_before_read z)) (other_is e w.1) ∙ f.has };
    shared = λ e j h.
        let w = waits_of (v.fences.shared e j) e h in
        let f = s.shared e j w.0 in
        record { job = f.job; at = f.at; has = ap (λ z. list_any (same_job f.job.id) (jobs_before_write z)) (other_is e w.1) ∙ f.has };
    ghost = ghost_after;
    mover = λ j h. let f = s.mover j h in record { job = f.job; at = f.at; is = f.is };
    place = place_after;
    owner = λ y. refl;
    there = s.there;
    stores = s.stores;
    cut = s.cut;
    plain = plain_after;
  }

  pub leave_viewed : Viewed script (record c { buffers = slice_set c.buffers b.0 None; ghosts = c.ghosts ++ ghost_of_freed c x gn ∷ [] }) owed_probes (with_zeros b m) bytes
  leave_viewed = record {
    view = record (freed b.0 (owner_of (bare d)) gn jobs no_bytes v) { fences = without b.0 (freed b.0 (owner_of (bare d)) gn jobs no_bytes v).fences };
    good = leave_good;
    seen = leave_seen;
  }
