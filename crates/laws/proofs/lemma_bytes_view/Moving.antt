-- A buffer moves by a new job: what any move keeps, by where the buffer stood, where it stands, and what becomes of the pages it left.
use mathlib.Core.Path.{fun_ext}
use Rattle.std.proofs.Common.{◌≡◌, ℕ, ◌+◌, ◌-◌, ◌*◌, ◌<◌, ◌≤◌, zero, suc, Bool, true, false, List, [], ◌∷◌, ◌++◌, length, Option, Some, None, refl, sym, subst, ◌∙◌, ap, ap₂, arith, ◌⊎◌, inl, inr, ⊎_elim}
use Rattle.std.specs.Prelude.{slice_get, slice_set, map, drop, nat_eq, nat_le, nat_lt, cond, option_map, option_and_then, unwrap_or, ◌&&◌, ◌||◌, if◌then◌else◌}
use Rattle.std.specs.List.{list_any}
use Rattle.std.proofs.lemmas.Bool.{cases_eq, cases_lt, eqb-true, eq-eqb, and_parts, or_cases}
use Rattle.std.proofs.lemmas.Bool.Decides.{nat_tests}
use Rattle.ttm_base.specs.declared.Mem.{Mem}
use Rattle.ttm_base.specs.declared.BufId.{BufId}
use Rattle.ttm_base.specs.declared.JobId.{JobId}
use Rattle.ttm_base.specs.ListWords.{count_from}
use Rattle.ttm_base.specs.Pages as pages
use Rattle.journal_model.specs.declared.script.Script.{Script}
use Rattle.journal_model.specs.declared.state.Core.{Core}
use Rattle.journal_model.specs.declared.state.Buffer.{Buffer}
use Rattle.journal_model.specs.declared.state.Job.{Job}
use Rattle.journal_model.specs.declared.state.Ghost as ghosts
use Rattle.journal_model.specs.rules.State.{changed, new_buffer, target_spans, with_target}
use Rattle.journal_model.specs.rules.Places.{aperture, place_of, packet_place, name_in_spans}
use Rattle.journal_model.specs.rules.Waits.{same_job, changes, unfinished, jobs_before_read, jobs_before_write}
use Rattle.journal_model.specs.rules.Stores.{is_there}
use Rattle.journal_model.specs.rules.PlainMemory.{Memory, OwedProbes}
use Rattle.journal_model.specs.rules.ApplyMoves.{moved, move_packets, copy_of_page, table_left}
use Rattle.laws.proofs.law_owners.Law.{AreHeldOnce}
use Rattle.laws.specs.lemma_bytes_model.Memory as memory
use Rattle.laws.specs.lemma_bytes_model.Memory.{Page, Bytes, Nowhere, Slot, Own, Step, Write, touched}
use Rattle.laws.specs.lemma_bytes_model.View.{View, Good, Owner, Idle, Free, Live, Kept, Target, Ghost, is_fence}
use Rattle.laws.specs.lemma_bytes_model.Entries as entries
use Rattle.laws.specs.lemma_bytes_model.Entries.{has, copies, moved_to_ghost, moved_now, MoveLegal}
use Rattle.laws.proofs.lemma_bytes_model.Actions.{or_first, or_second}
use Rattle.laws.proofs.lemma_bytes_model.Move.{copies_touched, move_to_ghost_keeps, move_now_keeps}
use Rattle.laws.specs.law_holders.Holding.{seen, live_at, kept_in, target_at, in_ghost, buffer_at, Holds, HeldOnce}
use Rattle.laws.specs.law_holders.Maps.{Maps}
use Rattle.laws.proofs.law_holders.HeldOnce.{held_once}
use Rattle.laws.proofs.law_holders.Owner.{owner_of, owner_is, owner_same}
use Rattle.laws.proofs.law_holders.Mapped.{aperture_maps, maps_aperture}
use Rattle.laws.proofs.law_holders.There.{held_there}
use Rattle.laws.specs.lemma_bytes_view.Seen.{put_in, meant, steps_from, steps_of}
use Rattle.laws.proofs.lemma_bytes_view.World.{Seen, bare, IsChanging, IsUsing, IsGhostly}
use Rattle.laws.proofs.lemma_bytes_view.Kept.{keep_more, changing_kept, using_kept, ghostly_kept, mover_kept}
use Rattle.laws.proofs.lemma_bytes_view.PacketStep.{no_bytes}
use Rattle.laws.proofs.lemma_bytes_view.Apertures.{Spared, steps_same, unmapped_spared}
use Rattle.laws.proofs.lemma_bytes_view.Binds.{IsAt, at_is, live_either, among_all}
use Rattle.laws.proofs.lemma_bytes_view.Takes.{readers_stay, writers_stay, one_joins}
use Rattle.laws.proofs.lemma_bytes_view.Viewed.{Viewed}
use Rattle.laws.proofs.lemma_bytes_view.MoreJobs.{get_last, is_prior, prior_is, prior_ring, waited_or_done, emitted_seen}

-- ---- the pages of a count

pub has_count : (n start k : ℕ) → has k (count_from 1 n start) ≡ true → (start ≤ k) × (k < start + n)
has_count zero start k h = cc
has_count (suc n) start k h =
    ⊎_elim
    (λ e. let q : start ≡ k = eqb-true start k e in (omega (arith, q), omega (arith, q)))
    (λ e. let r = has_count n (1 + start) k e in let a = r.0 in let b = r.1 in (omega (arith, a), omega (arith, b)))
    (or_cases (nat_eq start k) (has k (count_from 1 n (1 + start))) h)

pub count_has : (n start k : ℕ) → start ≤ k → k < start + n → has k (count_from 1 n start) ≡ true
count_has zero start k a b = absurd (omega (arith, a, b))
count_has (suc n) start k a b =
    ⊎_elim
    (λ e. or_first (nat_eq start k) (has k (count_from 1 n (1 + start))) (eq-eqb start k e))
    (λ e. or_second (nat_eq start k) (has k (count_from 1 n (1 + start))) (count_has n (1 + start) k (further start k a e) (omega (arith, b))))
    (cases_eq start k)
  where
    further : (i j : ℕ) → i ≤ j → (i ≡ j → ⊥) → 1 + i ≤ j
    further i j l ne = ⊎_elim (λ h. omega (arith, h)) (λ h. absurd (ne (omega (arith, l, h)))) (cases_lt i j)

-- ---- a copy of a page

abbrev pub copied : Bytes → Bytes → Bytes
copied = λ old new. put_in 0 4096 (λ i. new (0 + i)) old

whole_copy : (old new : Bytes) → ((o : ℕ) → nat_lt o 4096 ≡ false → new o ≡ 0) → put_in 0 4096 (λ i. new (0 + i)) old ≡ new
whole_copy old new none = fun_ext (λ o. by o (nat_lt o 4096) refl)
  where
    inner : (o : ℕ) → nat_lt o 4096 ≡ true → (nat_le 0 o && nat_lt o (0 + 4096)) ≡ true
    inner o e = grind (arith, nat_tests)

    by : (o : ℕ) (q : Bool) → nat_lt o 4096 ≡ q → (if q then (if nat_le 0 o && nat_lt o (0 + 4096) then new (0 + (o - 0)) else old o) else 0) ≡ new o
    by o true e = ap (λ r. if r then new (0 + (o - 0)) else old o) (inner o e) ∙ ap new (let z : 0 + (o - 0) ≡ o = omega arith in z)
    by o false e = sym (none o e)

-- ---- the move

module _ (c : Core) (b : BufId) (x : Buffer) (mem : Mem) (n : ℕ) (gs : List ghosts.Ghost) (mj : Option JobId) where
  abbrev pub job_name : JobId
  job_name = record { ctx = 0; num = n }

  abbrev pub move_job : Job
  move_job = record { id = record { ctx = 0; num = n }; waits = unfinished c (jobs_before_write x); packets = move_packets x mem; ran = 0; finished = false }

  abbrev pub moved_core : Core
  moved_core = record {
    buffers = changed (moved mem (record { ctx = 0; num = n })) c.buffers b;
    jobs = c.jobs ++ record { id = record { ctx = 0; num = n }; waits = unfinished c (jobs_before_write x); packets = move_packets x mem; ran = 0; finished = false } ∷ [];
    ghosts = gs;
    move_fence = mj;
  }

-- what each move is to show: places before and after, what the others hold, and what the packets name
pub record Moving (script : Script) (c : Core) (b : BufId) (x : Buffer) (mem : Mem) (n : ℕ) (gs : List ghosts.Ghost) (mj : Option JobId) (owed_probes : OwedProbes) (to : ℕ → Page) : Type 0 where
  pub held : AreHeldOnce script c
  pub once : AreHeldOnce script (moved_core c b x mem n gs mj)
  pub stands : (k : ℕ) → k < length x.table → live_at x k ≡ Nowhere → ⊥
  pub reached : (k m : ℕ) → k < length x.table → live_at x k ≡ Slot m → ⊥
  pub whole : (k : ℕ) → length x.table ≤ k → live_at x k ≡ Nowhere
  pub arrives : (k : ℕ) → k < length x.table → live_at (moved mem (record { ctx = 0; num = n }) x) k ≡ to k
  pub beyond : (k : ℕ) → length x.table ≤ k → live_at (moved mem (record { ctx = 0; num = n }) x) k ≡ Nowhere
  pub ready : (k : ℕ) → k < length x.table → (target_at x k ≡ to k) ⊎ (kept_in x.mem x k ≡ to k)
  pub some : (k : ℕ) → k < length x.table → to k ≡ Nowhere → ⊥
  pub reaches : (k m : ℕ) → k < length x.table → to k ≡ Slot m → ⊥
  pub kept_back : (k : ℕ) (p : Page) → (p ≡ Nowhere → ⊥) → kept_in mem (moved mem (record { ctx = 0; num = n }) x) k ≡ p → kept_in x.mem x k ≡ p
  pub kept_on : (k : ℕ) (p : Page) → (p ≡ Nowhere → ⊥) → kept_in x.mem x k ≡ p → (kept_in mem (moved mem (record { ctx = 0; num = n }) x) k ≡ p) ⊎ ((j : ℕ) × (j < length x.table) × (to j ≡ p))
  pub target_back : (k : ℕ) (p : Page) → (p ≡ Nowhere → ⊥) → target_at (moved mem (record { ctx = 0; num = n }) x) k ≡ p → target_at x k ≡ p
  pub target_on : (k : ℕ) (p : Page) → (p ≡ Nowhere → ⊥) → target_at x k ≡ p → (target_at (moved mem (record { ctx = 0; num = n }) x) k ≡ p) ⊎ ((j : ℕ) × (j < length x.table) × (to j ≡ p))
  pub ghosts_stay : (i : ℕ) (h : ghosts.Ghost) → slice_get c.ghosts i ≡ Some h → slice_get gs i ≡ Some h
  pub ghosts_back : (p : Page) (i : ℕ) (h : ghosts.Ghost) → slice_get gs i ≡ Some h → in_ghost p h ≡ true → (slice_get c.ghosts i ≡ Some h) ⊎ ((k : ℕ) × (k < length x.table) × (live_at x k ≡ p))
  pub maps_stay : (p q : ℕ) → Maps c p q → Maps (moved_core c b x mem n gs mj) p q
  pub names_to : (k : ℕ) → k < length x.table → seen (pages.translated (aperture (moved_core c b x mem n gs mj)) (name_in_spans mem (target_spans mem x) k)) ≡ to k
  pub names_from : (k : ℕ) → k < length x.table → seen (pages.translated (aperture (moved_core c b x mem n gs mj)) (packet_place x k)) ≡ live_at x k
  pub undue : (k : ℕ) → owed_probes (record { ctx = 0; num = n }) k ≡ []

module _ (script : Script) (c : Core) (owed_probes : OwedProbes) (m : Memory) (bytes : pages.PageBytes) (v : View) (s : Seen script c owed_probes m bytes v) (g : Good no_bytes v)
    (b : BufId) (x : Buffer) (is : IsAt c b x) (mem : Mem) (n : ℕ) (gs : List ghosts.Ghost) (mj : Option JobId) (to : ℕ → Page)
    (t : Moving script c b x mem n gs mj owed_probes to) where
  abbrev after : Core
  after = moved_core c b x mem n gs mj

  abbrev new : Job
  new = move_job c b x mem n gs mj

  abbrev ks : List ℕ
  ks = count_from 1 (length x.table) 0

  abbrev pub prior : ℕ → Bool
  prior = is_prior c.jobs (unfinished c (jobs_before_write x)) 0

  inside : (k : ℕ) → has k (count_from 1 (length x.table) 0) ≡ true → k < length x.table
  inside k h = let r = (has_count (length x.table) 0 k h).1 in omega (arith, r)

  outside : (k : ℕ) → has k (count_from 1 (length x.table) 0) ≡ false → length x.table ≤ k
  outside k h = ⊎_elim (λ l. absurd (clash (has k (count_from 1 (length x.table) 0)) (count_has (length x.table) 0 k (omega arith) (omega (arith, l))) h)) (λ l. l) (cases_lt k (length x.table))
    where
      clash : (a : Bool) → a ≡ true → a ≡ false → ⊥
      clash a e f = cc

  -- ---- buffers

  other_is : (e : ℕ) → (b.0 ≡ e → ⊥) → buffer_at (moved_core c b x mem n gs mj) e ≡ buffer_at c e
  other_is e ne = ⊎_elim (λ q. ap (λ o. unwrap_or o (new_buffer 0)) q) (λ q. absurd (ne q.0)) (live_either (moved mem (record { ctx = 0; num = n })) c b x is e)

  here_is : buffer_at (moved_core c b x mem n gs mj) b.0 ≡ moved mem (record { ctx = 0; num = n }) x
  here_is = ap (λ o. unwrap_or o (new_buffer 0)) (set_here c.buffers b.0 is.live)
    where
      set_here : (bs : List (Option Buffer)) (k : ℕ) → option_and_then (λ y. y) (slice_get bs k) ≡ Some x →
          option_and_then (λ y. y) (slice_get (slice_set bs k (option_map (moved mem (record { ctx = 0; num = n })) (option_and_then (λ y. y) (slice_get bs k)))) k) ≡ Some (moved mem (record { ctx = 0; num = n }) x)
      set_here [] k e = cc
      set_here (o ∷ bs) zero e = ap (option_map (moved mem (record { ctx = 0; num = n }))) e
      set_here (o ∷ bs) (suc k) e = set_here bs k e

  was_is : buffer_at c b.0 ≡ x
  was_is = at_is c b x is

  place_was : (k : ℕ) → v.place b.0 k ≡ live_at x k
  place_was k = s.place b.0 k ∙ ap (λ y. live_at y k) was_is

  -- ---- holds

  before : HeldOnce (bare c)
  before = held_once script (bare c) t.held

  now_once : HeldOnce (bare (moved_core c b x mem n gs mj))
  now_once = held_once script (bare (moved_core c b x mem n gs mj)) t.once

  was_live : (k : ℕ) → k < length x.table → v.owner (v.place b.0 k) ≡ Live b.0 k
  was_live k l =
      s.owner (v.place b.0 k)
      ∙ owner_is (bare c) before (v.place b.0 k) (Live b.0 k) (λ e. t.stands k l (sym (place_was k) ∙ e)) (ap (λ y. live_at y k) was_is ∙ sym (place_was k))

  is_live : (k : ℕ) → k < length x.table → owner_of (bare (moved_core c b x mem n gs mj)) (to k) ≡ Live b.0 k
  is_live k l = owner_is (bare (moved_core c b x mem n gs mj)) now_once (to k) (Live b.0 k) (t.some k l) (ap (λ y. live_at y k) here_is ∙ t.arrives k l)

  was_ready : (k : ℕ) → k < length x.table → (v.owner (to k) ≡ Target b.0 k) ⊎ (v.owner (to k) ≡ Kept b.0 k)
  was_ready k l =
      ⊎_elim
      (λ e. inl (s.owner (to k) ∙ owner_is (bare c) before (to k) (Target b.0 k) (t.some k l) (ap (λ y. target_at y k) was_is ∙ e)))
      (λ e. inr (s.owner (to k) ∙ owner_is (bare c) before (to k) (Kept b.0 k) (t.some k l) (ap (λ y. kept_in y.mem y k) was_is ∙ e)))
      (t.ready k l)

  -- a page that is neither an old nor a new place has the owner that it had
  abbrev NotTo : Page → Type 0
  NotTo p = (k : ℕ) → k < length x.table → to k ≡ p → ⊥

  abbrev NotFrom : Page → Type 0
  NotFrom p = (k : ℕ) → k < length x.table → live_at x k ≡ p → ⊥

  forth : (p : Page) → (p ≡ Nowhere → ⊥) → NotTo p → NotFrom p → (o : Owner) → Holds (bare c) p o → Holds (bare (moved_core c b x mem n gs mj)) p o
  forth p ne not_to not_from Idle h = h
  forth p ne not_to not_from Free h = h
  forth p ne not_to not_from (Live e k) h =
      ⊎_elim
      (λ q.
      let l : live_at x k ≡ p = ap (λ y. live_at y k) (sym was_is ∙ ap (buffer_at c) q) ∙ h in
      absurd (⊎_elim (λ i. not_from k i l) (λ o. ne (sym l ∙ t.whole k o)) (cases_lt k (length x.table))))
      (λ q. ap (λ y. live_at y k) (other_is e q) ∙ h)
      (cases_eq b.0 e)
  forth p ne not_to not_from (Kept e k) h =
      ⊎_elim
      (λ q.
      let l : kept_in x.mem x k ≡ p = ap (λ y. kept_in y.mem y k) (sym was_is ∙ ap (buffer_at c) q) ∙ h in
      ⊎_elim
      (λ i. subst (λ d. kept_in (buffer_at (moved_core c b x mem n gs mj) d).mem (buffer_at (moved_core c b x mem n gs mj) d) k ≡ p) q (ap (λ (y : Buffer). kept_in y.mem y k) here_is ∙ i))
      (λ i. absurd (not_to i.0 i.1 i.2))
      (t.kept_on k p ne l))
      (λ q. ap (λ (y : Buffer). kept_in y.mem y k) (other_is e q) ∙ h)
      (cases_eq b.0 e)
  forth p ne not_to not_from (Target e k) h =
      ⊎_elim
      (λ q.
      let l : target_at x k ≡ p = ap (λ y. target_at y k) (sym was_is ∙ ap (buffer_at c) q) ∙ h in
      ⊎_elim
      (λ i. subst (λ d. target_at (buffer_at (moved_core c b x mem n gs mj) d) k ≡ p) q (ap (λ y. target_at y k) here_is ∙ i))
      (λ i. absurd (not_to i.0 i.1 i.2))
      (t.target_on k p ne l))
      (λ q. ap (λ y. target_at y k) (other_is e q) ∙ h)
      (cases_eq b.0 e)
  forth p ne not_to not_from (Ghost i) h = (h.0, h.1, t.ghosts_stay h.0 h.1 h.2, h.3, h.4)

  back : (p : Page) → (p ≡ Nowhere → ⊥) → NotTo p → NotFrom p → (o : Owner) → Holds (bare (moved_core c b x mem n gs mj)) p o → Holds (bare c) p o
  back p ne not_to not_from Idle h = h
  back p ne not_to not_from Free h = h
  back p ne not_to not_from (Live e k) h =
      ⊎_elim
      (λ q.
      let l : live_at (moved mem (record { ctx = 0; num = n }) x) k ≡ p = ap (λ y. live_at y k) (sym here_is ∙ ap (buffer_at (moved_core c b x mem n gs mj)) q) ∙ h in
      absurd (⊎_elim (λ i. not_to k i (sym (t.arrives k i) ∙ l)) (λ o. ne (sym l ∙ t.beyond k o)) (cases_lt k (length x.table))))
      (λ q. ap (λ y. live_at y k) (sym (other_is e q)) ∙ h)
      (cases_eq b.0 e)
  back p ne not_to not_from (Kept e k) h =
      ⊎_elim
      (λ q.
      let l : kept_in mem (moved mem (record { ctx = 0; num = n }) x) k ≡ p = ap (λ (y : Buffer). kept_in y.mem y k) (sym here_is ∙ ap (buffer_at (moved_core c b x mem n gs mj)) q) ∙ h in
      subst (λ d. kept_in (buffer_at c d).mem (buffer_at c d) k ≡ p) q (ap (λ (y : Buffer). kept_in y.mem y k) was_is ∙ t.kept_back k p ne l))
      (λ q. ap (λ (y : Buffer). kept_in y.mem y k) (sym (other_is e q)) ∙ h)
      (cases_eq b.0 e)
  back p ne not_to not_from (Target e k) h =
      ⊎_elim
      (λ q.
      let l : target_at (moved mem (record { ctx = 0; num = n }) x) k ≡ p = ap (λ y. target_at y k) (sym here_is ∙ ap (buffer_at (moved_core c b x mem n gs mj)) q) ∙ h in
      subst (λ d. target_at (buffer_at c d) k ≡ p) q (ap (λ y. target_at y k) was_is ∙ t.target_back k p ne l))
      (λ q. ap (λ y. target_at y k) (sym (other_is e q)) ∙ h)
      (cases_eq b.0 e)
  back p ne not_to not_from (Ghost i) h = ⊎_elim (λ z. (h.0, h.1, z, h.3, h.4)) (λ z. absurd (not_from z.0 z.1 z.2)) (t.ghosts_back p h.0 h.1 h.2 h.4)

  stay : (p : Page) → NotTo p → NotFrom p → owner_of (bare (moved_core c b x mem n gs mj)) p ≡ v.owner p
  stay p not_to not_from = by p not_to not_from
    where
      at : (p : Page) → (p ≡ Nowhere → ⊥) → NotTo p → NotFrom p → owner_of (bare (moved_core c b x mem n gs mj)) p ≡ v.owner p
      at p ne not_to not_from = owner_same (bare c) (bare (moved_core c b x mem n gs mj)) now_once p ne (forth p ne not_to not_from) (back p ne not_to not_from) ∙ sym (s.owner p)

      by : (p : Page) → NotTo p → NotFrom p → owner_of (bare (moved_core c b x mem n gs mj)) p ≡ v.owner p
      by Nowhere a f = sym (s.owner Nowhere)
      by (memory.Vram i) a f = at (memory.Vram i) (λ e. cc) a f
      by (memory.Frame i) a f = at (memory.Frame i) (λ e. cc) a f
      by (Slot i) a f = at (Slot i) (λ e. cc) a f
      by (Own d i) a f = at (Own d i) (λ e. cc) a f

  -- ---- whom it waits for

  prior_emitted : (j : ℕ) → is_prior c.jobs (unfinished c (jobs_before_write x)) 0 j ≡ true → j < v.count
  prior_emitted j h =
      let p = prior_is c.jobs (unfinished c (jobs_before_write x)) 0 j h in
      let l = within c.jobs j p.job p.at in
      let e : v.count ≡ length c.jobs = s.count in
      omega (arith, l, e)
    where
      within : (xs : List Job) (i : ℕ) (y : Job) → slice_get xs i ≡ Some y → i < length xs
      within [] i y e = cc
      within (z ∷ zs) zero y e = omega arith
      within (z ∷ zs) (suc i) y e = let l = within zs i y e in omega (arith, l)

  waited : (j : ℕ) → is_fence v.fences b.0 false j ≡ true → (is_prior c.jobs (unfinished c (jobs_before_write x)) 0 j ≡ true) ⊎ (v.done j ≡ true)
  waited j h =
      ⊎_elim
      (λ e.
      let f = s.strong b.0 j e in
      let w : list_any (same_job f.job.id) (jobs_before_read x) ≡ true = ap (λ y. list_any (same_job f.job.id) (jobs_before_read y)) (sym was_is) ∙ f.has in
      by f.job j f.at (among_all (same_job f.job.id) changes x.fences w))
      (λ e.
      let f = s.shared b.0 j e in
      by f.job j f.at (ap (λ y. list_any (same_job f.job.id) (jobs_before_write y)) (sym was_is) ∙ f.has))
      (or_cases (v.fences.strong b.0 j) (v.fences.shared b.0 j) h)
    where
      by : (y : Job) (j : ℕ) → slice_get c.jobs j ≡ Some y → list_any (same_job y.id) (jobs_before_write x) ≡ true → (is_prior c.jobs (unfinished c (jobs_before_write x)) 0 j ≡ true) ⊎ (v.done j ≡ true)
      by y j at w = ⊎_elim (λ a. inl a) (λ a. inr (s.done j y at ∙ a)) (waited_or_done c (jobs_before_write x) 0 j y at w)

  -- ---- what is legal about it

  brings : (k : ℕ) (old : Bytes) → put_in 0 4096 (λ i. v.plain (Own b.0 k) (0 + i)) old ≡ v.plain (Own b.0 k)
  brings k old = whole_copy old (v.plain (Own b.0 k)) (λ o e. s.plain b.0 k o ∙ ap (λ q. if q then m b.0 (4096 * k + o) else 0) e)

  pub legal : (gone : Owner) → ((k : ℕ) → k < length x.table → owner_of (bare (moved_core c b x mem n gs mj)) (live_at x k) ≡ gone) →
      MoveLegal v copied b.0 to (count_from 1 (length x.table) 0) (is_prior c.jobs (unfinished c (jobs_before_write x)) 0) gone (owner_of (bare (moved_core c b x mem n gs mj)))
  legal gone leaves = record {
    brings = λ k old h. brings k old;
    emitted = prior_emitted;
    waited = waited;
    stands = λ k h. was_live k (inside k h);
    reached = λ k i h e. t.reached k i (inside k h) (sym (place_was k) ∙ e);
    whole = λ k h. place_was k ∙ t.whole k (outside k h);
    ready = λ k h. was_ready k (inside k h);
    reaches = λ k i h e. t.reaches k i (inside k h) e;
    somewhere = λ k h e. t.some k (inside k h) e;
    arrive = λ k h. is_live k (inside k h);
    leave = λ k h. ap (owner_of (bare (moved_core c b x mem n gs mj))) (place_was k) ∙ leaves k (inside k h);
    stay = λ p not_to not_from.
        stay p
        (λ k l e. not_to k (count_has (length x.table) 0 k (omega arith) (omega (arith, l))) e)
        (λ k l e. not_from k (count_has (length x.table) 0 k (omega arith) (omega (arith, l))) (place_was k ∙ e));
  }

  -- ---- packets

  drop_none : {X : Type 0} (xs : List X) → drop 0 xs ≡ xs
  drop_none [] = refl
  drop_none (y ∷ ys) = refl

  copies_are : (i len start : ℕ) → ((k : ℕ) → start ≤ k → k < start + len → k < length x.table) →
      steps_from (aperture (moved_core c b x mem n gs mj)) (owed_probes (record { ctx = 0; num = n })) i (map (λ k. copy_of_page (name_in_spans mem (target_spans mem x) k) (packet_place x k)) (count_from 1 len start))
      ≡ copies copied to (v.place b.0) (count_from 1 len start)
  copies_are i zero start within = refl
  copies_are i (suc len) start within =
      let l : start < length x.table = within start (omega arith) (omega arith) in
      ap₂ (λ (first : Step) (rest : List Step). first ∷ rest)
      (one_is (t.names_to start l) (t.names_from start l ∙ sym (place_was start)) (t.undue i))
      (copies_are (suc i) len (1 + start) (λ k a q. within k (omega (arith, a)) (omega (arith, q))))
    where
      one_is : {p q : Page} {due : List ℕ} →
          seen (pages.translated (aperture (moved_core c b x mem n gs mj)) (name_in_spans mem (target_spans mem x) start)) ≡ p →
          seen (pages.translated (aperture (moved_core c b x mem n gs mj)) (packet_place x start)) ≡ q → due ≡ [] →
          ◌≡◌ {A = Step} (record { packet = meant (aperture (moved_core c b x mem n gs mj)) (copy_of_page (name_in_spans mem (target_spans mem x) start) (packet_place x start)); due = due })
          (record { packet = Write p q copied; due = [] })
      one_is e f d = ap₂ (λ (w : memory.Packet) (u : List ℕ). record { packet = w; due = u }) (ap₂ (λ p q. Write p q copied) e f) d

  new_steps : steps_of (aperture (moved_core c b x mem n gs mj)) owed_probes (move_job c b x mem n gs mj) ≡ copies copied to (v.place b.0) (count_from 1 (length x.table) 0)
  new_steps =
      ap (steps_from (aperture (moved_core c b x mem n gs mj)) (owed_probes (record { ctx = 0; num = n })) 0) (drop_none (move_packets x mem))
      ∙ copies_are 0 (length x.table) 0 (λ k a q. omega (arith, q))

  spared : (i p : ℕ) → Spared (aperture c) (aperture (moved_core c b x mem n gs mj)) (touched (v.left i)) p
  spared i p = by (aperture c p) refl
    where
      by : (o : Option ℕ) → aperture c p ≡ o → Spared (aperture c) (aperture (moved_core c b x mem n gs mj)) (touched (v.left i)) p
      by None e = unmapped_spared v g (aperture c) (aperture (moved_core c b x mem n gs mj)) i p e
      by (Some q) e = inl (maps_aperture script (moved_core c b x mem n gs mj) t.once p q (t.maps_stay p q (aperture_maps c p q e)) ∙ sym e)

  -- ---- places, and pages that are there

  place_after : (e k : ℕ) → cond (nat_eq b.0 e && has k (count_from 1 (length x.table) 0)) (to k) (v.place e k) ≡ seen (place_of (moved_core c b x mem n gs mj) (record { 0 = e }) k)
  place_after e k = by (nat_eq b.0 e && has k (count_from 1 (length x.table) 0)) refl
    where
      no : (p q : Bool) → p ≡ true → (p && q) ≡ false → q ≡ false
      no true q e f = f
      no false q e f = cc

      by : (q : Bool) → (nat_eq b.0 e && has k (count_from 1 (length x.table) 0)) ≡ q → cond q (to k) (v.place e k) ≡ seen (place_of (moved_core c b x mem n gs mj) (record { 0 = e }) k)
      by true h =
          let parts = and_parts (nat_eq b.0 e) (has k (count_from 1 (length x.table) 0)) h in
          sym (ap (λ d. live_at (buffer_at (moved_core c b x mem n gs mj) d) k) (sym (eqb-true b.0 e parts.0)) ∙ ap (λ y. live_at y k) here_is ∙ t.arrives k (inside k parts.1))
      by false h =
          ⊎_elim
          (λ q.
          let o : length x.table ≤ k = outside k (no (nat_eq b.0 e) (has k (count_from 1 (length x.table) 0)) (eq-eqb b.0 e q) h) in
          ap (λ d. v.place d k) (sym q) ∙ place_was k ∙ t.whole k o
          ∙ sym (ap (λ d. live_at (buffer_at (moved_core c b x mem n gs mj) d) k) (sym q) ∙ ap (λ y. live_at y k) here_is ∙ t.beyond k o))
          (λ q. s.place e k ∙ ap (λ y. live_at y k) (sym (other_is e q)))
          (cases_eq b.0 e)

  there : (p : pages.Page) → touched (copies copied to (v.place b.0) (count_from 1 (length x.table) 0)) (seen p) ≡ true → is_there script.sizes p ≡ true
  there p h =
      let z = copies_touched copied to (v.place b.0) (count_from 1 (length x.table) 0) (seen p) h in
      let l = inside z.0 z.1 in
      ⊎_elim
      (λ e.
      held_there script (moved_core c b x mem n gs mj) t.once p (Live b.0 z.0) (ap (λ y. live_at y z.0) here_is ∙ t.arrives z.0 l ∙ e)
      (λ q. t.some z.0 l (e ∙ ap seen q)))
      (λ e.
      held_there script c t.held p (Live b.0 z.0) (ap (λ y. live_at y z.0) was_is ∙ sym (place_was z.0) ∙ e)
      (λ q. t.stands z.0 l (sym (place_was z.0) ∙ e ∙ ap seen q)))
      z.2

  -- ---- fences

  readers_kept : (e : ℕ) (i : JobId) → list_any (same_job i) (jobs_before_read (buffer_at c e)) ≡ true → list_any (same_job i) (jobs_before_read (buffer_at (moved_core c b x mem n gs mj) e)) ≡ true
  readers_kept e i w =
      ⊎_elim
      (λ q.
      let w' : list_any (same_job i) (jobs_before_read x) ≡ true = ap (λ y. list_any (same_job i) (jobs_before_read y)) (sym was_is ∙ ap (buffer_at c) q) ∙ w in
      ap (λ d. list_any (same_job i) (jobs_before_read (buffer_at (moved_core c b x mem n gs mj) d))) (sym q)
      ∙ ap (λ y. list_any (same_job i) (jobs_before_read y)) here_is
      ∙ readers_stay (same_job i) (record { ctx = 0; num = n } ∷ []) (record x { mem = mem; spans = target_spans mem x; targets = with_target mem None x.targets; table = table_left x.mem x.table }) w')
      (λ q. ap (λ y. list_any (same_job i) (jobs_before_read y)) (other_is e q) ∙ w)
      (cases_eq b.0 e)

  writers_kept : (e : ℕ) (i : JobId) → list_any (same_job i) (jobs_before_write (buffer_at c e)) ≡ true → list_any (same_job i) (jobs_before_write (buffer_at (moved_core c b x mem n gs mj) e)) ≡ true
  writers_kept e i w =
      ⊎_elim
      (λ q.
      let w' : list_any (same_job i) (jobs_before_write x) ≡ true = ap (λ y. list_any (same_job i) (jobs_before_write y)) (sym was_is ∙ ap (buffer_at c) q) ∙ w in
      ap (λ d. list_any (same_job i) (jobs_before_write (buffer_at (moved_core c b x mem n gs mj) d))) (sym q)
      ∙ ap (λ y. list_any (same_job i) (jobs_before_write y)) here_is
      ∙ writers_stay (same_job i) (record { ctx = 0; num = n } ∷ []) (record x { mem = mem; spans = target_spans mem x; targets = with_target mem None x.targets; table = table_left x.mem x.table }) w')
      (λ q. ap (λ y. list_any (same_job i) (jobs_before_write y)) (other_is e q) ∙ w)
      (cases_eq b.0 e)

  new_at : slice_get (c.jobs ++ move_job c b x mem n gs mj ∷ []) v.count ≡ Some (move_job c b x mem n gs mj)
  new_at = ap (slice_get (c.jobs ++ move_job c b x mem n gs mj ∷ [])) s.count ∙ get_last c.jobs (move_job c b x mem n gs mj)

  strong_after : (e j : ℕ) → (v.fences.strong e j || (nat_eq v.count j && nat_eq b.0 e)) ≡ true → IsChanging (moved_core c b x mem n gs mj) e j
  strong_after e j h =
      ⊎_elim
      (λ a. changing_kept c (moved_core c b x mem n gs mj) (keep_more c.jobs (move_job c b x mem n gs mj)) e j (readers_kept e) (s.strong e j a))
      (λ a.
      let parts = and_parts (nat_eq v.count j) (nat_eq b.0 e) a in
      let at : v.count ≡ j = eqb-true v.count j parts.0 in
      let eb : b.0 ≡ e = eqb-true b.0 e parts.1 in
      record {
        job = move_job c b x mem n gs mj;
        at = subst (λ i. slice_get (c.jobs ++ move_job c b x mem n gs mj ∷ []) i ≡ Some (move_job c b x mem n gs mj)) at new_at;
        has = subst (λ d. list_any (same_job (record { ctx = 0; num = n })) (jobs_before_read (buffer_at (moved_core c b x mem n gs mj) d)) ≡ true) eb
            (ap (λ y. list_any (same_job (record { ctx = 0; num = n })) (jobs_before_read y)) here_is
            ∙ one_joins (record { ctx = 0; num = n }) (record x { mem = mem; spans = target_spans mem x; targets = with_target mem None x.targets; table = table_left x.mem x.table }));
      })
      (or_cases (v.fences.strong e j) (nat_eq v.count j && nat_eq b.0 e) h)

  shared_after : (e j : ℕ) → v.fences.shared e j ≡ true → IsUsing (moved_core c b x mem n gs mj) e j
  shared_after e j h = using_kept c (moved_core c b x mem n gs mj) (keep_more c.jobs (move_job c b x mem n gs mj)) e j (writers_kept e) (s.shared e j h)

  ghost_before : (i j : ℕ) → v.fences.ghost i j ≡ true → IsGhostly (moved_core c b x mem n gs mj) i j
  ghost_before i j h = ghostly_kept c (moved_core c b x mem n gs mj) (keep_more c.jobs (move_job c b x mem n gs mj)) i j t.ghosts_stay (s.ghost i j h)

  old_steps : (i : ℕ) (y : Job) → slice_get c.jobs i ≡ Some y → steps_of (aperture (moved_core c b x mem n gs mj)) owed_probes y ≡ steps_of (aperture c) owed_probes y
  old_steps i y e =
      steps_same (aperture c) (aperture (moved_core c b x mem n gs mj)) (owed_probes y.id) y.ran (drop y.ran y.packets)
      (λ p. subst (λ l. Spared (aperture c) (aperture (moved_core c b x mem n gs mj)) (touched l) p) (s.left i y e) (spared i p))

  -- ---- to a ghost

  module _ (gn : ℕ) (leaves : (k : ℕ) → k < length x.table → owner_of (bare (moved_core c b x mem n gs mj)) (live_at x k) ≡ Ghost gn)
      (at_ghost : ℕ) (left : ghosts.Ghost) (ghost_there : slice_get gs at_ghost ≡ Some left) (ghost_num : left.num ≡ gn) (ghost_has : left.jobs ≡ record { ctx = 0; num = n } ∷ []) (mover_same : c.move_fence ≡ mj) where
    to_ghost_good : Good no_bytes (entries.moved copied b.0 to (count_from 1 (length x.table) 0) (moved_to_ghost v.count b.0 gn (is_prior c.jobs (unfinished c (jobs_before_write x)) 0) v.fences) (owner_of (bare (moved_core c b x mem n gs mj))) v)
    to_ghost_good =
        move_to_ghost_keeps no_bytes v g copied b.0 to (count_from 1 (length x.table) 0) (is_prior c.jobs (unfinished c (jobs_before_write x)) 0) (owner_of (bare (moved_core c b x mem n gs mj))) gn
        (legal (Ghost gn) leaves)

    ghost_after : (i j : ℕ) → (v.fences.ghost i j || (nat_eq v.count j && nat_eq gn i)) ≡ true → IsGhostly (moved_core c b x mem n gs mj) i j
    ghost_after i j h =
        ⊎_elim
        (λ a. ghost_before i j a)
        (λ a.
        let parts = and_parts (nat_eq v.count j) (nat_eq gn i) a in
        let at : v.count ≡ j = eqb-true v.count j parts.0 in
        record {
          job = move_job c b x mem n gs mj;
          at = subst (λ k. slice_get (c.jobs ++ move_job c b x mem n gs mj ∷ []) k ≡ Some (move_job c b x mem n gs mj)) at new_at;
          place = at_ghost;
          ghost = left;
          there = ghost_there;
          number = ghost_num ∙ eqb-true gn i parts.1;
          has = ap (list_any (same_job (record { ctx = 0; num = n }))) ghost_has ∙ only;
        })
        (or_cases (v.fences.ghost i j) (nat_eq v.count j && nat_eq gn i) h)
      where
        only : list_any (same_job (record { ctx = 0; num = n })) (record { ctx = 0; num = n } ∷ []) ≡ true
        only = or_first (nat_eq 0 0 && nat_eq n n) false (ap (λ q. q) (eq-eqb n n refl))

    to_ghost_seen : Seen script (moved_core c b x mem n gs mj) owed_probes m bytes (entries.moved copied b.0 to (count_from 1 (length x.table) 0) (moved_to_ghost v.count b.0 gn (is_prior c.jobs (unfinished c (jobs_before_write x)) 0) v.fences) (owner_of (bare (moved_core c b x mem n gs mj))) v)
    to_ghost_seen =
        emitted_seen script c owed_probes owed_probes m m bytes v s g (move_job c b x mem n gs mj) (changed (moved mem (record { ctx = 0; num = n })) c.buffers b) gs mj
        (moved_to_ghost v.count b.0 gn (is_prior c.jobs (unfinished c (jobs_before_write x)) 0) v.fences)
        (λ e k. cond (nat_eq b.0 e && has k (count_from 1 (length x.table) 0)) (to k) (v.place e k))
        (copies copied to (v.place b.0) (count_from 1 (length x.table) 0)) v.plain
        (record {
          fresh = refl;
          undone = refl;
          old = old_steps;
          steps = new_steps;
          prior = refl;
          strong = strong_after;
          shared = shared_after;
          ghost = ghost_after;
          mover = λ j h. mover_kept c (moved_core c b x mem n gs mj) (keep_more c.jobs (move_job c b x mem n gs mj)) j mover_same (s.mover j h);
          place = place_after;
          there = there;
        })
        s.plain

    pub to_ghost_viewed : Viewed script (moved_core c b x mem n gs mj) owed_probes m bytes
    to_ghost_viewed = record {
      view = entries.moved copied b.0 to (count_from 1 (length x.table) 0) (moved_to_ghost v.count b.0 gn (is_prior c.jobs (unfinished c (jobs_before_write x)) 0) v.fences) (owner_of (bare (moved_core c b x mem n gs mj))) v;
      good = to_ghost_good;
      seen = to_ghost_seen;
    }

  -- ---- with pages that are free at once

  module _ (leaves : (k : ℕ) → k < length x.table → owner_of (bare (moved_core c b x mem n gs mj)) (live_at x k) ≡ Free)
      (ring : (i : JobId) → c.move_fence ≡ Some i → i.ctx ≡ 0) (mover_new : mj ≡ Some (record { ctx = 0; num = n })) where
    last_first : (j : ℕ) → v.fences.mover ≡ Some j → (is_prior c.jobs (unfinished c (jobs_before_write x)) 0 j ≡ true) ⊎ (v.done j ≡ true)
    last_first j e = let f = s.mover j e in inl (prior_ring c.jobs (unfinished c (jobs_before_write x)) 0 j f.job f.at (ring f.job.id f.is))

    now_good : Good no_bytes (entries.moved copied b.0 to (count_from 1 (length x.table) 0) (moved_now v.count b.0 (is_prior c.jobs (unfinished c (jobs_before_write x)) 0) v.fences) (owner_of (bare (moved_core c b x mem n gs mj))) v)
    now_good =
        move_now_keeps no_bytes v g copied b.0 to (count_from 1 (length x.table) 0) (is_prior c.jobs (unfinished c (jobs_before_write x)) 0) (owner_of (bare (moved_core c b x mem n gs mj)))
        last_first (legal Free leaves)

    now_seen : Seen script (moved_core c b x mem n gs mj) owed_probes m bytes (entries.moved copied b.0 to (count_from 1 (length x.table) 0) (moved_now v.count b.0 (is_prior c.jobs (unfinished c (jobs_before_write x)) 0) v.fences) (owner_of (bare (moved_core c b x mem n gs mj))) v)
    now_seen =
        emitted_seen script c owed_probes owed_probes m m bytes v s g (move_job c b x mem n gs mj) (changed (moved mem (record { ctx = 0; num = n })) c.buffers b) gs mj
        (moved_now v.count b.0 (is_prior c.jobs (unfinished c (jobs_before_write x)) 0) v.fences)
        (λ e k. cond (nat_eq b.0 e && has k (count_from 1 (length x.table) 0)) (to k) (v.place e k))
        (copies copied to (v.place b.0) (count_from 1 (length x.table) 0)) v.plain
        (record {
          fresh = refl;
          undone = refl;
          old = old_steps;
          steps = new_steps;
          prior = refl;
          strong = strong_after;
          shared = shared_after;
          ghost = ghost_before;
          mover = λ j h.
              let e : Some v.count ≡ Some j = h in
              let at : v.count ≡ j = cc in
              record {
                job = move_job c b x mem n gs mj;
                at = subst (λ k. slice_get (c.jobs ++ move_job c b x mem n gs mj ∷ []) k ≡ Some (move_job c b x mem n gs mj)) at new_at;
                is = mover_new;
              };
          place = place_after;
          there = there;
        })
        s.plain

    pub now_viewed : Viewed script (moved_core c b x mem n gs mj) owed_probes m bytes
    now_viewed = record {
      view = entries.moved copied b.0 to (count_from 1 (length x.table) 0) (moved_now v.count b.0 (is_prior c.jobs (unfinished c (jobs_before_write x)) 0) v.fences) (owner_of (bare (moved_core c b x mem n gs mj))) v;
      good = now_good;
      seen = now_seen;
    }
