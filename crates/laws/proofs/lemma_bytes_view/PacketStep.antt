-- A packet runs: the view runs the same packet, and what it shows is what is due.
use mathlib.Core.Path.{fun_ext}
use Rattle.std.proofs.Common.{◌≡◌, ℕ, ◌+◌, ◌-◌, ◌<◌, zero, suc, Bool, true, false, List, [], ◌∷◌, length, Some, None, Ok, refl, sym, subst, ◌∙◌, ap, ap₂, arith, ⊎_elim}
use Rattle.std.specs.Prelude.{slice_get, drop, map, not, nat_eq, nat_le, nat_lt, ◌==◌, ◌&&◌, bit_xor, cond, if◌then◌else◌}
use Rattle.std.specs.List.{list_any}
use Rattle.std.proofs.lemmas.Bool.{eqb-true}
use Rattle.std.proofs.lemmas.Bool.Decides.{nat_tests}
use Rattle.ttm_base.specs.declared.JobId.{JobId}
use Rattle.ttm_base.specs.declared.Packet.{Packet}
use Rattle.ttm_base.specs.declared.Packet.TheVariants as packet
use Rattle.ttm_base.specs.declared.Actor.TheVariants as actor
use Rattle.ttm_base.specs.ListWords.{count_from}
use Rattle.ttm_base.specs.Pages as pages
use Rattle.ttm_base.specs.Packets.{after_packet, probe_piece}
use Rattle.journal_model.specs.declared.script.Script.{Script}
use Rattle.journal_model.specs.declared.script.Sizes.{Sizes}
use Rattle.journal_model.specs.declared.state.State.{State}
use Rattle.journal_model.specs.declared.state.Core.{Core}
use Rattle.journal_model.specs.declared.state.Job.{Job}
use Rattle.journal_model.specs.declared.entry.Kind.TheVariants as kind
use Rattle.journal_model.specs.rules.Places.{aperture}
use Rattle.journal_model.specs.rules.Stores.{is_there, within, job_packet}
use Rattle.journal_model.specs.rules.PlainMemory.{Memory, OwedProbes}
use Rattle.journal_model.specs.rules.Waits.{same_job, waited_for}
use Rattle.journal_model.specs.rules.Next.{next}
use Rattle.journal_model.specs.rules.ApplyJobs.{changed_job}
use Rattle.laws.specs.law_state.GoodState.{GoodJobs}
use Rattle.laws.specs.lemma_bytes_model.Memory.{Page, Bytes, Stores, Step, same_page, put, run, shown, touches, touched}
use Rattle.laws.specs.lemma_bytes_model.View.{View, Good, at_job, packet_ran}
use Rattle.laws.proofs.lemma_bytes_model.Actions.{same_page-refl, or_first, or_second}
use Rattle.laws.proofs.lemma_bytes_model.Rest.{at_same, at_other, at_each}
use Rattle.laws.proofs.lemma_bytes_model.Engine.{packet_keeps, shows_due}
use Rattle.laws.specs.law_holders.Holding.{seen}
use Rattle.laws.specs.lemma_bytes_view.Seen.{put_in, meant, steps_from, steps_of}
use Rattle.laws.proofs.lemma_bytes_view.World.{Seen}
use Rattle.laws.proofs.lemma_bytes_view.Jobs.{head_packet, head_first, passed, failed, waited_is_done, packet_is, Changed, changed_at, same_job-refl}
use Rattle.laws.proofs.lemma_bytes_view.Kept.{keep_changed, before_kept, changing_kept, using_kept, ghostly_kept, mover_kept}

-- zeros of a page
abbrev pub no_bytes : Bytes
no_bytes = λ o. 0

-- ---- one packet on the bytes

same_turned : (m n : ℕ) → nat_eq m n ≡ (n == m)
same_turned m n = grind (arith, nat_tests)

pub same_seen : (p q : pages.Page) → same_page (seen p) (seen q) ≡ pages.same_page q p
same_seen pages.nowhere pages.nowhere = refl
same_seen (pages.vram m) (pages.vram n) = same_turned m n
same_seen (pages.frame m) (pages.frame n) = same_turned m n
same_seen (pages.slot m) (pages.slot n) = same_turned m n
same_seen p q = refl

pub same-true : (p q : pages.Page) → pages.same_page p q ≡ true → p ≡ q
same-true pages.nowhere pages.nowhere h = refl
same-true (pages.vram m) (pages.vram n) h = ap pages.vram (eqb-true m n h)
same-true (pages.frame m) (pages.frame n) h = ap pages.frame (eqb-true m n h)
same-true (pages.slot m) (pages.slot n) h = ap pages.slot (eqb-true m n h)
same-true _ _ h = cc

-- the bytes that are there are those that the view has
module _ (sizes : Sizes) (vs : Stores) (stores : pages.PageBytes) (agree : (p : pages.Page) (o : ℕ) → vs (seen p) o ≡ stores p o)
    (cut : (p : pages.Page) (o : ℕ) → (is_there sizes p && nat_lt o 4096) ≡ false → stores p o ≡ 0) where
  pub within_same : (p : pages.Page) (o : ℕ) → stores p o ≡ within sizes stores p o
  within_same p o = by (is_there sizes p && nat_lt o 4096) refl
    where
      by : (q : Bool) → (is_there sizes p && nat_lt o 4096) ≡ q → stores p o ≡ (if q then stores p o else 0)
      by true e = refl
      by false e = cut p o e

  pub put_same : (to : pages.Page) (off len : ℕ) (value value' : ℕ → ℕ) → is_there sizes to ≡ true → ((i : ℕ) → value i ≡ value' i) → (p : pages.Page) (o : ℕ) →
      put (seen to) (put_in off len value (vs (seen to))) vs (seen p) o ≡ within sizes (pages.with_bytes stores to off len value') p o
  put_same to off len value value' there same p o =
      ap (λ q. cond q (put_in off len value (vs (seen to))) (vs (seen p)) o) (same_seen to p) ∙ by (pages.same_page p to) refl
    where
      here : (l i : Bool) (a b : ℕ) → a ≡ b → (if l then (if i then value (o - off) else a) else 0) ≡ (if true && l then (if true && i then value' (o - off) else b) else 0)
      here true true a b e = same (o - off)
      here true false a b e = e
      here false i a b e = refl

      by : (q : Bool) → pages.same_page p to ≡ q → cond q (put_in off len value (vs (seen to))) (vs (seen p)) o
          ≡ (if is_there sizes p && nat_lt o 4096 then (if q && nat_le off o && nat_lt o (off + len) then value' (o - off) else stores p o) else 0)
      by true e =
          let one : p ≡ to = same-true p to e in
          let P : Bool → Type 0 = λ t. (if nat_lt o 4096 then (if nat_le off o && nat_lt o (off + len) then value (o - off) else vs (seen to) o) else 0)
          ≡ (if t && nat_lt o 4096 then (if true && (nat_le off o && nat_lt o (off + len)) then value' (o - off) else stores p o) else 0) in
          subst P (sym (subst (λ q. is_there sizes q ≡ true) (sym one) there))
          (here (nat_lt o 4096) (nat_le off o && nat_lt o (off + len)) (vs (seen to) o) (stores p o) (agree to o ∙ ap (λ q. stores q o) (sym one)))
      by false e = agree p o ∙ within_same p o

  -- a packet whose page is there
  pub run_same : (aper : pages.Aperture) (q : Packet) → ((p : pages.Page) → touches (meant aper q) (seen p) ≡ true → is_there sizes p ≡ true) → (p : pages.Page) (o : ℕ) →
      run (meant aper q) vs (seen p) o ≡ within sizes (after_packet aper stores q) p o
  run_same aper (packet.Fill to off len byte) there p o =
      put_same (pages.translated aper to) off len (λ i. byte) (λ i. byte)
      (there (pages.translated aper to) (or_first (same_page (seen (pages.translated aper to)) (seen (pages.translated aper to))) (same_page (seen (pages.translated aper to)) (seen (pages.translated aper to))) (same_page-refl (seen (pages.translated aper to)))))
      (λ i. refl) p o
  run_same aper (packet.Copy to toff from foff len) there p o =
      put_same (pages.translated aper to) toff len (λ i. vs (seen (pages.translated aper from)) (foff + i)) (λ i. stores (pages.translated aper from) (foff + i))
      (there (pages.translated aper to) (or_first (same_page (seen (pages.translated aper to)) (seen (pages.translated aper to))) (same_page (seen (pages.translated aper from)) (seen (pages.translated aper to))) (same_page-refl (seen (pages.translated aper to)))))
      (λ i. agree (pages.translated aper from) (foff + i)) p o
  run_same aper (packet.Xor to toff from foff len) there p o =
      put_same (pages.translated aper to) toff len (λ i. bit_xor (vs (seen (pages.translated aper to)) (toff + i)) (vs (seen (pages.translated aper from)) (foff + i)))
      (λ i. bit_xor (stores (pages.translated aper to) (toff + i)) (stores (pages.translated aper from) (foff + i)))
      (there (pages.translated aper to) (or_first (same_page (seen (pages.translated aper to)) (seen (pages.translated aper to))) (same_page (seen (pages.translated aper from)) (seen (pages.translated aper to))) (same_page-refl (seen (pages.translated aper to)))))
      (λ i. ap₂ bit_xor (agree (pages.translated aper to) (toff + i)) (agree (pages.translated aper from) (foff + i))) p o
  run_same aper (packet.Probe from off len) there p o = agree p o ∙ within_same p o

  pub shown_same : (aper : pages.Aperture) (q : Packet) → shown (meant aper q) vs ≡ probe_piece aper stores q
  shown_same aper (packet.Fill to off len byte) = refl
  shown_same aper (packet.Copy to toff from foff len) = refl
  shown_same aper (packet.Xor to toff from foff len) = refl
  shown_same aper (packet.Probe from off len) = ap (λ f. map f (count_from 1 len off)) (fun_ext (λ o. agree (pages.translated aper from) o))

pub within_cut : (sizes : Sizes) (stores : pages.PageBytes) (p : pages.Page) (o : ℕ) → (is_there sizes p && nat_lt o 4096) ≡ false → within sizes stores p o ≡ 0
within_cut sizes stores p o e = ap (λ q. if q then stores p o else 0) e

-- ---- the head's next packet

get_some : {X : Type 0} (xs : List X) (i : ℕ) → i < length xs → (x : X) × (slice_get xs i ≡ Some x)
get_some [] i h = absurd (omega (arith, h))
get_some (x ∷ xs) zero h = (x, refl)
get_some (x ∷ xs) (suc i) h = get_some xs i (omega (arith, h))

drop_head : {X : Type 0} (xs : List X) (i : ℕ) (x : X) → slice_get xs i ≡ Some x → drop i xs ≡ x ∷ drop (suc i) xs
drop_head [] i x e = cc
drop_head (y ∷ ys) zero x e = let same : y ≡ x = cc in ap (λ z. z ∷ ys) same
drop_head (y ∷ ys) (suc i) x e = drop_head ys i x e

module _ (script : Script) (s : State) (owed_probes : OwedProbes) (mem : Memory) (stores : pages.PageBytes) (v : View) (seen_so : Seen script s.core owed_probes mem stores v) (g : Good no_bytes v)
    (engines : ℕ) (last : List ℕ) (jobs : GoodJobs engines last s.core.jobs) where
  -- a job whose context's earlier jobs are done, and for which none is waited
  pub ready_at : (e at : ℕ) (x : Job) → slice_get s.core.jobs at ≡ Some x → x.id.ctx ≡ e →
      ((j : ℕ) (y : Job) → j < at → slice_get s.core.jobs j ≡ Some y → ((y.id.ctx == e) && not y.finished) ≡ false) →
      waited_for s.core x.waits ≡ None → (i : ℕ) → v.fences.prior at i ≡ true → v.done i ≡ true
  ready_at e at x here ctx before none i h =
      let b = seen_so.prior at i h in
      let same : Some x ≡ Some b.later = sym here ∙ b.at in
      let is : x ≡ b.later = cc in
      seen_so.done i b.earlier b.there
      ∙ ⊎_elim
      (λ w. waited_is_done s.core x.waits i b.earlier none b.there (subst (λ z. list_any (same_job b.earlier.id) z.waits ≡ true) (sym is) w))
      (λ w. failed b.earlier.id.ctx e b.earlier.finished (before i b.earlier w.0 b.there) (sym w.1 ∙ ap (λ (z : Job). z.id.ctx) (sym is) ∙ ctx))
      b.why

  -- what runs, and on what
  pub record Running (e n k : ℕ) : Type 0 where
    pub at : ℕ
    pub job : Job
    pub here : slice_get s.core.jobs at ≡ Some job
    pub name : record { ctx = e; num = n } ≡ job.id
    pub number : k ≡ job.ran
    pub packet : Packet
    pub next : slice_get job.packets job.ran ≡ Some packet
    pub ready : (i : ℕ) → v.fences.prior at i ≡ true → v.done i ≡ true

  pub running : (e n k : ℕ) (piece : List ℕ) → next script s (actor.Engine e) ≡ Ok (kind.Packet n k piece) → Running e n k
  running e n k piece h =
      let p = head_packet script s e n k piece h in
      let f = head_first s e p.job p.head in
      let c = passed p.job.id.ctx e p.job.finished f.passes in
      let q = get_some p.job.packets p.job.ran p.left in
      record {
        at = f.at;
        job = p.job;
        here = f.here;
        name = ap₂ (λ a m. record { ctx = a; num = m }) (sym c.0) p.num;
        number = p.ran;
        packet = q.0;
        next = q.1;
        ready = ready_at e f.at p.job f.here c.0 f.before p.waits;
      }

  module _ (e n k : ℕ) (r : Running e n k) where
    abbrev pub step : Step
    step = record { packet = meant (aperture s.core) r.packet; due = owed_probes r.job.id r.job.ran }

    abbrev pub more : List Step
    more = steps_from (aperture s.core) (owed_probes r.job.id) (suc r.job.ran) (drop (suc r.job.ran) r.job.packets)

    pub left_is : v.left r.at ≡ step ∷ more
    left_is = seen_so.left r.at r.job r.here ∙ ap (steps_from (aperture s.core) (owed_probes r.job.id) r.job.ran) (drop_head r.job.packets r.job.ran r.packet r.next)

    pub good_after : Good no_bytes (packet_ran r.at step more v)
    good_after = packet_keeps no_bytes v g r.at step more left_is r.ready

    -- what the packet shows is due
    pub shows : probe_piece (aperture s.core) stores (job_packet s.core (record { ctx = e; num = n }) k) ≡ owed_probes (record { ctx = e; num = n }) k
    shows =
        ap₂ (λ i m. probe_piece (aperture s.core) stores (job_packet s.core i m)) r.name r.number
        ∙ ap (probe_piece (aperture s.core) stores) (packet_is engines last s.core jobs r.at r.job r.packet r.here r.next)
        ∙ sym (shown_same script.sizes v.stores stores seen_so.stores seen_so.cut (aperture s.core) r.packet)
        ∙ shows_due no_bytes v g r.at step more left_is r.ready
        ∙ ap₂ owed_probes (sym r.name) (sym r.number)

    touched_before : (i : ℕ) (x : Page) → touched (at_job r.at more v.left i) x ≡ true → touched (v.left i) x ≡ true
    touched_before =
        at_each (λ i l. (x : Page) → touched l x ≡ true → touched (v.left i) x ≡ true) r.at more v.left
        (λ x h. ap (λ l. touched l x) left_is ∙ or_second (touches (meant (aperture s.core) r.packet) x) (touched more x) h)
        (λ i ne x h. h)

    ran : Job → Job
    ran = λ j. record j { ran = j.ran + 1 }

    at_is : (i : ℕ) (old : Job) → slice_get s.core.jobs i ≡ Some old → record { ctx = e; num = n } ≡ old.id → r.at ≡ i
    at_is i old f same = jobs.names r.at i r.job old r.here f (subst (λ m. same_job r.job.id m ≡ true) (sym r.name ∙ same) (same_job-refl r.job.id))

    at_isnt : (i : ℕ) (old : Job) → slice_get s.core.jobs i ≡ Some old → (record { ctx = e; num = n } ≡ old.id → ⊥) → r.at ≡ i → ⊥
    at_isnt i old f ne same =
        let is : Some r.job ≡ Some old = sym r.here ∙ ap (slice_get s.core.jobs) same ∙ f in
        let one : r.job ≡ old = cc in
        ne (r.name ∙ ap (λ (j : Job). j.id) one)

    is_job : (i : ℕ) (old : Job) → slice_get s.core.jobs i ≡ Some old → r.at ≡ i → r.job ≡ old
    is_job i old f same = let is : Some r.job ≡ Some old = sym r.here ∙ ap (slice_get s.core.jobs) same ∙ f in cc

    new_core : Core
    new_core = record s.core { jobs = changed_job (λ j. record j { ran = j.ran + 1 }) (record { ctx = e; num = n }) s.core.jobs }

    left_after : (i : ℕ) (x : Job) → Changed (λ j. record j { ran = j.ran + 1 }) (record { ctx = e; num = n }) s.core.jobs i x → at_job r.at more v.left i ≡ steps_of (aperture s.core) owed_probes x
    left_after i x ch =
        ⊎_elim
        (λ z.
        let at = at_is i ch.old ch.at z.0 in
        let one = is_job i ch.old ch.at at in
        at_same r.at i more v.left at
        ∙ ap (λ m. steps_from (aperture s.core) (owed_probes r.job.id) m (drop m r.job.packets)) (let w : suc r.job.ran ≡ r.job.ran + 1 = omega arith in w)
        ∙ ap (λ (j : Job). steps_from (aperture s.core) (owed_probes j.id) (j.ran + 1) (drop (j.ran + 1) j.packets)) one
        ∙ ap (steps_of (aperture s.core) owed_probes) (sym z.1))
        (λ z. at_other r.at i more v.left (at_isnt i ch.old ch.at z.0) ∙ seen_so.left i ch.old ch.at ∙ ap (steps_of (aperture s.core) owed_probes) (sym z.1))
        ch.is

    begun_after : (i : ℕ) (x : Job) → Changed (λ j. record j { ran = j.ran + 1 }) (record { ctx = e; num = n }) s.core.jobs i x → at_job r.at true v.begun i ≡ nat_lt 0 x.ran
    begun_after i x ch =
        ⊎_elim
        (λ z. at_same r.at i true v.begun (at_is i ch.old ch.at z.0) ∙ one_ran ch.old.ran ∙ ap (λ (j : Job). nat_lt 0 j.ran) (sym z.1))
        (λ z. at_other r.at i true v.begun (at_isnt i ch.old ch.at z.0) ∙ seen_so.begun i ch.old ch.at ∙ ap (λ (j : Job). nat_lt 0 j.ran) (sym z.1))
        ch.is
      where
        one_ran : (m : ℕ) → true ≡ nat_lt 0 (m + 1)
        one_ran m = grind (arith, nat_tests)

    done_after : (i : ℕ) (x : Job) → Changed (λ j. record j { ran = j.ran + 1 }) (record { ctx = e; num = n }) s.core.jobs i x → v.done i ≡ x.finished
    done_after i x ch =
        seen_so.done i ch.old ch.at ∙ ⊎_elim (λ z. ap (λ (j : Job). j.finished) (sym z.1)) (λ z. ap (λ (j : Job). j.finished) (sym z.1)) ch.is

    length-changed : (f : Job → Job) (id : JobId) (xs : List Job) → length xs ≡ length (changed_job f id xs)
    length-changed f id [] = refl
    length-changed f id (x ∷ xs) = ap suc (length-changed f id xs)

    pub seen_after : Seen script (record s.core { jobs = changed_job (λ j. record j { ran = j.ran + 1 }) (record { ctx = e; num = n }) s.core.jobs }) owed_probes mem
        (within script.sizes (after_packet (aperture s.core) stores (job_packet s.core (record { ctx = e; num = n }) k))) (packet_ran r.at step more v)
    seen_after =
        let new : Core = record s.core { jobs = changed_job (λ j. record j { ran = j.ran + 1 }) (record { ctx = e; num = n }) s.core.jobs } in
        let keep = keep_changed (λ j. record j { ran = j.ran + 1 }) (record { ctx = e; num = n }) s.core.jobs (λ x. refl) (λ x. refl) in
        record {
          count = seen_so.count ∙ length-changed (λ j. record j { ran = j.ran + 1 }) (record { ctx = e; num = n }) s.core.jobs;
          left = λ i x h. left_after i x (changed_at (λ j. record j { ran = j.ran + 1 }) (record { ctx = e; num = n }) s.core.jobs i x h);
          begun = λ i x h. begun_after i x (changed_at (λ j. record j { ran = j.ran + 1 }) (record { ctx = e; num = n }) s.core.jobs i x h);
          done = λ i x h. done_after i x (changed_at (λ j. record j { ran = j.ran + 1 }) (record { ctx = e; num = n }) s.core.jobs i x h);
          prior = λ j i h. before_kept s.core.jobs new.jobs keep j i (seen_so.prior j i h);
          strong = λ b j h. changing_kept s.core new keep b j (λ i w. w) (seen_so.strong b j h);
          shared = λ b j h. using_kept s.core new keep b j (λ i w. w) (seen_so.shared b j h);
          ghost = λ m j h. ghostly_kept s.core new keep m j (λ i y w. w) (seen_so.ghost m j h);
          mover = λ j h. mover_kept s.core new keep j refl (seen_so.mover j h);
          place = seen_so.place;
          owner = seen_so.owner;
          there = λ i p h. seen_so.there i p (touched_before i (seen p) h);
          stores = λ p o.
              run_same script.sizes v.stores stores seen_so.stores seen_so.cut (aperture s.core) r.packet
              (λ q h. seen_so.there r.at q (ap (λ l. touched l (seen q)) left_is ∙ or_first (touches (meant (aperture s.core) r.packet) (seen q)) (touched more (seen q)) h))
              p o
              ∙ ap (λ q. within script.sizes (after_packet (aperture s.core) stores q) p o)
              (sym (ap₂ (job_packet s.core) r.name r.number ∙ packet_is engines last s.core jobs r.at r.job r.packet r.here r.next));
          cut = within_cut script.sizes (after_packet (aperture s.core) stores (job_packet s.core (record { ctx = e; num = n }) k));
          plain = seen_so.plain;
        }
