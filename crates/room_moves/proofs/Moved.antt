-- All parts after a move.
use Rattle.std.proofs.Common.{◌≡◌, ◌≢◌, ℕ, suc, ◌+◌, ◌<◌, ◌≤◌, ◌^◌, List, [], ◌∷◌, ◌++◌, Option, Some, Ok, length, refl, sym, ◌∙◌, ap, ap₂, subst, arith}
use Rattle.std.specs.Prelude.{option_map, option_to_list, replicate, slice_get, slice_set, unwrap_or}
use Rattle.std.specs.Option.{ForSome}
use Rattle.std.proofs.lemmas.List.{append-nil, length-replicate}
use Rattle.ttm_base.specs.declared.Actor.TheVariants as actor
use Rattle.ttm_base.specs.declared.BufId.{BufId}
use Rattle.ttm_base.specs.declared.Mem.{Mem}
use Rattle.ttm_base.specs.declared.Mem.TheVariants.{System, Tt, Vram}
use Rattle.ttm_base.specs.declared.Owner.TheVariants as owner
use Rattle.ttm_base.specs.declared.Packet.{Packet}
use Rattle.ttm_base.specs.declared.Usage.TheVariants.{Kernel, Read}
use Rattle.fence_core.specs.declared.fence_set.Latest.{Latest}
use Rattle.fence_core.specs.declared.timeline.Progress.{Progress}
use Rattle.fence_core.specs.Fences.{all_added, nothing_kept}
use Rattle.fence_core.specs.Histories.{set_of}
use Rattle.fence_core.specs.Timelines.{progress_of, with_emitted}
use Rattle.copy_engine.specs.Pushes.{Pushed, with_pushed}
use Rattle.lru_bulk.specs.Lists.{Order, relisted}
use Rattle.lru_bulk.specs.Members.{AreMembersListed}
use Rattle.resource_core.specs.Resources.{Resources, holds}
use Rattle.resource_core.specs.Vram as room
use Rattle.bo_table.specs.declared.bo.Bo.{Bo}
use Rattle.bo_table.specs.Seen.{Bos, IsBo, carried, with_changed, with_use}
use Rattle.bo_table.proofs.TableLaws.{get_map}
use Rattle.journal_model.specs.declared.script.Script.{Script}
use Rattle.journal_model.specs.declared.state.State.{State}
use Rattle.journal_model.specs.declared.state.Buffer.{Buffer}
use Rattle.journal_model.specs.declared.state.Ghost as state
use Rattle.journal_model.specs.declared.state.Job.{Job}
use Rattle.journal_model.specs.declared.entry.Entry.{Entry}
use Rattle.journal_model.specs.declared.entry.Kind.TheVariants as kind
use Rattle.journal_model.specs.declared.entry.Left.{Left}
use Rattle.journal_model.specs.declared.entry.Left.TheVariants as left
use Rattle.journal_model.specs.rules.Apply.{applied}
use Rattle.journal_model.specs.rules.ApplyMoves.{moved, move_packets, ghosts_left, last_ghost_left, move_fence_left}
use Rattle.journal_model.specs.rules.Holds.{held_slots, size_of}
use Rattle.journal_model.specs.rules.Legal.{IsLegalNext, state_of, stores_of, world_of}
use Rattle.journal_model.specs.rules.Next.{next}
use Rattle.journal_model.specs.rules.Lists.{touched}
use Rattle.journal_model.specs.rules.Places.{aperture, pages_of}
use Rattle.journal_model.specs.rules.State.{buffer, changed, target_spans}
use Rattle.journal_model.specs.rules.Stores.{within}
use Rattle.laws.proofs.law_counters.Law.{counters_law}
use Rattle.laws.proofs.law_owners.Law.{once_law, owner_law}
use Rattle.laws.proofs.law_transparent.PagesLaw.{ghosts_law}
use Rattle.laws.proofs.law_state.GoodStates.{good_law, table_pages}
use Rattle.laws.proofs.law_state.Rules.{rules_of}
use Rattle.laws.specs.law_state.GoodState.{last_number}
use Rattle.laws.proofs.law_transparent.Carried.{told_law}
use Rattle.laws.specs.lemma_bytes_told.Told.{Told}
use Rattle.room_representation.specs.lemma_lists.Listed.{AreListed}
use Rattle.room_representation.proofs.lemma_lists.KindLaws.{move_lists}
use Rattle.room_representation.specs.lemma_spans.Calls as calls
use Rattle.room_representation.specs.lemma_spans.Owned.{HoldsAsIn}
use Rattle.room_representation.proofs.lemma_spans.Entries.{thread_spans, move_fresh, next_ghost_fresh}
use Rattle.room_representation.proofs.lemma_spans.MoveFence.{behind_fence}
use Rattle.room_representation.specs.declared.parts.Ghost.{Ghost}
use Rattle.room_representation.specs.declared.parts.Parts.{Parts}
use Rattle.room_representation.specs.Bos.{AreBos, unfenced}
use Rattle.room_representation.specs.Fences.{set_at, fences_of}
use Rattle.room_representation.specs.Ghosts.{AreGhosts}
use Rattle.room_representation.specs.Held.{AreHeld}
use Rattle.room_representation.specs.Lines.{IsTimeline}
use Rattle.room_representation.specs.Managers.{IsVram, IsTt}
use Rattle.room_representation.specs.MoveFences.{IsMoveFence}
use Rattle.room_representation.specs.Pages.{AreSlots, AreStores}
use Rattle.room_representation.specs.RingJobs.{AreRings}
use Rattle.room_representation.proofs.lemma_jobs.GhostSteps.{ghosts_push}
use Rattle.room_representation.proofs.lemma_jobs.Later.{IsLater, ghosts_later, move_later}
use Rattle.room_representation.proofs.lemma_jobs.Sets.{set_length}
use Rattle.room_representation.proofs.lemma_jobs.Told.{unfenced_as}
use Rattle.room_representation.proofs.lemma_jobs.BufferSets.{move_id, move_job, empty_set, before_write, moved_fences, moved_ghost}
use Rattle.room_representation.proofs.lemma_jobs.Emitted.{later_more, move_now, rings_more, timeline_more}
use Rattle.room_representation.proofs.lemma_jobs.LegalJobs.{move_number}
use Rattle.room_representation.proofs.lemma_jobs.Packets.{within_same}
use Rattle.room_representation.specs.lemma_bytes.GivenBack.{given_back, slots_left}
use Rattle.room_representation.proofs.lemma_bytes.Behind.{pool_behind}
use Rattle.room_representation.proofs.lemma_bytes.Held.{no_slots}
use Rattle.room_representation.proofs.lemma_bytes.SlotKinds.{move_slots}
use Rattle.room_representation.proofs.lemma_bytes.LegalEntries.{next_tells, no_slots_in_tt}
use Rattle.room_representation.specs.lemma_bytes.Mapped.{HasStoresAfter}
use Rattle.room_representation.proofs.lemma_bytes.Entries.{move_in_representation, move_out_representation}
use Rattle.room_representation.proofs.lemma_bytes.Holders.{target_inside}
use Rattle.room_representation.specs.steps.Lent.{as_buffer}
use Rattle.room_representation.proofs.steps.Lent.{lent_below, lent_is, stands_at}
use Rattle.room_representation.proofs.steps.Steps.{held_still, step_as}
use Rattle.room_pages.specs.binding.Apertures.{AreBelow}
use Rattle.room_moves.specs.Copies.{copies}
use Rattle.room_moves.specs.Lefts.{ghost_of, left_by_move}
use Rattle.room_moves.specs.Mappings.{mapped_in}
use Rattle.room_moves.specs.Rooms.{CanCarry, CanLeave, with_fence_left}
use Rattle.room_moves.proofs.Left.{IsMove, move_of, packets_are, packets_many, frames_unfenced}

-- ---- sets

-- a set keeps its contexts
length-all_added : (set others : List Latest) → length others ≡ length set → length (all_added Read set others) ≡ length set
length-all_added [] others e = refl
length-all_added (k ∷ set) [] e = absurd (omega (arith, e))
length-all_added (k ∷ set) (o ∷ others) e = let f : length others ≡ length set = omega (arith, e) in ap suc (length-all_added set others f)

-- ---- a job is started, and the buffer stands in its new place

module _ (script : Script) (journal : List Entry) (p : Parts) (entry : Entry) (t : ℕ) (b : BufId) (mem : Mem) (n : ℕ) (l : Left) (held : AreHeld script journal p) (is : entry ≡ record { who = actor.Thread t; kind = kind.Move b mem n l }) (legal : IsLegalNext script (world_of script journal) entry) where
  abbrev s : State
  s = state_of script journal

  abbrev x : Buffer
  x = buffer s b

  -- the thread's step
  step : next script s (actor.Thread t) ≡ Ok (kind.Move b mem n l)
  step = step_as script journal entry (record { who = actor.Thread t; kind = kind.Move b mem n l }) is legal refl

  -- and what it tells
  told : Told script s t (kind.Move b mem n l)
  told = told_law script journal t (kind.Move b mem n l) held.fits held.legal step

  -- as a move
  move : IsMove s b mem l
  move = move_of script s t b mem n l told

  -- ---- numbers

  -- there is a context of the move engine
  known : 0 < length s.last_jobs
  known = let rooms = (good_law script held.fits journal held.legal).jobs.rooms in omega (arith, rooms)

  -- the job has the next number
  num : n ≡ last_number s.last_jobs 0 + 1
  num = move_number script s (actor.Thread t) b mem n l step

  -- which isn't 0
  pub move_num : 0 < n
  move_num = omega (arith, num)

  -- ---- the buffer that is lent

  -- the buffer can be lent
  pub move_below : b.0 < length p.bos.reservations
  move_below = lent_below script journal p held b move.live

  module _ (bo : Bo) (lent : IsBo p.bos b bo) where
    -- it is that of the state, its fences apart
    lent_here : as_buffer bo ≡ unfenced x
    lent_here = lent_is script journal p held b move.live bo lent

    -- with the set that the table keeps
    set_is : bo.resv.fences ≡ set_at p.bos.fences b
    set_is = sym (ap (λ o. unwrap_or o []) lent.fences)

    -- which has all contexts
    set_wide : length bo.resv.fences ≡ length s.last_jobs
    set_wide =
        let at : slice_get p.bos.fences b.0 ≡ Some (set_of (length s.last_jobs) (fences_of (Some x))) =
        ap (λ xs. slice_get xs b.0) held.represents.bos.fences_are.sets_are ∙ get_map (λ o. set_of (length s.last_jobs) (fences_of o)) s.core.buffers b.0
        ∙ ap (option_map (λ o. set_of (length s.last_jobs) (fences_of o))) (stands_at s.core.buffers b x move.live) in
        let both : Some bo.resv.fences ≡ Some (set_of (length s.last_jobs) (fences_of (Some x))) = sym lent.fences ∙ at in
        let same : bo.resv.fences ≡ set_of (length s.last_jobs) (fences_of (Some x)) = cc in
        ap length same ∙ set_length (length s.last_jobs) (fences_of (Some x))

    -- the move goes to VRAM or TT
    pub move_to : mem ≢ System
    move_to = move.to

    -- and comes from there
    pub move_from : bo.mem ≢ System
    move_from e = move.from (sym (ap (λ (y : Buffer). y.mem) lent_here) ∙ e)

    module _ (contexts : ℕ) (many : contexts ≡ length p.timeline) where
      -- the timeline has the state's contexts
      contexts_are : contexts ≡ length s.last_jobs
      contexts_are = many ∙ held.represents.timeline.contexts

      -- so has the buffer's set
      pub move_wide : length bo.resv.fences ≡ contexts
      move_wide = set_wide ∙ sym contexts_are

      -- one of them is the move engine's
      pub move_known : 0 < contexts
      move_known = subst (λ m. 0 < m) (sym contexts_are) known

      -- the job waits for what the state's buffer has
      waits_are : (waits : List Latest) → waits ≡ all_added Read (replicate contexts nothing_kept) bo.resv.fences → waits ≡ all_added Read (empty_set s) (set_at p.bos.fences b)
      waits_are waits e = e ∙ ap₂ (λ m set. all_added Read (replicate m nothing_kept) set) contexts_are set_is

      -- what is left is what the state's buffer leaves
      ghost_is : (ghost : Option Ghost) → ghost ≡ left_by_move contexts (as_buffer bo) (move_id n) l → ghost ≡ left_by_move (length s.last_jobs) (unfenced x) (move_id n) l
      ghost_is ghost e = e ∙ ap₂ (λ m y. left_by_move m y (move_id n) l) contexts_are lent_here

      -- the job's set has all contexts
      pub move_waits : (waits : List Latest) → waits ≡ all_added Read (replicate contexts nothing_kept) bo.resv.fences → length waits ≡ length p.rings
      move_waits waits e =
          let wide = length-all_added (replicate contexts nothing_kept) bo.resv.fences (move_wide ∙ sym (length-replicate contexts nothing_kept)) ∙ length-replicate contexts nothing_kept in
          ap length e ∙ wide ∙ contexts_are ∙ sym held.represents.rings.contexts

    -- its packets are those of the definition
    packets_same : (packets : List Packet) → packets ≡ copies (length bo.table) mem (target_spans mem (as_buffer bo)) bo.mem bo.spans → packets ≡ move_packets x mem
    packets_same packets e = e ∙ ap (λ (y : Buffer). copies (length y.table) mem (target_spans mem y) y.mem y.spans) lent_here ∙ packets_are x mem move.from

    -- they can be counted
    pub move_few : (packets : List Packet) → packets ≡ copies (length bo.table) mem (target_spans mem (as_buffer bo)) bo.mem bo.spans → length packets < 2 ^ 32
    move_few packets e =
        let few = (table_pages script (rules_of script held.fits) s (good_law script held.fits journal held.legal) b x move.live).1 in
        let many = ap length (packets_same packets e) ∙ packets_many x mem in
        omega (arith, few, many)

    -- the aperture has the pages of a target in TT
    pub move_has : mem ≡ Tt → AreBelow (pages_of (target_spans Tt (as_buffer bo))) (length p.stores.aper)
    move_has e =
        subst (λ (y : Buffer). AreBelow (pages_of (target_spans Tt y)) (length p.stores.aper)) (sym lent_here)
        (λ k page at. subst (λ m. page < m) (sym held.represents.stores.aper_size) (target_inside script s.core (once_law script journal held.fits held.legal) page b x k move.live at))

  -- the move engine has a ring
  pub move_ring : 0 < length p.rings
  move_ring = subst (λ m. 0 < m) (sym held.represents.rings.contexts) known

  -- and a place in the timeline
  pub move_line : 0 < length p.timeline
  move_line = subst (λ m. 0 < m) (sym held.represents.timeline.contexts) known

  -- whose next number fits
  pub move_emitted : (progress_of p.timeline 0).emitted < 2 ^ 63
  move_emitted = subst (λ (q : Progress). q.emitted < 2 ^ 63) (sym (held.represents.timeline.each 0 known)) ((counters_law script journal held.fits held.legal).jobs 0)

  -- ---- managers

  -- the numbers of ghosts were drawn
  below : (i : ℕ) (g : state.Ghost) → slice_get s.core.ghosts i ≡ Some g → g.num ≤ s.last_ghost
  below i g e = ((ghosts_law script journal held.fits held.legal).drawn i g e).1

  -- a new ghost holds nothing yet
  fresh : (mine : Mem) → mine ≢ System → (r : Resources) → HoldsAsIn (size_of script mine) mine s r → CanLeave l r
  fresh mine out r representation = by l refl
    where
      by : (o : Left) → l ≡ o → CanLeave o r
      by left.Now e = tt
      by (left.Ghost g) e =
          ap (λ g. holds (owner.Ghost g) r.held) (move.next g e)
          ∙ next_ghost_fresh script journal held.fits held.legal mine out (ghosts_law script journal held.fits held.legal).first below r representation

  -- the calls on a manager may be made
  can : (mine : Mem) → mine ≢ System → (r : Resources) → HoldsAsIn (size_of script mine) mine s r → CanCarry b l r
  can mine out r representation =
      record {
        leaves = fresh mine out r representation;
        arrives = move_fresh script journal held.fits held.legal mine out (ghosts_law script journal held.fits held.legal).first below r representation t b mem n l told;
      }

  vram_out : Vram ≢ System
  vram_out e = cc

  tt_out : Tt ≢ System
  tt_out e = cc

  -- on that of VRAM
  pub move_vram : CanCarry b l p.vram.resources
  move_vram = can Vram vram_out p.vram.resources held.represents.vram.held_as

  -- and on that of TT
  pub move_tt : CanCarry b l p.tt
  move_tt = can Tt tt_out p.tt held.represents.tt

  -- the job can join the buffer's
  pub move_joins : (mid : Bos) → mid ≡ with_changed (carried mem) p.bos b → (bo : Bo) → IsBo p.bos b bo → ForSome (slice_get mid.fences b.0) (λ set. 0 < length set)
  move_joins mid m bo lent = λ set e. joined set (sym lent.fences ∙ sym (ap (λ (y : Bos). slice_get y.fences b.0) m) ∙ e)
    where
      joined : (set : List Latest) → Some bo.resv.fences ≡ Some set → 0 < length set
      joined set h =
          let same : bo.resv.fences ≡ set = cc in
          subst (λ m. 0 < m) (sym (set_wide bo lent) ∙ ap length same) known

  -- ---- the parts after it

  abbrev job : Job
  job = move_job s b mem n

  abbrev jobs_then : List Job
  jobs_then = s.core.jobs ++ job ∷ []

  abbrev last_then : List ℕ
  last_then = slice_set s.last_jobs 0 n

  -- what was told of jobs stays true
  later : IsLater s.core.jobs s.last_jobs jobs_then last_then
  later = later_more s.core.jobs s.last_jobs job known num refl

  -- the job stands last in its ring
  rings_then : (rings : List (List Pushed)) (waits : List Latest) (packets : List Packet) → waits ≡ all_added Read (empty_set s) (set_at p.bos.fences b) → packets ≡ move_packets x mem →
      rings ≡ with_pushed p.rings (record { job = move_id n; waits = waits; packets = packets; ran = 0 }) → AreRings jobs_then last_then rings
  rings_then rings waits packets w k e =
      subst (λ r. AreRings jobs_then last_then r)
      (sym (e ∙ ap₂ (λ a c. with_pushed p.rings (record { job = move_id n; waits = a; packets = c; ran = 0 })) w k))
      (rings_more s.core.jobs s.last_jobs job known num refl p.rings held.represents.rings (all_added Read (empty_set s) (set_at p.bos.fences b)) (before_write s p.bos.fences held.represents.bos.fences_are b x move.live))

  -- what is left follows the other ghosts
  ghosts_then : (ghosts : List Ghost) (ghost : Option Ghost) → ghost ≡ left_by_move (length s.last_jobs) (unfenced x) (move_id n) l → ghosts ≡ p.ghosts ++ option_to_list ghost →
      AreGhosts jobs_then last_then (ghosts_left x (move_id n) l s.core.ghosts) ghosts
  ghosts_then ghosts ghost g e = subst (λ rs. AreGhosts jobs_then last_then (ghosts_left x (move_id n) l s.core.ghosts) rs) (sym (e ∙ ap (λ o. p.ghosts ++ option_to_list o) g)) (by l)
    where
      before : AreGhosts jobs_then last_then s.core.ghosts p.ghosts
      before = ghosts_later s.core.jobs s.last_jobs jobs_then last_then later s.core.ghosts p.ghosts held.represents.ghosts

      by : (o : Left) → AreGhosts jobs_then last_then (ghosts_left x (move_id n) o s.core.ghosts) (p.ghosts ++ option_to_list (left_by_move (length s.last_jobs) (unfenced x) (move_id n) o))
      by left.Now = subst (λ rs. AreGhosts jobs_then last_then s.core.ghosts rs) (sym (append-nil p.ghosts)) before
      by (left.Ghost g) =
          ghosts_push jobs_then last_then s.core.ghosts p.ghosts before _ (ghost_of (length s.last_jobs) (unfenced x) (move_id n) g)
          (moved_ghost s p.bos.fences held.represents.bos.fences_are b x move.live mem n known num g (ghost_of (length s.last_jobs) (unfenced x) (move_id n) g) refl refl refl (frames_unfenced x.mem x) refl)

  -- the buffer stands at its target, with the job
  bos_then : (mid bos : Bos) → mid ≡ with_changed (carried mem) p.bos b → bos ≡ with_use (move_id n) Kernel mid b → AreBos script (changed (moved mem (move_id n)) s.core.buffers b) s.reservations last_then bos
  bos_then mid bos m e =
      subst (λ y. AreBos script (changed (moved mem (move_id n)) s.core.buffers b) s.reservations last_then y) (sym (e ∙ ap (λ y. with_use (move_id n) Kernel y b) m))
      (record {
        buffers_are = ap (λ xs. changed (carried mem) xs b) held.represents.bos.buffers_are ∙ sym (unfenced_as (moved mem (move_id n)) (carried mem) (λ y. refl) s.core.buffers b);
        reservations_are = held.represents.bos.reservations_are;
        fences_are = moved_fences s p.bos.fences held.represents.bos.fences_are b x move.live mem n known num;
        pages_are = held.represents.bos.pages_are;
      })

  -- a manager holds what the state tells
  spans_then : (mine : Mem) → mine ≢ System → (r : Resources) → HoldsAsIn (size_of script mine) mine s r → HoldsAsIn (size_of script mine) mine (applied script s (actor.Thread t) (kind.Move b mem n l)) (calls.carried mine mem b l r)
  spans_then mine out r representation = thread_spans script journal held.fits held.legal mine out (ghosts_law script journal held.fits held.legal).first below r representation t (kind.Move b mem n l) step told

  -- the move fence is the state's
  fence_then : (r : Resources) → r.move_fence ≡ p.vram.resources.move_fence → IsMoveFence last_then (move_fence_left (move_id n) l s.core.move_fence) (with_fence_left (move_id n) l r).move_fence
  fence_then r e = by l
    where
      by : (o : Left) → IsMoveFence last_then (move_fence_left (move_id n) o s.core.move_fence) (with_fence_left (move_id n) o r).move_fence
      by left.Now = move_now s.core.jobs s.last_jobs job known num refl
      by (left.Ghost g) =
          subst (λ k. IsMoveFence last_then s.core.move_fence k) (sym e) (move_later s.core.jobs s.last_jobs jobs_then last_then later s.core.move_fence p.vram.resources.move_fence held.represents.vram.fence)

  -- to set it changes no holding
  fenced_representation : (r : Resources) → HoldsAsIn script.sizes.vram Vram (applied script s (actor.Thread t) (kind.Move b mem n l)) r → HoldsAsIn script.sizes.vram Vram (applied script s (actor.Thread t) (kind.Move b mem n l)) (with_fence_left (move_id n) l r)
  fenced_representation r representation = by l
    where
      by : (o : Left) → HoldsAsIn script.sizes.vram Vram (applied script s (actor.Thread t) (kind.Move b mem n l)) (with_fence_left (move_id n) o r)
      by left.Now = record { size_is = representation.size_is; owners = representation.owners; each = representation.each }
      by (left.Ghost g) = representation

  -- so the manager of VRAM is represented
  vram_then : (mid v : room.Vram) → mid.resources ≡ calls.carried Vram mem b l p.vram.resources → room.spans_of_kind mid.kind ≡ room.spans_of_kind p.vram.kind → v.resources ≡ with_fence_left (move_id n) l mid.resources →
      room.spans_of_kind v.kind ≡ room.spans_of_kind mid.kind → IsVram script.sizes last_then (applied script s (actor.Thread t) (kind.Move b mem n l)).core.buffers (applied script s (actor.Thread t) (kind.Move b mem n l)).core.ghosts (move_fence_left (move_id n) l s.core.move_fence) v
  vram_then mid v m rule e rule_then =
      let now : v.resources ≡ with_fence_left (move_id n) l (calls.carried Vram mem b l p.vram.resources) = e ∙ ap (with_fence_left (move_id n) l) m in
      record {
        rule = rule_then ∙ rule ∙ held.represents.vram.rule;
        held_as = subst (λ r. HoldsAsIn script.sizes.vram Vram (applied script s (actor.Thread t) (kind.Move b mem n l)) r) (sym now)
            (fenced_representation (calls.carried Vram mem b l p.vram.resources) (spans_then Vram vram_out p.vram.resources held.represents.vram.held_as));
        fence = subst (λ (r : Resources). IsMoveFence last_then (move_fence_left (move_id n) l s.core.move_fence) r.move_fence) (sym now)
            (fence_then (calls.carried Vram mem b l p.vram.resources) (behind_fence Vram (kind.Move b mem n l) p.vram.resources));
      }

  -- no slot is given back
  swap_then : AreSlots script.sizes.swap (held_slots (applied script s (actor.Thread t) (kind.Move b mem n l)).core) (within script.sizes (stores_of script journal)) p.swap
  swap_then =
      subst (λ js. AreSlots script.sizes.swap (held_slots (applied script s (actor.Thread t) (kind.Move b mem n l)).core) (within script.sizes (stores_of script journal)) (record { held = given_back p.swap.held js; bytes = p.swap.bytes })) (by x.mem refl)
      (move_slots script s (actor.Thread t) (stores_of script journal) p.swap held.represents.swap b move.live mem n l (owner_law script journal held.fits held.legal).slots)
    where
      by : (m : Mem) → x.mem ≡ m → slots_left m x ≡ []
      by Tt e = no_slots x.table (no_slots_in_tt script held.fits journal held.legal b x move.live e)
      by Vram e = refl
      by System e = refl

  -- the entry, written out
  legal_move : IsLegalNext script (world_of script journal) (record { who = actor.Thread t; kind = kind.Move b mem n l })
  legal_move = subst (λ y. IsLegalNext script (world_of script journal) y) is legal

  -- the stores have the bytes and the aperture after it
  stores_then : HasStoresAfter script s (stores_of script journal) (actor.Thread t) (kind.Move b mem n l) (record p.stores { aper = mapped_in mem p.stores.aper x })
  stores_then = by mem refl
    where
      by : (m : Mem) → mem ≡ m → HasStoresAfter script s (stores_of script journal) (actor.Thread t) (kind.Move b mem n l) (record p.stores { aper = mapped_in m p.stores.aper x })
      by Vram e =
          subst (λ m. HasStoresAfter script s (stores_of script journal) (actor.Thread t) (kind.Move b m n l) p.stores) (sym e)
          (move_out_representation script journal held.fits held.legal p.stores held.represents.stores t n b l (subst (λ m. IsLegalNext script (world_of script journal) (record { who = actor.Thread t; kind = kind.Move b m n l })) e legal_move))
      by Tt e =
          subst (λ m. HasStoresAfter script s (stores_of script journal) (actor.Thread t) (kind.Move b m n l) (record p.stores { aper = mapped_in Tt p.stores.aper x })) (sym e)
          (move_in_representation script journal held.fits held.legal p.stores held.represents.stores t n b l (mapped_in Tt p.stores.aper x) (subst (λ m. IsLegalNext script (world_of script journal) (record { who = actor.Thread t; kind = kind.Move b m n l })) e legal_move) refl)
      by System e = absurd (move.to e)

  -- fences don't matter to the aperture
  mapped_unfenced : (m : Mem) → mapped_in m p.stores.aper (unfenced x) ≡ mapped_in m p.stores.aper x
  mapped_unfenced Vram = refl
  mapped_unfenced Tt = refl
  mapped_unfenced System = refl

  -- all parts tell the state and the bytes after the move
  pub move_held : (bo : Bo) → IsBo p.bos b bo → (contexts : ℕ) → contexts ≡ length p.timeline → (packets : List Packet) → packets ≡ copies (length bo.table) mem (target_spans mem (as_buffer bo)) bo.mem bo.spans →
      (waits : List Latest) → waits ≡ all_added Read (replicate contexts nothing_kept) bo.resv.fences → (ghost : Option Ghost) → ghost ≡ left_by_move contexts (as_buffer bo) (move_id n) l →
      (rings : List (List Pushed)) → rings ≡ with_pushed p.rings (record { job = move_id n; waits = waits; packets = packets; ran = 0 }) → (ghosts : List Ghost) → ghosts ≡ p.ghosts ++ option_to_list ghost →
      (aper : List (Option ℕ)) → aper ≡ mapped_in mem p.stores.aper (as_buffer bo) → (timeline : List Progress) → timeline ≡ with_emitted p.timeline 0 →
      (carry v : room.Vram) → carry.resources ≡ calls.carried Vram mem b l p.vram.resources → room.spans_of_kind carry.kind ≡ room.spans_of_kind p.vram.kind → v.resources ≡ with_fence_left (move_id n) l carry.resources →
      room.spans_of_kind v.kind ≡ room.spans_of_kind carry.kind → (r : Resources) → r ≡ calls.carried Tt mem b l p.tt → (mid bos : Bos) → mid ≡ with_changed (carried mem) p.bos b → bos ≡ with_use (move_id n) Kernel mid b →
      (o : Order) → o ≡ relisted p.lru b mem → AreMembersListed p.lru → (last : ℕ) → last ≡ last_ghost_left l p.last_ghost →
      AreHeld script (journal ++ entry ∷ []) (record p { rings = rings; ghosts = ghosts; stores = record p.stores { aper = aper }; timeline = timeline; vram = v; tt = r; bos = bos; lru = o; last_ghost = last })
  move_held bo lent contexts many packets pe waits we ghost ge rings re ghosts gse aper ae timeline le carry v ce rule ve rule_then r rne mid bos me be o oe members last lge =
      let same = within_same script.sizes (stores_of script journal) held.represents.no_more in
      let mapped : aper ≡ mapped_in mem p.stores.aper x = ae ∙ ap (mapped_in mem p.stores.aper) (lent_here bo lent) ∙ mapped_unfenced mem in
      held_still script journal p (record p { rings = rings; ghosts = ghosts; stores = record p.stores { aper = aper }; timeline = timeline; vram = v; tt = r; bos = bos; lru = o; last_ghost = last }) entry
      (record { who = actor.Thread t; kind = kind.Move b mem n l }) held is legal refl
      (record {
        bos = bos_then mid bos me be;
        timeline = subst (λ k. IsTimeline jobs_then last_then k) (sym le) (timeline_more s.core.jobs s.last_jobs job known num refl p.timeline held.represents.timeline);
        rings = rings_then rings waits packets (waits_are bo lent contexts many waits we) (packets_same bo lent packets pe) re;
        ghosts = ghosts_then ghosts ghost (ghost_is bo lent contexts many ghost ge) gse;
        vram = vram_then carry v ce rule ve rule_then;
        tt = subst (λ k. IsTt script.sizes (applied script s (actor.Thread t) (kind.Move b mem n l)).core.buffers (applied script s (actor.Thread t) (kind.Move b mem n l)).core.ghosts k) (sym rne) (spans_then Tt tt_out p.tt held.represents.tt);
        pool = pool_behind script s (actor.Thread t) (owner_law script journal held.fits held.legal) (kind.Move b mem n l) p.pool (next_tells script held.fits journal held.legal (actor.Thread t) (kind.Move b mem n l) step) held.represents.pool;
        swap = subst (λ bytes. AreSlots script.sizes.swap (held_slots (applied script s (actor.Thread t) (kind.Move b mem n l)).core) bytes p.swap) same swap_then;
        stores = subst (λ bytes. AreStores script.sizes (aperture (applied script s (actor.Thread t) (kind.Move b mem n l)).core) bytes (record p.stores { aper = aper })) same
            (subst (λ k. HasStoresAfter script s (stores_of script journal) (actor.Thread t) (kind.Move b mem n l) (record p.stores { aper = k })) (sym mapped) stores_then);
        lists = subst (λ k. AreListed script (changed (moved mem (move_id n)) s.core.buffers b) s.reservations (touched script (changed (moved mem (move_id n)) s.core.buffers b) s.reservations s.lists b) k) (sym oe)
            (move_lists script s p.lru b held.represents.lists members mem (move_id n) l x move.live);
        courses = held.represents.courses;
        stamp = held.represents.stamp;
        ghost = lge ∙ ap (last_ghost_left l) held.represents.ghost;
        no_more = held.represents.no_more;
      })
