-- All parts after a page that goes to a slot.
use Rattle.std.proofs.Common.{◌≡◌, ℕ, ◌*◌, ◌+◌, ◌-◌, ◌<◌, ◌≤◌, Bool, true, false, List, [], ◌∷◌, ◌++◌, Option, Some, length, refl, sym, ◌∙◌, ap, subst, arith, ◌⊎◌, inl, inr}
use Rattle.std.specs.Prelude.{IfSome, IsSome, not, nat_lt, option_and_then, position, replicate, slice_get, slice_index, slice_set, unwrap_or, if◌then◌else◌}
use Rattle.std.proofs.lemmas.List.{length-set}
use Rattle.ttm_base.specs.declared.Actor.{Actor}
use Rattle.ttm_base.specs.declared.Actor.TheVariants as actor
use Rattle.ttm_base.specs.declared.BufId.{BufId}
use Rattle.ttm_base.specs.declared.Loc.TheVariants as loc
use Rattle.ttm_base.specs.declared.Mem.TheVariants.{System, Tt, Vram}
use Rattle.ttm_base.specs.Pages.{PageBytes}
use Rattle.byte_store.specs.Parts.{overwritten, part}
use Rattle.copy_packet.specs.StoreBytes.{byte_at}
use Rattle.swap_store.specs.Slots.{SwapSlots}
use Rattle.bo_table.specs.declared.bo.Bo.{Bo}
use Rattle.bo_table.specs.Seen.{Bos, IsBo, with_changed}
use Rattle.journal_model.specs.declared.script.Script.{Script}
use Rattle.journal_model.specs.declared.state.State.{State}
use Rattle.journal_model.specs.declared.state.Buffer.{Buffer}
use Rattle.journal_model.specs.declared.entry.Entry.{Entry}
use Rattle.journal_model.specs.declared.entry.Kind.TheVariants as kind
use Rattle.journal_model.specs.rules.State.{buffer, live_in}
use Rattle.journal_model.specs.rules.ApplyPages.{with_loc, after_swap_out}
use Rattle.journal_model.specs.rules.Holds.{free_slot, held_frames, held_slots}
use Rattle.journal_model.specs.rules.Places.{aperture, frame_of, page_at, page_in, page_in_table}
use Rattle.journal_model.specs.rules.Stores.{stores_after, within}
use Rattle.journal_model.specs.rules.Legal.{IsLegalNext, state_of, world_of, world_after}
use Rattle.laws.proofs.law_owners.Law.{owner_law}
use Rattle.laws.specs.lemma_bytes_told.Told.{IsThere, Told, still, swaps_out}
use Rattle.laws.proofs.law_transparent.Carried.{told_law}
use Rattle.room_representation.proofs.lemma_lists.KindLaws.{changed_unseen}
use Rattle.room_representation.proofs.lemma_spans.Still.{swap_out_spans}
use Rattle.room_representation.specs.declared.parts.Parts.{Parts}
use Rattle.room_representation.specs.Held.{AreHeld}
use Rattle.room_representation.specs.Pages.{ArePooled, AreSlots}
use Rattle.room_representation.specs.Represents.{Represents}
use Rattle.room_representation.proofs.lemma_jobs.Packets.{nothing_beyond}
use Rattle.room_representation.specs.lemma_bytes.After.{frame_at}
use Rattle.room_representation.specs.lemma_bytes.GivenBack.{given, taken}
use Rattle.room_representation.proofs.lemma_bytes.Lowest.{slot_first, lowest_is_unheld}
use Rattle.room_representation.proofs.lemma_bytes.Marks.{length-marks}
use Rattle.room_representation.proofs.lemma_bytes.Pools.{swap_out_pooled}
use Rattle.room_representation.proofs.lemma_bytes.SlotKinds.{swap_out_slots}
use Rattle.room_representation.proofs.lemma_bytes.Telling.{to_empty}
use Rattle.room_representation.proofs.lemma_bytes.Walks.{frames_within, page_held}
use Rattle.room_representation.proofs.lemma_bytes.Fills.{swap_out_stores}
use Rattle.room_representation.proofs.lemma_bytes.Shown.{frame_read}
use Rattle.room_pages.specs.Tables.{frame_in}
use Rattle.room_pages.proofs.Padded.{length-padded, long_before, padded_over, padded_same}
use Rattle.room_representation.proofs.steps.Steps.{held_after, step_as}
use Rattle.room_representation.proofs.steps.Frames.{changed_bos}
use Rattle.room_representation.proofs.steps.Lent.{is_below, lent_below, lent_table}

-- ---- slots whose number of bytes is known only after the page that is put there

module _ (script : Script) (s : State) (who : Actor) (bytes : PageBytes) (swap : SwapSlots) (representation : AreSlots script.sizes.swap (held_slots s.core) bytes swap) where
  -- zeros after the last slot change nothing
  padded_slots : (m : ℕ) → AreSlots script.sizes.swap (held_slots s.core) bytes (record { held = swap.held; bytes = swap.bytes ++ replicate m 0 })
  padded_slots m = record { held_are = representation.held_are; bytes_are = λ k o e. ap (λ n. if nat_lt o 4096 then n else 0) (padded_same swap.bytes m (4096 * k + o)) ∙ representation.bytes_are k o e }

  module _ (b : BufId) (live : IsThere s b) (page f k : ℕ) (copy : List ℕ) (at : slice_get (buffer s b).table page ≡ Some (loc.Frame f)) (free : free_slot script s.core ≡ Some k) (whole : length copy ≡ 4096)
      (same : (o : ℕ) → o < 4096 → slice_index copy o ≡ bytes (page_at (buffer s b) page) o) where
    abbrev AreSlotsAfter : SwapSlots → Type 0
    AreSlotsAfter new = AreSlots script.sizes.swap (held_slots (after_swap_out s b page k).core) (within script.sizes (stores_after script s who (kind.SwapOut b page k) bytes)) new

    -- the slot is there
    inside : k < length swap.held
    inside =
        let below = (lowest_is_unheld (held_slots s.core) script.sizes.swap k free).1 in
        let long : length swap.held ≡ script.sizes.swap = ap length representation.held_are ∙ length-marks (held_slots s.core) script.sizes.swap in
        omega (arith, below, long)

    -- the page is put there, be all bytes of the slots there or not
    put_there : (length swap.bytes ≡ 4096 * length swap.held) ⊎ ((4096 * k ≤ length swap.bytes) × (length swap.bytes ≤ 4096 * length swap.held) × (4096 * k + length copy ≡ 4096 * length swap.held)) →
        AreSlotsAfter (record { held = taken swap.held k; bytes = overwritten swap.bytes (4096 * k) copy })
    put_there (inl long) = swap_out_slots script s who bytes swap representation b live page f k copy at free whole long same
    put_there (inr last) =
        let m : ℕ = 4096 * length swap.held - length swap.bytes in
        let start = last.0 in
        let short = last.1 in
        let end = last.2 in
        let all = length-padded swap.bytes m in
        let long : length (swap.bytes ++ replicate m 0) ≡ 4096 * length swap.held = omega (arith, all, short) in
        subst (λ l. AreSlotsAfter (record { held = taken swap.held k; bytes = l })) (padded_over swap.bytes copy (4096 * k) m start (omega (arith, short, end)))
        (swap_out_slots script s who bytes (record { held = swap.held; bytes = swap.bytes ++ replicate m 0 }) (padded_slots m) b live page f k copy at free whole long same)

    -- the swap store after the page that was put into its lowest free slot
    pub swapped_slots : (new : SwapSlots) → new.held ≡ taken swap.held k → new.bytes ≡ overwritten swap.bytes (4096 * k) copy → length new.bytes ≡ 4096 * length new.held → AreSlotsAfter new
    swapped_slots new held put long =
        let all : length new.held ≡ length swap.held = ap length held ∙ length-set swap.held k true in
        let full : length (overwritten swap.bytes (4096 * k) copy) ≡ 4096 * length swap.held = sym (ap length put) ∙ long ∙ ap (λ n. 4096 * n) all in
        let fits = inside in
        let represented = put_there (long_before swap.bytes copy (4096 * k) (4096 * length swap.held) (omega (arith, fits, whole)) full) in
        record {
          held_are = held ∙ represented.held_are;
          bytes_are = λ i o e. ap (λ l. byte_at l i o) put ∙ represented.bytes_are i o e;
        }

-- ---- all parts

-- a live buffer in SYSTEM, whose page stands in a frame, and the lowest free slot
record IsGone (script : Script) (s : State) (b : BufId) (page k : ℕ) : Type 0 where
  live : IsThere s b
  free : free_slot script s.core ≡ Some k
  at : slice_get (buffer s b).table page ≡ Some (loc.Frame (frame_at (buffer s b) page))
  home : (buffer s b).mem ≡ System

gone_in : (script : Script) (s : State) (t : ℕ) (b : BufId) (page k : ℕ) → Told script s t (kind.SwapOut b page k) → IsGone script s b page k
gone_in script s t b page k (still h) = cc
gone_in script s t b _ k (swaps_out there m quiet some free) = record { live = there; free = free; at = to_empty (buffer s b) some; home = m }

module _ (script : Script) (journal : List Entry) (p : Parts) (entry : Entry) (t : ℕ) (b : BufId) (page k : ℕ) (held : AreHeld script journal p) (is : entry ≡ record { who = actor.Thread t; kind = kind.SwapOut b page k }) (legal : IsLegalNext script (world_of script journal) entry) where
  abbrev s : State
  s = state_of script journal

  gone : IsGone script s b page k
  gone = gone_in script s t b page k (told_law script journal t (kind.SwapOut b page k) held.fits held.legal (step_as script journal entry (record { who = actor.Thread t; kind = kind.SwapOut b page k }) is legal refl))

  abbrev its_frame : ℕ
  its_frame = frame_at (buffer s b) page

  -- the table has the buffer
  pub swap_out_below : b.0 < length p.bos.reservations
  swap_out_below = lent_below script journal p held b gone.live

  -- the page has its frame in the table that is lent
  frame_there : (bo : Bo) → IsBo p.bos b bo → frame_in bo.table page ≡ Some its_frame
  frame_there bo lent = ap (λ l. frame_in l page) (lent_table script journal p held b gone.live bo lent) ∙ ap (option_and_then frame_of) gone.at

  -- the page has a frame
  pub swap_out_frame : (bo : Bo) → IsBo p.bos b bo → IsSome (frame_in bo.table page)
  swap_out_frame bo lent = subst (λ o. IsSome o) (sym (frame_there bo lent)) refl

  -- it is the one that is read there
  same_frame : (bo : Bo) (f : ℕ) → IsBo p.bos b bo → frame_in bo.table page ≡ Some f → its_frame ≡ f
  same_frame bo f lent e = let z : Some its_frame ≡ Some f = sym (frame_there bo lent) ∙ e in cc

  frame_held : slice_get p.pool its_frame ≡ Some true
  frame_held =
      page_held frame_of script.sizes.frames (held_frames s.core) p.pool held.represents.pool.held_are (owner_law script journal held.fits held.legal).frames (buffer s b).table (frames_within s.core b (buffer s b) gone.live) page (loc.Frame its_frame) its_frame gone.at refl

  below : its_frame < script.sizes.frames
  below =
      let there = is_below p.pool its_frame true frame_held in
      let all : length p.pool ≡ script.sizes.frames = ap length held.represents.pool.held_are ∙ length-marks (held_frames s.core) script.sizes.frames in
      omega (arith, there, all)

  -- its bytes are in the stores
  pub swap_out_inside : (bo : Bo) (f : ℕ) → IsBo p.bos b bo → frame_in bo.table page ≡ Some f → 4096 * f + 4096 ≤ length p.stores.frames
  swap_out_inside bo f lent e =
      let n = held.represents.stores.frame_size in
      let l = below in
      let same = same_frame bo f lent e in
      omega (arith, n, l, same)

  -- it is held
  pub swap_out_given : (bo : Bo) (f : ℕ) → IsBo p.bos b bo → frame_in bo.table page ≡ Some f → slice_get p.pool f ≡ Some true
  swap_out_given bo f lent e = ap (slice_get p.pool) (sym (same_frame bo f lent e)) ∙ frame_held

  -- the page has the bytes of its frame
  page_read : (o : ℕ) → o < 4096 → slice_index (part p.stores.frames (4096 * its_frame) 4096) o ≡ (world_of script journal).stores (page_at (buffer s b) page) o
  page_read o l =
      frame_read script.sizes (aperture s.core) (world_of script journal).stores p.stores held.represents.stores its_frame below o l
      ∙ sym (ap (λ q. (world_of script journal).stores q o) (ap (λ m. page_in m (buffer s b) page) gone.home ∙ ap (λ q. page_in_table (unwrap_or q loc.Zero)) gone.at))

  -- all parts after the entry
  pub swap_out_held : (pool : List Bool) (swap : SwapSlots) (bos : Bos) (bo : Bo) (f : ℕ) (o : Option ℕ) (copy : List ℕ) → IsBo p.bos b bo → frame_in bo.table page ≡ Some f →
      copy ≡ part p.stores.frames (4096 * f) 4096 → length copy ≡ 4096 → o ≡ position not p.swap.held → IfSome o (λ j. swap.held ≡ slice_set p.swap.held j true) →
      IfSome o (λ j. swap.bytes ≡ overwritten p.swap.bytes (4096 * j) copy) → length swap.bytes ≡ 4096 * length swap.held → pool ≡ slice_set p.pool f false →
      bos ≡ with_changed (with_loc page (loc.Slot k)) p.bos b → AreHeld script (journal ++ entry ∷ []) (record p { pool = pool; swap = swap; bos = bos })
  swap_out_held pool swap bos bo f o copy lent read whole long first held_now put full back e =
      let w = world_of script journal in
      let represents = held.represents in
      let q : Parts = record p { pool = pool; swap = swap; bos = bos } in
      let same = same_frame bo f lent read in
      let lowest : o ≡ Some k = first ∙ slot_first script s.core w.stores p.swap represents.swap ∙ gone.free in
      let held_then : swap.held ≡ slice_set p.swap.held k true = subst (λ x. IfSome x (λ j. swap.held ≡ slice_set p.swap.held j true)) lowest held_now in
      let put_then : swap.bytes ≡ overwritten p.swap.bytes (4096 * k) copy = subst (λ x. IfSome x (λ j. swap.bytes ≡ overwritten p.swap.bytes (4096 * j) copy)) lowest put in
      let bytes_same : (i : ℕ) → i < 4096 → slice_index copy i ≡ w.stores (page_at (buffer s b) page) i = λ i l. ap (λ c. slice_index c i) (whole ∙ ap (λ n. part p.stores.frames (4096 * n) 4096) (sym same)) ∙ page_read i l in
      held_after script journal p q entry held legal
      (subst (λ (y : Entry). Represents script (world_after script w y).state (world_after script w y).stores q) (sym is)
      (record {
        bos = changed_bos (with_loc page (loc.Slot k)) (λ x. refl) (λ x. refl) script s.core.buffers s.reservations s.last_jobs p.bos represents.bos b bos e;
        timeline = represents.timeline;
        rings = represents.rings;
        ghosts = represents.ghosts;
        vram = record { rule = represents.vram.rule; held_as = swap_out_spans script.sizes.vram Vram s p.vram.resources represents.vram.held_as b page k; fence = represents.vram.fence };
        tt = swap_out_spans script.sizes.tt Tt s p.tt represents.tt b page k;
        pool = subst (λ l. ArePooled script.sizes.frames (held_frames (after_swap_out s b page k).core) l) (ap (given p.pool) same ∙ sym back)
            (swap_out_pooled script s b gone.live p.pool represents.pool page its_frame k (owner_law script journal held.fits held.legal).frames gone.at);
        swap = swapped_slots script s (actor.Thread t) w.stores p.swap represents.swap b gone.live page its_frame k copy gone.at gone.free long bytes_same swap held_then put_then full;
        stores = swap_out_stores script s w.stores p.stores represents.stores (actor.Thread t) b out page k;
        lists = changed_unseen script (with_loc page (loc.Slot k)) s.core.buffers s.reservations s.lists p.lru b (λ x. refl) represents.lists;
        courses = represents.courses;
        stamp = represents.stamp;
        ghost = represents.ghost;
        no_more = nothing_beyond script.sizes (stores_after script s (actor.Thread t) (kind.SwapOut b page k) w.stores);
      }))
    where
      out : (x : Buffer) → live_in s.core.buffers b ≡ Some x → x.mem ≡ Tt → ⊥
      out x l m =
          let g : Some (buffer s b) ≡ Some x = sym gone.live ∙ l in
          let there : buffer s b ≡ x = cc in
          let z : System ≡ Tt = sym gone.home ∙ ap (λ (y : Buffer). y.mem) there ∙ m in
          cc
