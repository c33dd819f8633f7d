-- All parts after a page that comes back from its slot.
use Rattle.std.proofs.Common.{◌≡◌, ℕ, zero, suc, ◌*◌, ◌+◌, ◌<◌, ◌≤◌, Bool, true, false, List, [], ◌∷◌, ◌++◌, Option, Some, length, refl, sym, ◌∙◌, ap, subst, arith}
use Rattle.std.specs.Prelude.{IfSome, not, position, slice_get, slice_set, take, drop}
use Rattle.std.proofs.lemmas.Bool.{eq-eqb}
use Rattle.std.proofs.lemmas.List.{length-drop}
use Rattle.ttm_base.specs.declared.Actor.TheVariants as actor
use Rattle.ttm_base.specs.declared.BufId.{BufId}
use Rattle.ttm_base.specs.declared.Loc.TheVariants as loc
use Rattle.ttm_base.specs.declared.Mem.TheVariants.{Tt, Vram}
use Rattle.byte_store.specs.Parts.{overwritten, part}
use Rattle.swap_store.specs.Slots.{SwapSlots}
use Rattle.bo_table.specs.Seen.{Bos, with_changed}
use Rattle.journal_model.specs.declared.script.Script.{Script}
use Rattle.journal_model.specs.declared.state.State.{State}
use Rattle.journal_model.specs.declared.state.Buffer.{Buffer}
use Rattle.journal_model.specs.declared.entry.Entry.{Entry}
use Rattle.journal_model.specs.declared.entry.Kind.TheVariants as kind
use Rattle.journal_model.specs.rules.State.{buffer, live_in}
use Rattle.journal_model.specs.rules.ApplyPages.{with_loc, after_swap_in}
use Rattle.journal_model.specs.rules.Holds.{free_frame, held_frames, held_slots}
use Rattle.journal_model.specs.rules.Places.{slot_of}
use Rattle.journal_model.specs.rules.Stores.{stores_after, within}
use Rattle.journal_model.specs.rules.Legal.{IsLegalNext, state_of, world_of, world_after}
use Rattle.laws.proofs.law_owners.Counts.{one, times}
use Rattle.laws.proofs.law_owners.Keeps.{in_loc}
use Rattle.laws.proofs.law_owners.Law.{owner_law}
use Rattle.laws.specs.lemma_bytes_told.Told.{IsThere, Told, still, swaps_in}
use Rattle.laws.proofs.law_transparent.Carried.{told_law}
use Rattle.room_representation.proofs.lemma_lists.KindLaws.{changed_unseen}
use Rattle.room_representation.proofs.lemma_spans.Still.{swap_in_spans}
use Rattle.room_representation.specs.declared.parts.Parts.{Parts}
use Rattle.room_representation.specs.Held.{AreHeld}
use Rattle.room_representation.specs.Pages.{ArePooled, AreSlots}
use Rattle.room_representation.specs.Represents.{Represents}
use Rattle.room_representation.proofs.lemma_jobs.Packets.{nothing_beyond}
use Rattle.room_representation.proofs.lemma_bytes.Held.{table_set}
use Rattle.room_representation.proofs.lemma_bytes.Lowest.{pool_first, lowest_is_unheld}
use Rattle.room_representation.proofs.lemma_bytes.Marks.{mark_at, has_some, owned_below}
use Rattle.room_representation.proofs.lemma_bytes.Pools.{swap_in_pooled}
use Rattle.room_representation.proofs.lemma_bytes.SlotKinds.{swap_in_slots}
use Rattle.room_representation.proofs.lemma_bytes.Telling.{to_fill}
use Rattle.room_representation.proofs.lemma_bytes.Walks.{slots_within}
use Rattle.room_representation.proofs.lemma_bytes.Fills.{swap_in_stores}
use Rattle.room_representation.proofs.steps.Lent.{is_below}
use Rattle.room_representation.proofs.steps.Frames.{changed_bos}
use Rattle.room_representation.proofs.steps.Steps.{held_after, step_as}

-- a live buffer out of TT, whose page stands in the slot, gets the lowest free frame
record IsBack (script : Script) (s : State) (b : BufId) (page k f : ℕ) : Type 0 where
  live : IsThere s b
  free : free_frame script s.core ≡ Some f
  at : slice_get (buffer s b).table page ≡ Some (loc.Slot k)
  out : (buffer s b).mem ≡ Tt → ⊥

back_in : (script : Script) (s : State) (t : ℕ) (b : BufId) (page k f : ℕ) → Told script s t (kind.SwapIn b page k f) → IsBack script s b page k f
back_in script s t b page k f (still h) = cc
back_in script s t b _ k f (swaps_in there free l some out) = record { live = there; free = free; at = to_fill (buffer s b) (loc.Slot k) some l; out = out }

-- some of a list are no more than all
taken_short : (n : ℕ) (xs : List ℕ) → length (take n xs) ≤ length xs
taken_short zero xs = omega arith
taken_short (suc n) [] = omega arith
taken_short (suc n) (x ∷ xs) = let rest = taken_short n xs in omega (arith, rest)

-- bytes of which a whole page is there
page_inside : (bytes : List ℕ) (at : ℕ) → length (part bytes at 4096) ≡ 4096 → at + 4096 ≤ length bytes
page_inside bytes at h =
    let short = taken_short 4096 (drop at bytes) in
    let left = length-drop at bytes in
    omega (arith, h, short, left)

module _ (script : Script) (journal : List Entry) (p : Parts) (entry : Entry) (t : ℕ) (b : BufId) (page k f : ℕ) (held : AreHeld script journal p) (is : entry ≡ record { who = actor.Thread t; kind = kind.SwapIn b page k f }) (legal : IsLegalNext script (world_of script journal) entry) where
  abbrev s : State
  s = state_of script journal

  back : IsBack script s b page k f
  back = back_in script s t b page k f (told_law script journal t (kind.SwapIn b page k f) held.fits held.legal (step_as script journal entry (record { who = actor.Thread t; kind = kind.SwapIn b page k f }) is legal refl))

  below : f < script.sizes.frames
  below = (lowest_is_unheld (held_frames s.core) script.sizes.frames f back.free).1

  named : 1 ≤ times k (held_slots s.core)
  named =
      let here : in_loc slot_of k (loc.Slot k) ≡ 1 = ap one (eq-eqb k k refl) in
      let gone = table_set slot_of k (buffer s b).table page (loc.Slot k) loc.Zero back.at in
      let all = slots_within s.core b (buffer s b) back.live k in
      omega (arith, here, gone, all)

  slot_there : k < script.sizes.swap
  slot_there = owned_below script.sizes.swap (held_slots s.core) (owner_law script journal held.fits held.legal).slots k named

  -- the slot is held
  pub swap_in_slot : slice_get p.swap.held k ≡ Some true
  swap_in_slot =
      ap (λ l. slice_get l k) held.represents.swap.held_are ∙ mark_at _ script.sizes.swap k slot_there ∙ ap (λ q. Some q) (has_some (held_slots s.core) k named)

  pub swap_in_below : k < length p.swap.held
  swap_in_below = is_below p.swap.held k true swap_in_slot

  -- the frame is in the stores
  pub swap_in_inside : (bytes : List ℕ) → length bytes ≡ 4096 → 4096 * f + length bytes ≤ length p.stores.frames
  swap_in_inside bytes long = let n = held.represents.stores.frame_size in let l = below in omega (arith, n, l, long)

  pub swap_in_held : (pool : List Bool) (frames : List ℕ) (swap : SwapSlots) (bos : Bos) (o : Option ℕ) (bytes : List ℕ) → o ≡ position not p.pool → IfSome o (λ j. pool ≡ slice_set p.pool j true) →
      bytes ≡ part p.swap.bytes (4096 * k) 4096 → length bytes ≡ 4096 → frames ≡ overwritten p.stores.frames (4096 * f) bytes → swap ≡ record { held = slice_set p.swap.held k false; bytes = p.swap.bytes } →
      bos ≡ with_changed (with_loc page (loc.Frame f)) p.bos b → AreHeld script (journal ++ entry ∷ []) (record p { pool = pool; stores = record p.stores { frames = frames }; swap = swap; bos = bos })
  swap_in_held pool frames swap bos o bytes first taken whole long put gone e =
      let w = world_of script journal in
      let represents = held.represents in
      let q : Parts = record p { pool = pool; stores = record p.stores { frames = frames }; swap = swap; bos = bos } in
      let lowest : o ≡ Some f = first ∙ pool_first script s.core p.pool represents.pool ∙ back.free in
      let now : pool ≡ slice_set p.pool f true = subst (λ x. IfSome x (λ j. pool ≡ slice_set p.pool j true)) lowest taken in
      let inside : 4096 * k + 4096 ≤ length p.swap.bytes = page_inside p.swap.bytes (4096 * k) (ap length (sym whole) ∙ long) in
      held_after script journal p q entry held legal
      (subst (λ (y : Entry). Represents script (world_after script w y).state (world_after script w y).stores q) (sym is)
      (record {
        bos = changed_bos (with_loc page (loc.Frame f)) (λ x. refl) (λ x. refl) script s.core.buffers s.reservations s.last_jobs p.bos represents.bos b bos e;
        timeline = represents.timeline;
        rings = represents.rings;
        ghosts = represents.ghosts;
        vram = record { rule = represents.vram.rule; held_as = swap_in_spans script.sizes.vram Vram s p.vram.resources represents.vram.held_as b page f; fence = represents.vram.fence };
        tt = swap_in_spans script.sizes.tt Tt s p.tt represents.tt b page f;
        pool = subst (λ l. ArePooled script.sizes.frames (held_frames (after_swap_in s b page f).core) l) (sym now) (swap_in_pooled script s b back.live p.pool represents.pool page k f back.at);
        swap = subst (λ x. AreSlots script.sizes.swap (held_slots (after_swap_in s b page f).core) (within script.sizes (stores_after script s (actor.Thread t) (kind.SwapIn b page k f) w.stores)) x) (sym gone)
            (swap_in_slots script s (actor.Thread t) w.stores p.swap represents.swap b back.live page k f (owner_law script journal held.fits held.legal).slots back.at);
        stores = swap_in_stores script s w.stores p.stores represents.stores (actor.Thread t) b (λ x l m. back.out (ap (λ (y : Buffer). y.mem) (there x l) ∙ m)) page f below frames k (held_slots s.core) p.swap bytes represents.swap slot_there inside whole put;
        lists = changed_unseen script (with_loc page (loc.Frame f)) s.core.buffers s.reservations s.lists p.lru b (λ x. refl) represents.lists;
        courses = represents.courses;
        stamp = represents.stamp;
        ghost = represents.ghost;
        no_more = nothing_beyond script.sizes (stores_after script s (actor.Thread t) (kind.SwapIn b page k f) w.stores);
      }))
    where
      there : (x : Buffer) → live_in s.core.buffers b ≡ Some x → buffer s b ≡ x
      there x l = let g : Some (buffer s b) ≡ Some x = sym back.live ∙ l in cc
