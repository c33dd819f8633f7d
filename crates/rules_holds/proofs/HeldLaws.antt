-- What is held, by declared buffer.
use Rattle.std.proofs.Common.{◌≡◌, ℕ, ◌+◌, List, [], ◌∷◌, ◌++◌, Option, Some, None, arith}
use Rattle.std.specs.Prelude.{filter_map, flat_map, map}
use Rattle.std.specs.List.{enumerate_from}
use Rattle.std.proofs.lemmas.Grind.{common_steps}
use Rattle.ttm_base.specs.declared.Mem.{Mem}
use Rattle.journal_model.specs.declared.state.Core.{Core}
use Rattle.journal_model.specs.declared.state.Buffer.{Buffer}
use Rattle.journal_model.specs.declared.state.Ghost.{Ghost}
use Rattle.journal_model.specs.rules.Places.{frames_of, slots_of}
use Rattle.journal_model.specs.rules.Holds.{live_entry, buffer_holds, ghost_hold, ghost_spans, held_spans, live_frames, held_slots}
use Rattle.rules_holds.specs.Held.{spans_of_slot, frames_of_slot, slots_of_slot}

-- the spans of live buffers, numbered from n on
live_spans_from : (mem : Mem) (n : ℕ) (bs : List (Option Buffer))
    → flat_map (λ h. h.spans) (flat_map (buffer_holds mem) (filter_map live_entry (enumerate_from n bs))) ≡ flat_map (spans_of_slot mem) bs
live_spans_from mem n [] = grind (arith, common_steps)
live_spans_from mem n (None ∷ bs) = let e = live_spans_from mem (n + 1) bs in grind (arith, common_steps)
live_spans_from mem n (Some x ∷ bs) = let e = live_spans_from mem (n + 1) bs in grind (arith, common_steps)

-- the spans of ghosts
ghost_spans_of : (mem : Mem) (gs : List Ghost) → flat_map (λ h. h.spans) (map (ghost_hold mem) gs) ≡ flat_map (ghost_spans mem) gs
ghost_spans_of mem [] = grind (arith, common_steps)
ghost_spans_of mem (g ∷ gs) = let e = ghost_spans_of mem gs in grind (arith, common_steps)

pub held_spans_of : (mem : Mem) (c : Core) → held_spans mem c ≡ flat_map (spans_of_slot mem) c.buffers ++ flat_map (ghost_spans mem) c.ghosts
held_spans_of mem c =
    let live = live_spans_from mem 0 c.buffers in
    let ghosts = ghost_spans_of mem c.ghosts in
    grind (arith, common_steps)

-- the frames of live buffers, numbered from n on
live_frames_from : (n : ℕ) (bs : List (Option Buffer)) → flat_map (λ e. frames_of e.1) (filter_map live_entry (enumerate_from n bs)) ≡ flat_map frames_of_slot bs
live_frames_from n [] = grind (arith, common_steps)
live_frames_from n (None ∷ bs) = let e = live_frames_from (n + 1) bs in grind (arith, common_steps)
live_frames_from n (Some x ∷ bs) = let e = live_frames_from (n + 1) bs in grind (arith, common_steps)

pub live_frames_of : (c : Core) → live_frames c ≡ flat_map frames_of_slot c.buffers
live_frames_of c = live_frames_from 0 c.buffers

-- the slots of live buffers, numbered from n on
held_slots_from : (n : ℕ) (bs : List (Option Buffer)) → flat_map (λ e. slots_of e.1) (filter_map live_entry (enumerate_from n bs)) ≡ flat_map slots_of_slot bs
held_slots_from n [] = grind (arith, common_steps)
held_slots_from n (None ∷ bs) = let e = held_slots_from (n + 1) bs in grind (arith, common_steps)
held_slots_from n (Some x ∷ bs) = let e = held_slots_from (n + 1) bs in grind (arith, common_steps)

pub held_slots_of : (c : Core) → held_slots c ≡ flat_map slots_of_slot c.buffers
held_slots_of c = held_slots_from 0 c.buffers
