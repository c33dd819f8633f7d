-- How many bytes and slots the parts of a device have.
use Rattle.std.proofs.Common.{◌≡◌, ◌∙◌, ℕ, ◌+◌, ◌*◌, Bool, List, zero, suc, refl, sym, ap, map, length, arith}
use Rattle.std.proofs.lemmas.Grind.{common_steps}
use Rattle.ttm_base.specs.ListWords.{count_from}
use Rattle.journal_model.specs.declared.script.Script.{Script}
use Rattle.journal_model.specs.declared.entry.Entry.{Entry}
use Rattle.journal_model.specs.rules.Legal.{world_of}
use Rattle.journal_model.specs.rules.Holds.{has_number, held_slots}
use Rattle.room_representation.specs.declared.parts.Parts.{Parts}
use Rattle.room_representation.specs.Held.{AreHeld}

length_map : (f : ℕ → Bool) (n start : ℕ) → length (map f (count_from 1 n start)) ≡ n
length_map f zero start = refl
length_map f (suc n) start = let e = length_map f n (1 + start) in grind (arith, common_steps)

pub vram_bytes : (d s : Script) (es : List Entry) (p : Parts) → s ≡ d → AreHeld d es p → length p.stores.vram ≡ 4096 * s.sizes.vram
vram_bytes d s es p of h = h.represents.stores.vram_size ∙ ap (λ (x : Script). 4096 * x.sizes.vram) (sym of)

pub frame_bytes : (d s : Script) (es : List Entry) (p : Parts) → s ≡ d → AreHeld d es p → length p.stores.frames ≡ 4096 * s.sizes.frames
frame_bytes d s es p of h = h.represents.stores.frame_size ∙ ap (λ (x : Script). 4096 * x.sizes.frames) (sym of)

pub slot_count : (d s : Script) (es : List Entry) (p : Parts) → s ≡ d → AreHeld d es p → length p.swap.held ≡ s.sizes.swap
slot_count d s es p of h =
    ap length h.represents.swap.held_are
    ∙ length_map (has_number (held_slots (world_of d es).state.core)) d.sizes.swap 0
    ∙ ap (λ (x : Script). x.sizes.swap) (sym of)
