-- At first no frame and no slot is held, and slots are full of zeros: a new pool and a new swap store are the first state's.
use Rattle.std.proofs.Common.{◌≡◌, ℕ, zero, suc, ◌+◌, false, List, [], ◌∷◌, ◌++◌, None, refl, sym, ◌∙◌, ap}
use Rattle.std.specs.Prelude.{map, replicate}
use Rattle.ttm_base.specs.ListWords.{count_from}
use Rattle.copy_packet.specs.StoreBytes.{byte_at}
use Rattle.journal_model.specs.declared.script.Script.{Script}
use Rattle.journal_model.specs.declared.state.Buffer.{Buffer}
use Rattle.journal_model.specs.rules.Holds.{has_number, held_frames, held_slots}
use Rattle.journal_model.specs.rules.Legal.{first_state}
use Rattle.journal_model.specs.rules.Places.{frames_of, slots_of}
use Rattle.journal_model.specs.rules.Stores.{zeros}
use Rattle.room_representation.specs.Pages.{ArePooled, AreSlots, marks}
use Rattle.room_representation.proofs.lemma_bytes.Held.{of_live}

none_live : {X : Type 0} (see : Buffer → List ℕ) (k : ℕ) (xs : List X) → of_live see k (map (λ x. None) xs) ≡ []
none_live see k [] = refl
none_live see k (x ∷ xs) = none_live see (k + 1) xs

unmarked : (n start : ℕ) → map (has_number []) (count_from 1 n start) ≡ replicate n false
unmarked zero start = refl
unmarked (suc n) start = ap (λ bs. false ∷ bs) (unmarked n (1 + start))

-- each frame is free
pub first_pool : (script : Script) → ArePooled script.sizes.frames (held_frames (first_state script).core) (replicate script.sizes.frames false)
first_pool script = record {
  held_are = sym (ap (λ ns. marks (ns ++ []) script.sizes.frames) (none_live frames_of 0 script.buffers) ∙ unmarked script.sizes.frames 0);
}

-- each slot is free, with zeros in it
pub first_slots : (script : Script) (bytes : List ℕ) → ((k o : ℕ) → byte_at bytes k o ≡ 0) → AreSlots script.sizes.swap (held_slots (first_state script).core) zeros (record { held = replicate script.sizes.swap false; bytes = bytes })
first_slots script bytes none = record {
  held_are = sym (ap (λ ns. marks ns script.sizes.swap) (none_live slots_of 0 script.buffers) ∙ unmarked script.sizes.swap 0);
  bytes_are = λ k o there. none k o;
}
