-- Buffers after the end of the table.
use Rattle.std.proofs.Common.{◌≡◌, ℕ, zero, suc, ◌≤◌, false, List, [], ◌∷◌, None, length, refl, sym, ap, arith}
use Rattle.std.specs.Prelude.{is_some, option_and_then, slice_get}
use Rattle.ttm_base.specs.declared.BufId.{BufId}
use Rattle.journal_model.specs.declared.script.Script.{Script}
use Rattle.journal_model.specs.declared.entry.Entry.{Entry}
use Rattle.journal_model.specs.rules.State.{is_live}
use Rattle.journal_model.specs.rules.Legal.{state_of}
use Rattle.laws.proofs.law_sound.Along.{sound_law}
use Rattle.room_representation.specs.declared.parts.Parts.{Parts}
use Rattle.room_representation.specs.Held.{AreHeld}

past_end : {X : Type 0} (xs : List X) (i : ℕ) → length xs ≤ i → slice_get xs i ≡ None
past_end [] i h = refl
past_end (x ∷ xs) zero h = absurd (omega (arith, h))
past_end (x ∷ xs) (suc i) h = past_end xs i (omega (arith, h))

-- they are dead
pub dead_beyond : (script : Script) (journal : List Entry) (p : Parts) → AreHeld script journal p → (b : BufId) → length p.bos.reservations ≤ b.0 → false ≡ is_live (state_of script journal) b
dead_beyond script journal p held b h =
    let s = state_of script journal in
    let reservations = (sound_law script journal held.fits held.legal).owned.reservations in
    let same = ap length held.represents.bos.reservations_are in
    let none = past_end s.core.buffers b.0 (omega (arith, h, reservations, same)) in
    sym (ap (λ o. is_some (option_and_then (λ x. x) o)) none)
