-- Another holder changes no pins.
use Rattle.std.proofs.Common.{◌≡◌, ℕ, zero, suc, List, [], ◌∷◌, None, Option, refl, ◌∙◌}
use Rattle.std.specs.Prelude.{slice_get, slice_set, unwrap_or}
use Rattle.ttm_base.specs.declared.BufId.{BufId}
use Rattle.ttm_base.specs.declared.Stamp.{Stamp}
use Rattle.journal_model.specs.declared.state.Reservation.{Reservation}
use Rattle.journal_model.specs.rules.ApplyCommands.{with_holder, released}
use Rattle.journal_model.specs.rules.State.{reservation_in, no_reservation, reservation_changed}

-- another holder changes no pins
pins-at : (holder : Option Stamp) (reservations : List Reservation) (i j : ℕ) →
    (unwrap_or (slice_get (slice_set reservations i (with_holder holder (unwrap_or (slice_get reservations i) no_reservation))) j) no_reservation).pins ≡ (unwrap_or (slice_get reservations j) no_reservation).pins
pins-at holder [] i j = refl
pins-at holder (g ∷ reservations) zero zero = refl
pins-at holder (g ∷ reservations) zero (suc j) = refl
pins-at holder (g ∷ reservations) (suc i) zero = refl
pins-at holder (g ∷ reservations) (suc i) (suc j) = pins-at holder reservations i j

-- the pins of a buffer after a buffer got another holder
pub pins-reservation_changed : (holder : Option Stamp) (reservations : List Reservation) (b c : BufId) → (reservation_in (reservation_changed (with_holder holder) reservations b) c).pins ≡ (reservation_in reservations c).pins
pins-reservation_changed holder reservations b c = pins-at holder reservations b.0 c.0

-- after some were released
pub pins-released : (reservations : List Reservation) (bs : List BufId) (c : BufId) → (reservation_in (released reservations bs) c).pins ≡ (reservation_in reservations c).pins
pins-released reservations [] c = refl
pins-released reservations (b ∷ bs) c = pins-released (reservation_changed (with_holder None) reservations b) bs c ∙ pins-reservation_changed None reservations b c
