-- A list of which one item was set.
use Rattle.std.proofs.Common.{◌≡◌, ℕ, zero, suc, ◌≤◌, List, [], ◌∷◌, refl, ap, arith, length}
use Rattle.std.specs.Prelude.{slice_set}

pub set_beyond : {X : Type 0} (xs : List X) (i : ℕ) (y : X) → length xs ≤ i → slice_set xs i y ≡ xs
set_beyond [] i y h = refl
set_beyond (x ∷ xs) zero y h = absurd (omega arith)
set_beyond (x ∷ xs) (suc i) y h = ap (λ zs. x ∷ zs) (set_beyond xs i y (omega arith))

pub length_set : {X : Type 0} (xs : List X) (i : ℕ) (y : X) → length (slice_set xs i y) ≡ length xs
length_set [] i y = refl
length_set (x ∷ xs) zero y = refl
length_set (x ∷ xs) (suc i) y = ap suc (length_set xs i y)
