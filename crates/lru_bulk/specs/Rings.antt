-- Rings of spots by next and prev links. No public clause cites this module.
use Rattle.std.specs.Prelude.{◌≡◌, List, [], ◌∷◌}

-- each element
abbrev pub Each : {X : Type 0} → (X → Type 0) → List X → Type 0
Each P [] = Unit {0}
Each P (x ∷ xs) = P x × Each P xs

module _ {S : Type 0} where
  -- the links lead from a through c to z, and back
  abbrev pub Path : (S → S) → (S → S) → S → List S → S → Type 0
  Path n p a [] z = (n a ≡ z) × (p z ≡ a)
  Path n p a (k ∷ c) z = (n a ≡ k) × (p k ≡ a) × Path n p k c z
