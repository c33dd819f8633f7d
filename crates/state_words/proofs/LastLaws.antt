-- The last of a list, by its position.
use Rattle.std.proofs.Common.{◌≡◌, ◌-◌, List, [], ◌∷◌, Some, length, refl, arith}
use Rattle.std.specs.Prelude.{slice_get}
use Rattle.std.proofs.lemmas.Grind.{common_steps}
use Rattle.ttm_base.specs.ListWords.{last_or, last_of}

last_or_at : {X : Type 0} (x : X) (xs : List X) → slice_get (x ∷ xs) (length xs) ≡ Some (last_or x xs)
last_or_at x [] = refl
last_or_at x (y ∷ xs) = last_or_at y xs

pub last_of_at : {X : Type 0} (xs : List X) → slice_get xs (length xs - 1) ≡ last_of xs
last_of_at [] = refl
last_of_at (x ∷ xs) = let e = last_or_at x xs in grind (arith, common_steps)
