-- The front of a list.
use Rattle.std.proofs.Common.{◌≡◌, ℕ, List, ◌++◌, length, take, arith}
use Rattle.std.proofs.lemmas.Grind.{common_steps}

pub take_front : (n : ℕ) (l h : List ℕ) → length l ≡ n → take n (l ++ h) ≡ l
take_front n l h e = grind (arith, common_steps)
