-- The number of the threads that aren't held back, its digits by age, falls at a backoff.
use Rattle.std.proofs.Common.{ℕ, ◌+◌, ◌≤◌, ◌<◌, Bool, true, false, List, [], ◌∷◌, length, arith}
use Rattle.std.specs.Prelude.{zero, suc}
use Rattle.laws.proofs.law_sound.Measure.{binary, one_if}

-- no digit of the second rises
pub data NoneRises : List Bool → List Bool → Type 0 where
  nil : NoneRises [] []
  same : {b : Bool} {bs cs : List Bool} → NoneRises bs cs → NoneRises (b ∷ bs) (b ∷ cs)
  falls : {bs cs : List Bool} → NoneRises bs cs → NoneRises (true ∷ bs) (false ∷ cs)

-- one digit falls, no greater one rises, and the lesser ones are as they like
pub data OneFalls : List Bool → List Bool → Type 0 where
  here : {bs cs : List Bool} → NoneRises bs cs → OneFalls (true ∷ bs) (false ∷ cs)
  later : {b c : Bool} {bs cs : List Bool} → OneFalls bs cs → OneFalls (b ∷ bs) (c ∷ cs)

digit_most : (b : Bool) → one_if b ≤ 1
digit_most true = omega arith
digit_most false = omega arith

pub binary_keeps : {bs cs : List Bool} → NoneRises bs cs → binary cs ≤ binary bs
binary_keeps nil = omega arith
binary_keeps (same {b} r) = let h = binary_keeps r in omega arith
binary_keeps (falls r) = let h = binary_keeps r in omega arith

pub binary_falls : {bs cs : List Bool} → OneFalls bs cs → binary cs < binary bs
binary_falls (here r) = let h = binary_keeps r in omega arith
binary_falls (later {b} {c} r) = let h = binary_falls r in let d = digit_most c in omega arith

abbrev pub two_to : ℕ → ℕ
two_to zero = 1
two_to (suc n) = two_to n + two_to n

pub binary_most : (bs : List Bool) → binary bs + 1 ≤ two_to (length bs)
binary_most [] = omega arith
binary_most (b ∷ bs) = let h = binary_most bs in let d = digit_most b in omega arith
