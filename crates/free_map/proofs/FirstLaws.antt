-- What is held, by the marks of the numbers that are free.
use Rattle.std.proofs.Common.{◌≡◌, ℕ, ◌<◌, ◌≤◌, Bool, true, false, not, cond, List, length, map, get_or, position, Some, None, ap, ◌∙◌, arith, ltb}
use Rattle.std.specs.List.{position_or_len}
use Rattle.std.proofs.lemmas.Bool.{lt-ltb, le-ltb}
use Rattle.std.proofs.Math.ListN.{get_or-map}
use Rattle.std.proofs.lemmas.List.{length-map}
use Rattle.std.proofs.lemmas.List.Sums.{position_or_len_is}
use Rattle.bit_set.specs.Marks.{has, IsFirstFrom}

-- a number is held if it isn't in the set
held_at : (numbers : List Bool) (k : ℕ) → get_or (map not numbers) k true ≡ not (has numbers k)
held_at numbers k = get_or-map not numbers k false

position_at : (xs : List Bool) (n : ℕ) → position_or_len not xs ≡ n → n < length xs → position not xs ≡ Some n
position_at xs n e h = ap (λ i. cond (ltb i (length xs)) (Some i) None) e ∙ ap (λ b. cond b (Some n) None) (lt-ltb n (length xs) h)

position_none : (xs : List Bool) → position_or_len not xs ≡ length xs → position not xs ≡ None
position_none xs e = ap (λ i. cond (ltb i (length xs)) (Some i) None) e ∙ ap (λ b. cond b (Some (length xs)) None) (le-ltb (length xs) (length xs) (omega arith))

-- the least number of the set is the lowest that isn't held
pub first_free : (numbers : List Bool) (n : ℕ) → IsFirstFrom numbers 0 n → position not (map not numbers) ≡ Some n
first_free numbers n f =
    let l : length (map not numbers) ≡ length numbers = length-map numbers not in
    let w = f.within in
    position_at (map not numbers) n
    (position_or_len_is not (map not numbers) n true (omega (arith, l, w))
    (λ k lt. ap not (held_at numbers k ∙ ap not (f.before k (omega arith) lt)))
    (λ _. ap not (held_at numbers n ∙ ap not f.is)))
    (omega (arith, l, w))

pub none_free : (numbers : List Bool) → ((i : ℕ) → 0 ≤ i → has numbers i ≡ false) → position not (map not numbers) ≡ None
none_free numbers none =
    position_none (map not numbers)
    (position_or_len_is not (map not numbers) (length (map not numbers)) true (omega arith)
    (λ k lt. ap not (held_at numbers k ∙ ap not (none k (omega arith))))
    (λ h. absurd (omega arith)))
