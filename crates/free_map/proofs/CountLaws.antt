-- How many numbers are free.
use Rattle.std.proofs.Common.{◌≡◌, ℕ, ◌+◌, ◌-◌, ◌<◌, ◌≤◌, ◌^◌, Bool, true, false, not, cond, List, length, map, get_or, set, replicate, slice_get, position, count_by, Some, ap, sym, ◌∙◌, arith}
use Rattle.std.proofs.lemmas.List.{length-map, length-set, length-replicate, get_or-replicate, get_or-map, map-set, same_lists}
use Rattle.std.proofs.lemmas.List.Quantifiers.{position-Some}
use Rattle.std.proofs.lemmas.List.Sums.{sum_by-set, count_by-le-length}
use Rattle.std.proofs.lemmas.List.Folds.{sum_by-replicate}
use Rattle.std.proofs.lemmas.Option.{slice_get_within, get_or_from_slice_get}

-- so many of the numbers in the set aren't held
abbrev pub IsCounted : ℕ → List Bool → Type 0
IsCounted free numbers = (free ≡ count_by not (map not numbers)) × (length numbers < 2 ^ 32)

-- once the first was taken
pub record IsTaken (free : ℕ) (numbers news : List Bool) (n : ℕ) : Type 0 where
  pub some : 1 ≤ free
  pub counted : IsCounted (free - 1) news
  pub held : map not news ≡ set (map not numbers) n true

pub taken : (free : ℕ) (numbers news : List Bool) (n : ℕ) → IsCounted free numbers → position not (map not numbers) ≡ Some n → news ≡ set numbers n false → IsTaken free numbers news n
taken free numbers news n h first e =
    let held : map not news ≡ set (map not numbers) n true = ap (map not) e ∙ map-set not numbers n false in
    let p = position-Some not (map not numbers) n true first in
    let s = sum_by-set (λ x. cond (not x) 1 0) (map not numbers) n true true p.0 in
    let was : cond (not (get_or (map not numbers) n true)) 1 0 ≡ 1 = ap {B = ℕ} (λ b. cond b 1 0) p.1 in
    let c : count_by not (map not news) ≡ count_by not (set (map not numbers) n true) = ap (count_by not) held in
    let l : length news ≡ length numbers = ap length e ∙ length-set numbers n false in
    record { some = omega (arith, s, was, h); counted = (omega (arith, s, was, c, h), omega (arith, l, h)); held = held }

-- once one was given back
pub record IsGiven (free : ℕ) (numbers news : List Bool) (n : ℕ) : Type 0 where
  pub room : free < length numbers
  pub counted : IsCounted (free + 1) news
  pub held : map not news ≡ set (map not numbers) n false

pub given : (free : ℕ) (numbers news : List Bool) (n : ℕ) → IsCounted free numbers → slice_get (map not numbers) n ≡ Some true → news ≡ set numbers n true → IsGiven free numbers news n
given free numbers news n h is e =
    let held : map not news ≡ set (map not numbers) n false = ap (map not) e ∙ map-set not numbers n true in
    let s = sum_by-set (λ x. cond (not x) 1 0) (map not numbers) n false true (slice_get_within (map not numbers) n true is) in
    let was : cond (not (get_or (map not numbers) n true)) 1 0 ≡ 0 = ap {B = ℕ} (λ b. cond (not b) 1 0) (get_or_from_slice_get (map not numbers) n true true is) in
    let c : count_by not (map not news) ≡ count_by not (set (map not numbers) n false) = ap (count_by not) held in
    let most = count_by-le-length not (map not news) in
    let m : length (map not news) ≡ length news = length-map news not in
    let l : length news ≡ length numbers = ap length e ∙ length-set numbers n true in
    record { room = omega (arith, s, was, c, h, most, m, l); counted = (omega (arith, s, was, c, h), omega (arith, l, h)); held = held }

-- all are free
pub record AreFree (n : ℕ) (numbers : List Bool) : Type 0 where
  pub counted : IsCounted n numbers
  pub held : map not numbers ≡ replicate n false

pub all_free : (n : ℕ) (numbers : List Bool) → n < 2 ^ 32 → length numbers ≡ n → ((k : ℕ) (d : Bool) → k < n → get_or numbers k d ≡ true) → AreFree n numbers
all_free n numbers small l h =
    let m : length (map not numbers) ≡ n = length-map numbers not ∙ l in
    let held : map not numbers ≡ replicate n false =
    same_lists (map not numbers) (replicate n false) (m ∙ sym (length-replicate n false))
    (λ k d lt.
    let within : k < n = omega (arith, m, lt) in
    let inside : k < length numbers = omega (arith, l, within) in
    get_or-map not numbers k true d inside ∙ ap not (h k true within) ∙ sym (get_or-replicate n k false d within)) in
    let s = sum_by-replicate (λ x. cond (not x) 1 0) n false in
    let c : count_by not (map not numbers) ≡ count_by not (replicate n false) = ap (count_by not) held in
    record { counted = (omega (arith, s, c), omega (arith, l, small)); held = held }
