-- A set of numbers below a length, as a mark for each.
use Rattle.std.specs.Prelude.{◌≡◌, ℕ, ◌<◌, ◌≤◌, Bool, true, false, List, length, slice_index_or}

-- whether a number is in the set
abbrev pub has : List Bool → ℕ → Bool
has marks number = slice_index_or marks number false

-- m is the least number of the set that is not below a number
pub record IsFirstFrom (marks : List Bool) (number m : ℕ) : Type 0 where
  pub from : number ≤ m
  pub within : m < length marks
  pub is : has marks m ≡ true
  pub before : (i : ℕ) → number ≤ i → i < m → has marks i ≡ false

-- m is the greatest number of the set that is not above a number
pub record IsLastTo (marks : List Bool) (number m : ℕ) : Type 0 where
  pub to : m ≤ number
  pub is : has marks m ≡ true
  pub behind : (i : ℕ) → m < i → i ≤ number → has marks i ≡ false
