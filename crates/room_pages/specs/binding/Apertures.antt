-- Pages of an aperture.
use Rattle.std.specs.Prelude.{◌≡◌, ℕ, ◌<◌, List, Some, slice_get}

-- each of the pages is below the size
abbrev pub AreBelow : List ℕ → ℕ → Type 0
AreBelow pages size = (k p : ℕ) → slice_get pages k ≡ Some p → p < size
