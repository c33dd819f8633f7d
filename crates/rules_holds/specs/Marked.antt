-- Marks of numbers.
use Rattle.std.specs.Prelude.{◌≡◌, ℕ, ◌<◌, ◌||◌, Bool, false, List, length, slice_index_or}
use Rattle.journal_model.specs.rules.Holds.{has_number}

-- the marks of these numbers are set too, as far as there are marks
pub record AreMarked (old : List Bool) (numbers : List ℕ) (new : List Bool) : Type 0 where
  pub len : length new ≡ length old
  pub marked : (n : ℕ) → n < length old → slice_index_or new n false ≡ (slice_index_or old n false || has_number numbers n)
