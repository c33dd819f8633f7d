-- Blocks that a scan for a candidate may pass over.
use Rattle.std.specs.Prelude.{◌≡◌, ℕ, ◌/◌, ◌^◌, Bool, false, List, Option, length, slice_index}
use Rattle.ttm_base.specs.declared.Span.{Span}
use Rattle.ttm_base.specs.Reach.{is_inside}
use Rattle.ttm_base.specs.BuddyChoice.{Candidate, block_around}
use Rattle.ttm_base.specs.BlockStarts.{starts_of, candidate_at}
use Rattle.rules_choice.specs.Marks.{marked}
use Rattle.rules_choice.specs.Least.{best_with}

-- the i-th block in the order of looks isn't inside the range
abbrev pub IsOutside : Span → Bool → ℕ → ℕ → ℕ → Type 0
IsOutside range topdown order size i = is_inside range (block_around order (slice_index (starts_of topdown order size) i)) ≡ false

-- the best so far stays the best after a look at the block of an order around a page
abbrev pub Stays : List Bool → Span → ℕ → Option Candidate → ℕ → Type 0
Stays marks range order best page = best ≡ best_with (λ c. c.whole) best (candidate_at (marked marks) (length marks) range order page)

-- if it stays the best after a look at a page, it does after those at all pages of a larger block around that page
abbrev pub IsSettled : List Bool → Span → ℕ → ℕ → ℕ → Option Candidate → Type 0
IsSettled marks range order whole page best = Stays marks range order best page → (other : ℕ) → other / 2 ^ whole ≡ page / 2 ^ whole → Stays marks range order best other
