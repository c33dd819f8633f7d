-- The hole that a request takes.
use Rattle.std.specs.Prelude.{ℕ, Bool, List, Option, option_map, filter}
use Rattle.ttm_base.specs.declared.Span.{Span}
use Rattle.ttm_base.specs.declared.Mode.{Mode}
use Rattle.ttm_base.specs.ListWords.{least_by}
use Rattle.ttm_base.specs.Reach.{length_of}
use Rattle.ttm_base.specs.RangeChoice.{fitting_hole}

-- the hole of the range choice, for pages from first up to last
abbrev pub chosen_hole : Mode → List Span → ℕ → ℕ → ℕ → ℕ → Option Span
chosen_hole mode holes pages align first last = option_map (λ f. f.hole) (fitting_hole mode holes pages align (record { start = first; end = last }))

-- the shortest that passes a test, the first among equals
abbrev pub find_shortest : (Span → Bool) → List Span → Option Span
find_shortest test spans = least_by length_of (filter test spans)
