-- A hole that fits, and the better of two.
use Rattle.std.specs.Prelude.{Option, Some, None, nat_lt, if◌then◌else◌}
use Rattle.ttm_base.specs.declared.Mode.{Mode}
use Rattle.ttm_base.specs.declared.Mode.TheVariants.{Best, Low, High}
use Rattle.ttm_base.specs.Reach.{length_of}
use Rattle.ttm_base.specs.RangeChoice as range
use Rattle.rules_choice.specs.declared.ranges.Fit.{Fit}

-- the fit with the same hole and pages
abbrev pub fit_of : Fit → range.Fit
fit_of f = record { hole = f.hole; taken = f.taken }

-- the better of the best fit so far, and one in a higher hole
abbrev pub better_fit : Mode → Option range.Fit → range.Fit → range.Fit
better_fit mode None f = f
better_fit Best (Some b) f = if nat_lt (length_of f.hole) (length_of b.hole) then f else b
better_fit Low (Some b) f = b
better_fit High (Some b) f = f
