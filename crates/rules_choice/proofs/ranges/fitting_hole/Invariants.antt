use Rattle.std.proofs.Common.{◌≡◌, take}
use Rattle.std.specs.Prelude.{option_map}
use Rattle.ttm_base.specs.RangeChoice.{fitting_hole}
use Rattle.rules_choice.specs.Fits.{fit_of}
use Rattle.rules_choice.proofs.ranges.fitting_hole.Given as goal

abbrev pub invariant-loop-hole : goal.invariant-loop-hole
invariant-loop-hole l = option_map fit_of l.best ≡ fitting_hole l.mode (take l.hole-index l.holes) l.pages l.align l.range
