use Rattle.std.proofs.Common.{◌≡◌}
use Rattle.ttm_base.specs.Holes.{holes}
use Rattle.rules_choice.specs.Marks.{marked}
use Rattle.rules_choice.proofs.pages.holes_among.Given as goal

abbrev pub invariant-loop-page : goal.invariant-loop-page
invariant-loop-page l = l.found ≡ holes (marked l.marks) l.page
