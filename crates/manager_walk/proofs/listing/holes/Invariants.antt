use Rattle.std.proofs.Common.{◌≡◌}
use Rattle.ttm_base.specs.Holes.{holes, is_free_beside}
use Rattle.manager_walk.proofs.listing.holes.Given as goal

abbrev pub invariant-loop-page : goal.invariant-loop-page
invariant-loop-page l = l.found ≡ holes (is_free_beside l.manager.held) l.page
