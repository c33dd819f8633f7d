use Rattle.std.proofs.Common.{◌≡◌, []}
use Rattle.ttm_base.specs.Holes.{holes, is_free_beside}
use Rattle.manager_walk.proofs.blocks.holes.Given as goal

abbrev pub invariant-loop-page : goal.invariant-loop-page
invariant-loop-page l =
    record {
      found : l.found ≡ holes (is_free_beside l.initial.manager.held) l.page;
      room : l.room ≡ [];
      kept : l.manager ≡ l.initial.manager;
    }
