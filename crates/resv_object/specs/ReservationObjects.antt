-- A reservation: the ticket that holds it, and the jobs that use what it guards.
use Rattle.std.specs.Prelude.{List, Option}
use Rattle.ttm_base.specs.declared.Stamp.{Stamp}
use Rattle.fence_core.specs.declared.fence_set.Latest.{Latest}

-- the ticket that holds the reservation, if one does, and the latest jobs of each context
pub record ReservationObject : Type 0 where
  pub holder : Option Stamp
  pub fences : List Latest
