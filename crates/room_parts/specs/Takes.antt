-- When the manager of a memory type can hold spans for an owner.
use Rattle.std.specs.Prelude.{◌≡◌, ◌≤◌, false, List, length}
use Rattle.ttm_base.specs.declared.Owner.{Owner}
use Rattle.ttm_base.specs.declared.Span.{Span}
use Rattle.buddy_manager.specs.Taking.{AreTaken}
use Rattle.resource_core.specs.Resources.{Resources, holds, is_free}

-- the owner holds nothing, and there are spans, which are free and apart
pub record CanHold (o : Owner) (spans : List Span) (r : Resources) : Type 0 where
  pub fresh : holds o r.held ≡ false
  pub some : 1 ≤ length spans
  pub free : AreTaken (is_free r.held) r.size spans
