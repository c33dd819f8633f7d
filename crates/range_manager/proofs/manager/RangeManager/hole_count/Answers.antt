use Rattle.std.proofs.Common.{length, ap, ◌∙◌}
use Rattle.ttm_base.specs.Holes.{holes, is_free_beside}
use Rattle.range_manager.specs.Held.{Managed}
use Rattle.range_manager.proofs.ManagedLaws.{managed_holes}
use Rattle.range_manager.proofs.manager.RangeManager.hole_count.Goals as goal

pub returns : goal.returns
returns c =
    c.hole_count.ensures
    ∙ ap (λ hs. length hs) (managed_holes c.self.inside.holes c.self.inside.ends c.self.inside.used c.self.inside.count c.self.invariant)
    ∙ ap (λ (m : Managed). length (holes (is_free_beside m.held) m.size)) c.self.view_is
