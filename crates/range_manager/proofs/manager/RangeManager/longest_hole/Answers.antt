use Rattle.std.proofs.Common.{ap, ◌∙◌}
use Rattle.ttm_base.specs.Holes.{holes, is_free_beside}
use Rattle.hole_tree.specs.Longest.{longest}
use Rattle.range_manager.specs.Held.{Managed}
use Rattle.range_manager.proofs.ManagedLaws.{managed_holes}
use Rattle.range_manager.proofs.manager.RangeManager.longest_hole.Goals as goal

pub returns : goal.returns
returns c =
    c.longest_hole.ensures
    ∙ ap (λ hs. longest hs) (managed_holes c.self.inside.holes c.self.inside.ends c.self.inside.used c.self.inside.count c.self.invariant)
    ∙ ap (λ (m : Managed). longest (holes (is_free_beside m.held) m.size)) c.self.view_is
