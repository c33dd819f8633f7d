use Rattle.std.proofs.Common.{ap, ◌∙◌}
use Rattle.hole_tree.specs.Longest.{longest}
use Rattle.hole_tree.proofs.holes.Holes.longest_hole.Goals as goal

pub returns : goal.returns
returns c = c.longest.ensures _ c.kept.ensures ∙ ap (λ h. longest h.holes) c.self.view_is
