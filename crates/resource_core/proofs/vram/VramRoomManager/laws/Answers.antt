use Rattle.std.proofs.Common.{◌≤◌, count_by, ap, sym, subst, ◌∙◌}
use Rattle.ttm_base.specs.Holes.{has_page}
use Rattle.resource_core.specs.Resources.{all_spans}
use Rattle.resource_core.specs.Vram.{Vram}
use Rattle.resource_core.specs.VramRooms.{seen}
use Rattle.resource_core.proofs.vram.VramRoomManager.laws.Goals as goal

pub returns-in-Ranges-clause-once : goal.returns-in-Ranges-clause-once
returns-in-Ranges-clause-once c = λ page.
    subst (λ (v : Vram). count_by (has_page page) (all_spans v.resources.held) ≤ 1) (sym (ap seen c.in-Ranges.is) ∙ c.self.view_is) (c.laws.ensures.once page)

pub returns-in-Blocks-clause-once : goal.returns-in-Blocks-clause-once
returns-in-Blocks-clause-once c = λ page.
    subst (λ (v : Vram). count_by (has_page page) (all_spans v.resources.held) ≤ 1) (sym (ap seen c.in-Blocks.is) ∙ c.self.view_is) (c.laws-in-Blocks.ensures.once page)
