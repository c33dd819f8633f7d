use Rattle.std.proofs.Common.{ap, sym, ◌∙◌}
use Rattle.resource_core.specs.VramRooms.{seen}
use Rattle.resource_core.proofs.VramLaws.{gives, has_none}
use Rattle.resource_core.proofs.vram.VramRoomManager.take.Goals as goal
use Rattle.resource_core.proofs.vram.VramRoomManager.take.Goals.{in-Ranges, in-Blocks}

pub returns-clause-ok : goal.returns-clause-ok
returns-clause-ok c =
    elim c.match-self.branch [
      | in-Ranges w ↦ gives _ c.args.self.now w.take.result c.match-self.result c.args.pages c.args.align c.args.place.now (sym (ap seen w.in-Ranges.is) ∙ c.self.view_is) w.result-is w.take.ensures.ok
      | in-Blocks w ↦ gives _ c.args.self.now w.take-in-Blocks.result c.match-self.result c.args.pages c.args.align c.args.place.now (sym (ap seen w.in-Blocks.is) ∙ c.self.view_is) w.result-is w.take-in-Blocks.ensures.ok
    ]

pub returns-clause-none : goal.returns-clause-none
returns-clause-none c =
    elim c.match-self.branch [
      | in-Ranges w ↦ has_none _ c.args.self.now w.take.result c.match-self.result c.args.pages c.args.align c.args.place.now (sym (ap seen w.in-Ranges.is) ∙ c.self.view_is) w.result-is w.take.ensures.none
      | in-Blocks w ↦ has_none _ c.args.self.now w.take-in-Blocks.result c.match-self.result c.args.pages c.args.align c.args.place.now (sym (ap seen w.in-Blocks.is) ∙ c.self.view_is) w.result-is w.take-in-Blocks.ensures.none
    ]
