use Rattle.std.proofs.Common.{ap, sym, ◌∙◌}
use Rattle.resource_core.specs.VramRooms.{seen}
use Rattle.resource_core.proofs.VramLaws.{gives}
use Rattle.resource_core.proofs.vram.VramRoomManager.choose.Goals as goal
use Rattle.resource_core.proofs.vram.VramRoomManager.choose.Goals.{in-Ranges, in-Blocks}

pub returns-clause-ok : goal.returns-clause-ok
returns-clause-ok c =
    elim c.match-self.branch [
      | in-Ranges w ↦ gives _ c.args.self.now w.choose.result c.match-self.result c.args.pages c.args.align c.args.place.now (sym (ap seen w.in-Ranges.is) ∙ c.self.view_is) w.result-is w.choose.ensures.ok
      | in-Blocks w ↦ gives _ c.args.self.now w.choose-in-Blocks.result c.match-self.result c.args.pages c.args.align c.args.place.now (sym (ap seen w.in-Blocks.is) ∙ c.self.view_is) w.result-is w.choose-in-Blocks.ensures.ok
    ]
