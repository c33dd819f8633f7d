use Rattle.std.proofs.Common.{◌∙◌}
use Rattle.plain_memory.proofs.ContentLaws.{range_is}
use Rattle.plain_memory.proofs.memory.PlainMemory.range.Goals as goal

pub returns : goal.returns
returns c =
    let fits = rw (← c.self.view_is) at c.requires in
    rw (← c.self.view_is) (c.range.ensures ∙ range_is c.self.inside.contents.items c.args.b c.args.off c.args.len c.index.result.now fits c.index.ensures)
