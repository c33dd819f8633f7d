use Rattle.std.proofs.Common.{◌∙◌}
use Rattle.map_access.proofs.Accesses.{any_way}
use Rattle.map_access.proofs.Parts.{way_in_part}
use Rattle.map_access.proofs.access.is_mapped_at.Goals as goal

pub returns : goal.returns
returns c =
    c.has_way.ensures ∙ way_in_part c.args.thread c.args.n c.part.result.now c.args.search.now.marks c.part.ensures
    ∙ any_way c.args.thread c.args.n c.args.search.now.marks
