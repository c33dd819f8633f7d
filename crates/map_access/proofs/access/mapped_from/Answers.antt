use Rattle.std.proofs.Common.{◌∙◌}
use Rattle.map_access.proofs.Parts.{mapped_in_part}
use Rattle.map_access.proofs.access.mapped_from.Goals as goal

pub returns : goal.returns
returns c =
    c.first_through.ensures
    ∙ mapped_in_part c.args.thread c.args.n (record { b = c.args.b; off = 0; len = 0 }) c.part.result.now c.args.search.now.marks c.part.ensures
