use Rattle.std.proofs.Common.{◌∙◌, subst}
use Rattle.map_access.specs.Parts.{IsPart}
use Rattle.map_follow.proofs.Ends.{ends_by_part}
use Rattle.map_follow.proofs.follow.end_mappings.Goals as goal

pub returns : goal.returns
returns c =
    c.end_by.ensures
    ∙ ends_by_part c.args.thread c.args.answered c.part-marks.result.now c.args.search.now.marks c.args.maps.now
    (subst (λ t. IsPart t c.args.answered c.args.answered c.part-marks.result.now c.args.search.now.marks) c.from.ensures c.part-marks.ensures)
