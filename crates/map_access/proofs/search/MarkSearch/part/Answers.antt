use Rattle.std.proofs.Common.{◌≡◌, subst}
use Rattle.std.specs.Prelude.{List}
use Rattle.journal_model.specs.declared.script.Mark.{Mark}
use Rattle.map_access.specs.Parts.{IsPart}
use Rattle.map_access.proofs.Order.{all_are_part}
use Rattle.map_access.proofs.search.MarkSearch.part.Goals as goal

pub returns-else-self : goal.returns-else-self
returns-else-self c =
    let same : c.args.self.now.marks ≡ c.items-marks.result.now =
    let lent = c.items-marks.ensures in
    let seen = c.self.view_is in
    cc in
    subst (λ (ms : List Mark). IsPart c.args.thread c.args.first c.args.last ms c.args.self.now.marks) same
    (all_are_part c.args.thread c.args.first c.args.last c.args.self.now.marks)
