use Rattle.std.proofs.Common.{◌∙◌, sym, subst}
use Rattle.rules_holds.specs.Free.{AreUnheld}
use Rattle.rules_holds.proofs.FreeLaws.{lowest_is, none_is}
use Rattle.rules_holds.proofs.free_sets.FreeNumbers.lowest.Goals as goal

pub returns-in_err-number : goal.returns-in_err-number
returns-in_err-number c size held u =
    c.from_residual.ensures ∙ none_is size held c.self.inside.numbers (subst (AreUnheld size held) (sym c.self.view_is) u) c.in_err-number.ensures.none

pub returns : goal.returns
returns c size held u = lowest_is size held c.self.inside.numbers c.in_ok-number.number (subst (AreUnheld size held) (sym c.self.view_is) u) c.in_ok-number.ensures.some
