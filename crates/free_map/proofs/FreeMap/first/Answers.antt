use Rattle.std.proofs.Common.{not, position, sym, ap, ◌∙◌}
use Rattle.free_map.proofs.FirstLaws.{first_free, none_free}
use Rattle.free_map.proofs.FreeMap.first.Goals as goal

pub returns-in_err-number : goal.returns-in_err-number
returns-in_err-number c = c.from_residual.ensures ∙ sym (none_free c.self.inside.numbers c.in_err-number.ensures.none) ∙ ap (position not) c.self.view_is

pub returns : goal.returns
returns c = sym (first_free c.self.inside.numbers c.in_ok-number.number c.in_ok-number.ensures.some) ∙ ap (position not) c.self.view_is
