use Rattle.std.proofs.Common.{true, not, position, set, sym, ap, ◌∙◌}
use Rattle.free_map.proofs.CountLaws.{IsTaken, taken}
use Rattle.free_map.proofs.FirstLaws.{first_free, none_free}
use Rattle.free_map.proofs.FreeMap.take.Goals as goal
use Rattle.free_map.proofs.FreeMap.take.Goals.{After-clear}

after : (c : After-clear) → IsTaken c.self.inside.free c.self.inside.numbers c.clear.new.self c.in_ok-number.number
after c =
    taken c.self.inside.free c.self.inside.numbers c.clear.new.self c.in_ok-number.number c.self.invariant
    (first_free c.self.inside.numbers c.in_ok-number.number c.in_ok-number.ensures.some) c.clear.ensures

pub returns-in_err-number-clause-lowest : goal.returns-in_err-number-clause-lowest
returns-in_err-number-clause-lowest c = c.from_residual.ensures ∙ sym (none_free c.self.inside.numbers c.in_err-number.ensures.none) ∙ ap (position not) c.self.view_is

pub overflow_sub-self : goal.overflow_sub-self
overflow_sub-self c = (after c).some

pub invariant_of-self : goal.invariant_of-self
invariant_of-self c = (after (goal.at.invariant_of-self c).After-clear).counted

pub returns-clause-lowest : goal.returns-clause-lowest
returns-clause-lowest c = sym (first_free c.self.inside.numbers c.in_ok-number.number c.in_ok-number.ensures.some) ∙ ap (position not) c.self.view_is

pub returns-clause-taken : goal.returns-clause-taken
returns-clause-taken c = (after (goal.at.returns-clause-taken c).After-clear).held ∙ ap (λ xs. set xs c.in_ok-number.number true) c.self.view_is
