use Rattle.std.proofs.Common.{false, set, slice_get, ap, ◌∙◌, arith}
use Rattle.free_map.proofs.CountLaws.{IsGiven, given}
use Rattle.free_map.proofs.FreeMap.give.Goals as goal
use Rattle.free_map.proofs.FreeMap.give.Goals.{After-set}

after : (c : After-set) → IsGiven c.self.inside.free c.self.inside.numbers c.set.new.self c.args.number
after c =
    given c.self.inside.free c.self.inside.numbers c.set.new.self c.args.number c.self.invariant
    (ap (λ xs. slice_get xs c.args.number) c.self.view_is ∙ c.requires) c.set.ensures

pub overflow_add-self : goal.overflow_add-self
overflow_add-self c = let r = (after c).room in omega (arith, r, c.self.invariant)

pub invariant_of-self : goal.invariant_of-self
invariant_of-self c = (after (goal.at.invariant_of-self c).After-set).counted

pub returns : goal.returns
returns c = (after (goal.at.returns c).After-set).held ∙ ap (λ xs. set xs c.args.number false) c.self.view_is
