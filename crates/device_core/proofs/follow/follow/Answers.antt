use Rattle.std.proofs.Common.{◌≡◌, List, [], sym, subst, ◌∙◌}
use Rattle.journal_model.specs.rules.Legal.{state_of}
use Rattle.cpu_maps.specs.declared.area.Area.{Area}
use Rattle.map_follow.specs.Laws.{areas_after}
use Rattle.device_core.proofs.Empty.{empty_is, none_after}
use Rattle.device_core.proofs.follow.follow.Goals as goal

pub returns-then-is_empty : goal.returns-then-is_empty
returns-then-is_empty c = λ before entry at.
    let none : c.args.maps.now ≡ [] = sym c.areas.ensures ∙ empty_is c.areas.result.now c.is_empty.result c.is_empty.ensures c.if-is_empty.true in
    subst (λ (xs : List Area). xs ≡ areas_after c.args.rooms.now.script (state_of c.args.rooms.now.script before) entry xs) (sym none)
    (sym (none_after c.args.rooms.now.script (state_of c.args.rooms.now.script before) entry))
