use Rattle.std.proofs.Common.{◌≡◌, take}
use Rattle.journal_model.specs.rules.Lists.{taken_off}
use Rattle.rules_state.proofs.parts.lists.taken_off.Given as goal

abbrev pub invariant-loop-list : goal.invariant-loop-list
invariant-loop-list l = l.rest ≡ taken_off (take l.list-index l.lists) l.b
