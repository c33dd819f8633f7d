use Rattle.std.proofs.Common.{◌≡◌, take}
use Rattle.rules_state.proofs.parts.lists.copied.Given as goal

abbrev pub invariant-loop-list : goal.invariant-loop-list
invariant-loop-list l = l.copy ≡ take l.list-index l.lists
