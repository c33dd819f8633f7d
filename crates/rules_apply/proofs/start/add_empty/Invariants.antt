use Rattle.std.proofs.Common.{◌≡◌, ◌++◌, [], replicate}
use Rattle.rules_apply.proofs.start.add_empty.Given as goal

abbrev pub invariant-loop-list : goal.invariant-loop-list
invariant-loop-list l = l.lists ≡ l.initial.lists ++ replicate l._list []
