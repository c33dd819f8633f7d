use Rattle.std.proofs.Common.{◌≡◌, ◌++◌, replicate}
use Rattle.rules_apply.proofs.start.add_zeros.Given as goal

abbrev pub invariant-loop-number : goal.invariant-loop-number
invariant-loop-number l = l.numbers ≡ l.initial.numbers ++ replicate l._number 0
