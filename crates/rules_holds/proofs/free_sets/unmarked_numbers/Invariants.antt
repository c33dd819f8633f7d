use Rattle.rules_holds.specs.Free.{AreTurned}
use Rattle.rules_holds.proofs.free_sets.unmarked_numbers.Given as goal

abbrev pub invariant-loop-n : goal.invariant-loop-n
invariant-loop-n l = AreTurned l.marks l.n l.numbers
