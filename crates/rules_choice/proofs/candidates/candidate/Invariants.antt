use Rattle.std.proofs.Common.{◌-◌}
use Rattle.std.specs.Prelude.{option_map}
use Rattle.rules_choice.specs.Candidates.{candidate_of}
use Rattle.rules_choice.proofs.ScanLaws.{IsBest}
use Rattle.rules_choice.proofs.candidates.candidate.Given as goal

abbrev pub invariant-loop-i : goal.invariant-loop-i
invariant-loop-i l = IsBest l.free.marks.items l.range l.topdown l.order l.i (option_map candidate_of l.best)

abbrev pub decreases-loop-i : goal.decreases-loop-i
decreases-loop-i l = l.end - l.i
