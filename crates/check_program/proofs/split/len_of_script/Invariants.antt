use Rattle.std.proofs.Common.{length, ◌-◌}
use Rattle.check_program.proofs.SplitLaws.{GoesOn}
use Rattle.check_program.proofs.split.len_of_script.Given as goal

-- no line before the place ends the script
abbrev pub invariant-loop-place : goal.invariant-loop-place
invariant-loop-place l = GoesOn l.bytes l.place

abbrev pub decreases-loop-place : goal.decreases-loop-place
decreases-loop-place l = length l.bytes - l.place
