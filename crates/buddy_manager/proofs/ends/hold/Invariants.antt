use Rattle.buddy_manager.proofs.EndLaws.{IsHolding}
use Rattle.buddy_manager.proofs.ends.hold.Given as goal

abbrev pub invariant-loop-i : goal.invariant-loop-i
invariant-loop-i l = IsHolding l.initial.ends l.ends l.blocks l.i
