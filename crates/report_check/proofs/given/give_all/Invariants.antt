use Rattle.std.proofs.Common.{take}
use Rattle.rules_holds.specs.Marked.{AreMarked}
use Rattle.report_check.proofs.given.give_all.Given as goal

abbrev pub invariant-loop-n : goal.invariant-loop-n
invariant-loop-n l = AreMarked l.initial.free (take l.n-index l.numbers) l.free
