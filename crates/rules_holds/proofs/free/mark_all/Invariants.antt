use Rattle.std.proofs.Common.{take}
use Rattle.rules_holds.specs.Marked.{AreMarked}
use Rattle.rules_holds.proofs.free.mark_all.Given as goal

abbrev pub invariant-loop-n : goal.invariant-loop-n
invariant-loop-n l = AreMarked l.initial.marks.items (take l.n-index l.numbers) l.marks.items
