use Rattle.std.proofs.Common.{take}
use Rattle.buddy_manager.specs.Taking.{IsTakenBy}
use Rattle.buddy_manager.proofs.choice.take_spans.Given as goal

abbrev pub invariant-loop-span : goal.invariant-loop-span
invariant-loop-span l = IsTakenBy l.initial.free (take l.span-index l.spans) l.free
