use Rattle.std.proofs.Common.{◌≡◌, ◌+◌, replicate}
use Rattle.plain_memory.proofs.along.no_answers.Given as goal

abbrev pub invariant-loop-thread : goal.invariant-loop-thread
invariant-loop-thread l = l.answered ≡ replicate (l._thread + 1) 0
