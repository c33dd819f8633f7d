use Rattle.std.proofs.Common.{◌≡◌}
use Rattle.generated_load.specs.Commands.{load_threads}
use Rattle.generated_load.proofs.load.draw_threads.Given as goal

abbrev pub invariant-loop-thread : goal.invariant-loop-thread
invariant-loop-thread l = (l.threads, l.draws) ≡ load_threads l.thread l.initial.draws
