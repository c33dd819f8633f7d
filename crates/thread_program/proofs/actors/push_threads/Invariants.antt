use Rattle.std.proofs.Common.{◌≡◌, ◌++◌}
use Rattle.std.specs.Prelude.{map}
use Rattle.ttm_base.specs.declared.Actor.TheVariants.{Thread}
use Rattle.ttm_base.specs.ListWords.{count_from}
use Rattle.thread_program.proofs.actors.push_threads.Given as goal

abbrev pub invariant-loop-i : goal.invariant-loop-i
invariant-loop-i l = l.actors ≡ l.initial.actors ++ map Thread (count_from 1 l.i 1)
