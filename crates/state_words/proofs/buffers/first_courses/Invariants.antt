use Rattle.std.proofs.Common.{◌≡◌, take}
use Rattle.std.specs.Prelude.{map}
use Rattle.journal_model.specs.rules.State.{new_course}
use Rattle.state_words.proofs.buffers.first_courses.Given as goal

abbrev pub invariant-loop-thread : goal.invariant-loop-thread
invariant-loop-thread l = l.courses ≡ map (λ d. new_course 0) (take l._thread-index l.threads)
