use Rattle.std.proofs.Common.{◌≡◌, ◌++◌, take, drop, length}
use Rattle.std.specs.Prelude.{map}
use Rattle.journal_model.specs.rules.ApplyVictims.{failed_if}
use Rattle.state_words.proofs.courses.fail_victim.Given as goal

abbrev pub invariant-loop-i : goal.invariant-loop-i
invariant-loop-i l =
    (l.caught ≡ map (failed_if l.deny l.b) (take l.i l.initial.caught) ++ drop l.i l.initial.caught) × (length l.caught ≡ length l.initial.caught)
