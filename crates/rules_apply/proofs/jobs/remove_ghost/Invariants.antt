use Rattle.std.proofs.Common.{ℕ, ◌-◌, length, Bool}
use Rattle.std.specs.Prelude.{◌==◌, not}
use Rattle.journal_model.specs.declared.state.Ghost.{Ghost}
use Rattle.state_words.proofs.ListLaws.{Keeps}
use Rattle.rules_apply.proofs.jobs.remove_ghost.Given as goal

-- the ghosts that stay
abbrev pub stays : ℕ → Ghost → Bool
stays num g = not (g.num == num)

abbrev pub invariant-loop-i : goal.invariant-loop-i
invariant-loop-i l = Keeps (stays l.num) l.initial.ghosts l.ghosts l.i

abbrev pub decreases-loop-i : goal.decreases-loop-i
decreases-loop-i l = length l.ghosts - l.i
