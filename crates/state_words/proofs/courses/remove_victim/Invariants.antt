use Rattle.std.proofs.Common.{◌-◌, length, Bool}
use Rattle.std.specs.Prelude.{not}
use Rattle.ttm_base.specs.declared.BufId.{BufId}
use Rattle.journal_model.specs.declared.state.Victim.{Victim}
use Rattle.journal_model.specs.rules.State.{same_buffer}
use Rattle.state_words.proofs.ListLaws.{Keeps}
use Rattle.state_words.proofs.courses.remove_victim.Given as goal

-- the victims that stay
abbrev pub stays : BufId → Victim → Bool
stays b v = not (same_buffer b v.b)

abbrev pub invariant-loop-i : goal.invariant-loop-i
invariant-loop-i l = Keeps (stays l.b) l.initial.caught l.caught l.i

abbrev pub decreases-loop-i : goal.decreases-loop-i
decreases-loop-i l = length l.caught - l.i
