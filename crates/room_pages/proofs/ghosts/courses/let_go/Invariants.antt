use Rattle.std.proofs.Common.{◌-◌, length, Bool}
use Rattle.std.specs.Prelude.{not}
use Rattle.ttm_base.specs.declared.BufId.{BufId}
use Rattle.journal_model.specs.rules.State.{same_buffer}
use Rattle.state_words.proofs.ListLaws.{Keeps}
use Rattle.room_pages.proofs.ghosts.courses.let_go.Given as goal

-- the buffers that stay
abbrev pub stays : BufId → BufId → Bool
stays b c = not (same_buffer b c)

abbrev pub invariant-loop-i : goal.invariant-loop-i
invariant-loop-i l = Keeps (stays l.b) l.initial.held l.held l.i

abbrev pub decreases-loop-i : goal.decreases-loop-i
decreases-loop-i l = length l.held - l.i
