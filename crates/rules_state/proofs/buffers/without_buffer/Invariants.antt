use Rattle.std.proofs.Common.{◌≡◌, take}
use Rattle.journal_model.specs.rules.State.{without_buffer}
use Rattle.rules_state.proofs.buffers.without_buffer.Given as goal

abbrev pub invariant-loop-c : goal.invariant-loop-c
invariant-loop-c l = l.rest ≡ without_buffer (take l.c-index l.bs) l.b
