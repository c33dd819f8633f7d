use Rattle.std.proofs.Common.{◌≡◌}
use Rattle.journal_model.specs.rules.State.{new_buffer}
use Rattle.rules_state.proofs.buffers.new_buffer.Given as goal

abbrev pub invariant-loop-page : goal.invariant-loop-page
invariant-loop-page l = l.buffer ≡ new_buffer l._page
