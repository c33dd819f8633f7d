use Rattle.std.proofs.Common.{◌≡◌, drop}
use Rattle.std.specs.Prelude.{◌||◌}
use Rattle.ttm_base.specs.declared.BufId.{BufId}
use Rattle.journal_model.specs.rules.State.{has_buffer}
use Rattle.gpu_spaces.specs.buffer_set.Members.{is_member}
use Rattle.gpu_spaces.proofs.apart.set_of.Given as goal

abbrev pub invariant-loop-b : goal.invariant-loop-b
invariant-loop-b l = (b : BufId) → (is_member l.set b.0 || has_buffer (drop l.b-index l.buffers) b) ≡ has_buffer l.buffers b
