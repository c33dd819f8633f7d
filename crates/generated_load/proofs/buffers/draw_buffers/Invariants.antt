use Rattle.std.proofs.Common.{◌≡◌}
use Rattle.generated_load.specs.Buffers.{load_buffers}
use Rattle.generated_load.proofs.buffers.draw_buffers.Given as goal

abbrev pub invariant-loop-number : goal.invariant-loop-number
invariant-loop-number l = (l.buffers, l.draws) ≡ load_buffers l.number l.initial.draws
