use Rattle.std.proofs.Common.{◌≡◌, [], replicate}
use Rattle.copy_engine.proofs.Rings.new.Given as goal

abbrev pub invariant-loop-made : goal.invariant-loop-made
invariant-loop-made l = l.rings.items ≡ replicate l._made []
