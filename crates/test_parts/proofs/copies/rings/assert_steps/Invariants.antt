use Rattle.std.proofs.Common.{◌≡◌, length}
use Rattle.test_parts.proofs.copies.rings.assert_steps.Given as goal

-- there is one frame
abbrev pub invariant-loop-job : goal.invariant-loop-job
invariant-loop-job g l = length l.stores.frames ≡ 4096
