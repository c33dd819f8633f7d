use Rattle.std.proofs.Common.{◌≡◌, ◌*◌, length}
use Rattle.test_parts.proofs.copies.bytes.take_all.Given as goal

-- the store keeps its length
abbrev pub invariant-loop-step : goal.invariant-loop-step
invariant-loop-step g l = length l.store ≡ 4096 * l.pages
