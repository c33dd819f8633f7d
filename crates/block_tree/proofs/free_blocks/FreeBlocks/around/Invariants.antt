use Rattle.std.proofs.Common.{ℕ, ◌*◌, ◌/◌, ◌^◌, ◌<◌, ◌≤◌}
use Rattle.block_tree.specs.FreeSet.{is_free}
use Rattle.block_tree.specs.Holding.{IsFree}
use Rattle.std.proofs.Common.{length}
use Rattle.block_tree.proofs.free_blocks.FreeBlocks.around.Given as goal

abbrev pub invariant-loop-order : goal.invariant-loop-order
invariant-loop-order l = (k : ℕ) → l.block.order ≤ k → k < l.order → IsFree (is_free l.self) (length l.self) k (l.block.number * 2 ^ l.block.order / 2 ^ k) → ⊥
