use Rattle.std.proofs.Common.{ℕ, ◌-◌, ◌≤◌, length}
use Rattle.block_tree.specs.FreeSet.{is_free}
use Rattle.block_tree.specs.Holding.{IsHolder}
use Rattle.block_tree.proofs.free_blocks.FreeBlocks.lowest.Given as goal

abbrev pub invariant-loop-block : goal.invariant-loop-block
invariant-loop-block l = record {
  low : l.pieces.order ≤ l.order;
  high : l.order ≤ 31;
  none : (j i : ℕ) → IsHolder (is_free l.self) (length l.self) l.pieces j i → l.order ≤ j;
}

abbrev pub decreases-loop-block : goal.decreases-loop-block
decreases-loop-block l = 32 - l.order
