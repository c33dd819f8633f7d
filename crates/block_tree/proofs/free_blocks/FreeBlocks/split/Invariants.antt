use Rattle.std.proofs.Common.{◌≡◌, ◌-◌, length}
use Rattle.block_tree.specs.FreeSet.{is_free}
use Rattle.block_tree.proofs.MarkingLaws.{IsSplitting}
use Rattle.block_tree.proofs.free_blocks.FreeBlocks.split.Given as goal

abbrev pub invariant-loop-block : goal.invariant-loop-block
invariant-loop-block l = record {
  size : length l.self ≡ length l.fn.self;
  splitting : IsSplitting (is_free l.fn.self) (is_free l.self) l.found.free.order l.found.free.number l.found.piece.order l.found.piece.number l.block.order l.block.number;
}

abbrev pub decreases-loop-block : goal.decreases-loop-block
decreases-loop-block l = l.found.free.order - l.block.order
