use Rattle.std.proofs.Common.{◌≡◌, length}
use Rattle.block_tree.specs.FreeSet.{is_free}
use Rattle.block_tree.proofs.MarkingLaws.{IsClearing, count_free}
use Rattle.block_tree.proofs.free_blocks.FreeBlocks.clear_inside.Given as goal

abbrev pub invariant-loop-inside : goal.invariant-loop-inside
invariant-loop-inside l = record {
  size : length l.self ≡ length l.fn.self;
  clearing : IsClearing (is_free l.fn.self) (is_free l.self) l.fn.block.order l.fn.block.number;
}

abbrev pub decreases-loop-inside : goal.decreases-loop-inside
decreases-loop-inside l = count_free l.self
