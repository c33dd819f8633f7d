use Rattle.std.proofs.Common.{◌≡◌, ◌+◌, ◌*◌, ◌^◌, ◌-◌, ◌≤◌, length}
use Rattle.block_tree.specs.FreeSet.{is_free}
use Rattle.block_tree.proofs.MarkingLaws.{IsGiving}
use Rattle.block_tree.proofs.free_blocks.FreeBlocks.give_block.Given as goal

abbrev pub invariant-loop-self : goal.invariant-loop-self
invariant-loop-self l = record {
  size : length l.self ≡ length l.fn.self;
  end : l.block.number * 2 ^ l.block.order + 2 ^ l.block.order ≤ length l.self;
  giving : IsGiving (is_free l.fn.self) (is_free l.self) l.fn.held.order l.fn.held.number l.block.order l.block.number;
}

abbrev pub decreases-loop-self : goal.decreases-loop-self
decreases-loop-self l = 31 - l.block.order
