use Rattle.std.proofs.Common.{true, false, Some, length}
use Rattle.block_tree.specs.FreeSet.{is_free}
use Rattle.block_tree.proofs.HolderLaws.{first_topdown, lowest_first}
use Rattle.block_tree.proofs.free_blocks.FreeBlocks.first_or.Goals as goal

pub highest_of-requires : goal.highest_of-requires
highest_of-requires c = record { order = c.requires.lowest.is.order; small = c.requires.small; end = c.requires.end }

pub returns-then-topdown : goal.returns-then-topdown
returns-then-topdown c = first_topdown (is_free c.args.self.now) (length c.args.self.now) c.args.pieces c.args.lowest.order c.args.topdown true c.highest_of.result c.if-topdown.true c.highest_of.ensures

pub returns-else-topdown : goal.returns-else-topdown
returns-else-topdown c = first_topdown (is_free c.args.self.now) (length c.args.self.now) c.args.pieces c.args.lowest.order c.args.topdown false (Some c.args.lowest) c.if-topdown.false (lowest_first (is_free c.args.self.now) (length c.args.self.now) c.args.pieces c.args.lowest c.requires.lowest)
