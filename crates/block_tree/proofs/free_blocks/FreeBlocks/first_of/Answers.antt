use Rattle.std.proofs.Common.{true, false, length}
use Rattle.block_tree.specs.FreeSet.{is_free}
use Rattle.block_tree.proofs.HolderLaws.{first_topdown}
use Rattle.block_tree.proofs.free_blocks.FreeBlocks.first_of.Goals as goal

pub returns-then-topdown : goal.returns-then-topdown
returns-then-topdown c = first_topdown (is_free c.args.self.now) (length c.args.self.now) c.args.pieces c.args.order c.args.topdown true c.highest_of.result c.if-topdown.true c.highest_of.ensures

pub returns-else-topdown : goal.returns-else-topdown
returns-else-topdown c = first_topdown (is_free c.args.self.now) (length c.args.self.now) c.args.pieces c.args.order c.args.topdown false c.lowest_of.result c.if-topdown.false c.lowest_of.ensures
