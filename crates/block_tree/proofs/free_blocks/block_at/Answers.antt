use Rattle.block_tree.proofs.KeptLaws.{level_at}
use Rattle.block_tree.proofs.free_blocks.block_at.Goals as goal

pub overflow_sub-result : goal.overflow_sub-result
overflow_sub-result c = (level_at c.args.order c.args.count c.args.at c.log2-level.result c.block_len.result c.requires.count c.requires.at c.log2-level.ensures.value c.block_len.ensures.value).fits

pub overflow_sub-result-2 : goal.overflow_sub-result-2
overflow_sub-result-2 c = (level_at c.args.order c.args.count c.args.at c.log2-level.result c.block_len.result c.requires.count c.requires.at c.log2-level.ensures.value c.block_len.ensures.value).room

pub returns-clause-number : goal.returns-clause-number
returns-clause-number c = (level_at c.args.order c.args.count c.args.at c.log2-level.result c.block_len.result c.requires.count c.requires.at c.log2-level.ensures.value c.block_len.ensures.value).block.number

pub returns-clause-place : goal.returns-clause-place
returns-clause-place c = (level_at c.args.order c.args.count c.args.at c.log2-level.result c.block_len.result c.requires.count c.requires.at c.log2-level.ensures.value c.block_len.ensures.value).block.place
