use Rattle.std.proofs.Common.{◌∙◌, arith}
use Rattle.block_tree.specs.FreeSet.{is_free}
use Rattle.block_tree.proofs.SpanLaws.{marked_first}
use Rattle.block_tree.proofs.free_blocks.FreeBlocks.new.Goals as goal

pub mark-requires : goal.mark-requires
mark-requires c = let s = c.in_ok-blocks.ensures.size in omega (arith, s)

pub returns-clause-size : goal.returns-clause-size
returns-clause-size c = c.mark.ensures.size ∙ c.in_ok-blocks.ensures.size

pub returns-clause-free : goal.returns-clause-free
returns-clause-free c = λ p. c.mark.ensures.marked p ∙ marked_first c.args.pages p (is_free c.in_ok-blocks.blocks p) (c.in_ok-blocks.ensures.held p)
