use Rattle.std.proofs.Common.{length, ap, sym, ◌∙◌}
use Rattle.block_tree.proofs.KeptLaws.{length_marks}
use Rattle.block_tree.proofs.free_blocks.FreeBlocks.size.Goals as goal

pub returns-clause-value : goal.returns-clause-value
returns-clause-value c = sym (length_marks c.self.inside.order c.self.inside.size c.self.inside.blocks) ∙ ap length c.self.view_is
