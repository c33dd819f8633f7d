use Rattle.std.proofs.Common.{◌∙◌}
use Rattle.block_tree.proofs.KeptLaws.{placed_block, placed_small, placed_spot, count_small, length_marks, size_of, added}
use Rattle.block_tree.proofs.free_blocks.FreeBlocks.add.Goals as goal

pub place-requires : goal.place-requires
place-requires c = record { order = placed_small c.self.inside.count c.self.inside.order c.self.inside.size c.self.inside.blocks c.args.block.order c.args.block.number c.self.invariant (placed_block c.self.inside.count c.self.inside.order c.self.inside.size c.self.inside.blocks c.args.self.now c.args.block.order c.args.block.number c.self.invariant c.self.view_is c.requires.end); count = count_small c.self.inside.count c.self.inside.order c.self.inside.size c.self.inside.blocks c.self.invariant }

pub set-requires : goal.set-requires
set-requires c = placed_spot c.self.inside.count c.self.inside.order c.self.inside.size c.self.inside.blocks c.args.block.order c.args.block.number c.place.result c.self.invariant (placed_block c.self.inside.count c.self.inside.order c.self.inside.size c.self.inside.blocks c.args.self.now c.args.block.order c.args.block.number c.self.invariant c.self.view_is c.requires.end) c.place.ensures

pub invariant_of-self : goal.invariant_of-self
invariant_of-self c = (added c.self.inside.count c.self.inside.order c.self.inside.size c.self.inside.blocks c.set.new.self c.args.self.now c.args.block.order c.args.block.number c.place.result c.self.invariant c.self.view_is c.requires.end c.requires.held c.requires.alone c.place.ensures c.set.ensures).kept

pub returns-clause-size : goal.returns-clause-size
returns-clause-size c = length_marks c.self.inside.order c.self.inside.size c.set.new.self ∙ size_of c.self.inside.order c.self.inside.size c.self.inside.blocks c.args.self.now c.self.view_is

pub returns-clause-marked : goal.returns-clause-marked
returns-clause-marked c = (added c.self.inside.count c.self.inside.order c.self.inside.size c.self.inside.blocks c.set.new.self c.args.self.now c.args.block.order c.args.block.number c.place.result c.self.invariant c.self.view_is c.requires.end c.requires.held c.requires.alone c.place.ensures c.set.ensures).marked
