use Rattle.std.proofs.Common.{◌∙◌}
use Rattle.block_tree.proofs.KeptLaws.{placed_free, placed_small, placed_spot, count_small, length_marks, size_of, removed}
use Rattle.block_tree.proofs.free_blocks.FreeBlocks.remove.Goals as goal

pub place-requires : goal.place-requires
place-requires c = record { order = placed_small c.self.inside.count c.self.inside.order c.self.inside.size c.self.inside.blocks c.args.block.order c.args.block.number c.self.invariant (placed_free c.self.inside.count c.self.inside.order c.self.inside.size c.self.inside.blocks c.args.self.now c.args.block.order c.args.block.number c.self.invariant c.self.view_is c.requires); count = count_small c.self.inside.count c.self.inside.order c.self.inside.size c.self.inside.blocks c.self.invariant }

pub clear-requires : goal.clear-requires
clear-requires c = placed_spot c.self.inside.count c.self.inside.order c.self.inside.size c.self.inside.blocks c.args.block.order c.args.block.number c.place.result c.self.invariant (placed_free c.self.inside.count c.self.inside.order c.self.inside.size c.self.inside.blocks c.args.self.now c.args.block.order c.args.block.number c.self.invariant c.self.view_is c.requires) c.place.ensures

pub invariant_of-self : goal.invariant_of-self
invariant_of-self c = (removed c.self.inside.count c.self.inside.order c.self.inside.size c.self.inside.blocks c.clear.new.self c.args.self.now c.args.block.order c.args.block.number c.place.result c.self.invariant c.self.view_is c.requires c.place.ensures c.clear.ensures).kept

pub returns-clause-size : goal.returns-clause-size
returns-clause-size c = length_marks c.self.inside.order c.self.inside.size c.clear.new.self ∙ size_of c.self.inside.order c.self.inside.size c.self.inside.blocks c.args.self.now c.self.view_is

pub returns-clause-marked : goal.returns-clause-marked
returns-clause-marked c = (removed c.self.inside.count c.self.inside.order c.self.inside.size c.self.inside.blocks c.clear.new.self c.args.self.now c.args.block.order c.args.block.number c.place.result c.self.invariant c.self.view_is c.requires c.place.ensures c.clear.ensures).marked
