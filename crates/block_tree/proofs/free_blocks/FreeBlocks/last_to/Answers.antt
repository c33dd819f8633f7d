use Rattle.block_tree.proofs.KeptLaws.{placed_start, placed_small, placed_spot, count_small, last_below, last_none, last_found, last_other, none_above}
use Rattle.block_tree.proofs.free_blocks.FreeBlocks.last_to.Goals as goal

pub place-requires : goal.place-requires
place-requires c = record { order = placed_small c.self.inside.count c.self.inside.order c.self.inside.size c.self.inside.blocks c.args.to.order c.args.to.number c.self.invariant (placed_start c.self.inside.count c.self.inside.order c.self.inside.size c.self.inside.blocks c.args.self.now c.args.to.order c.args.to.number c.self.invariant c.self.view_is c.if-to-self.false c.requires); count = count_small c.self.inside.count c.self.inside.order c.self.inside.size c.self.inside.blocks c.self.invariant }

pub last_to-requires : goal.last_to-requires
last_to-requires c = placed_spot c.self.inside.count c.self.inside.order c.self.inside.size c.self.inside.blocks c.args.to.order c.args.to.number c.place.result c.self.invariant (placed_start c.self.inside.count c.self.inside.order c.self.inside.size c.self.inside.blocks c.args.self.now c.args.to.order c.args.to.number c.self.invariant c.self.view_is c.if-to-self.false c.requires) c.place.ensures

pub block_at-block-requires : goal.block_at-block-requires
block_at-block-requires c = record { count = c.self.invariant.counted; order = c.self.invariant.order; at = last_below c.self.inside.count c.self.inside.order c.self.inside.size c.self.inside.blocks c.place.result c.in_ok-at.at c.self.invariant (placed_spot c.self.inside.count c.self.inside.order c.self.inside.size c.self.inside.blocks c.args.to.order c.args.to.number c.place.result c.self.invariant (placed_start c.self.inside.count c.self.inside.order c.self.inside.size c.self.inside.blocks c.args.self.now c.args.to.order c.args.to.number c.self.invariant c.self.view_is c.if-to-self.false c.requires) c.place.ensures) c.in_ok-at.ensures.some }

pub returns-then-to-self : goal.returns-then-to-self
returns-then-to-self c = λ i l w. none_above c.self.inside.count c.self.inside.order c.self.inside.size c.self.inside.blocks c.args.self.now c.self.invariant c.self.view_is c.args.to.order i c.if-to-self.true w

pub returns-in_err-at : goal.returns-in_err-at
returns-in_err-at c = rw c.from_residual.ensures (last_none c.self.inside.count c.self.inside.order c.self.inside.size c.self.inside.blocks c.args.self.now c.self.invariant c.self.view_is c.args.to.order c.args.to.number c.place.result (placed_start c.self.inside.count c.self.inside.order c.self.inside.size c.self.inside.blocks c.args.self.now c.args.to.order c.args.to.number c.self.invariant c.self.view_is c.if-to-self.false c.requires) c.place.ensures c.in_err-at.ensures.none)

pub returns-then-block-to : goal.returns-then-block-to
returns-then-block-to c = last_found c.self.inside.count c.self.inside.order c.self.inside.size c.self.inside.blocks c.args.self.now c.self.invariant c.self.view_is c.args.to.order c.args.to.number c.place.result c.in_ok-at.at c.block_at-block.result (placed_start c.self.inside.count c.self.inside.order c.self.inside.size c.self.inside.blocks c.args.self.now c.args.to.order c.args.to.number c.self.invariant c.self.view_is c.if-to-self.false c.requires) c.place.ensures c.in_ok-at.ensures.some (record { order = c.block_at-block.ensures.order; number = c.block_at-block.ensures.number; place = c.block_at-block.ensures.place }) c.if-block-to.true

pub returns-else-block-to : goal.returns-else-block-to
returns-else-block-to c = last_other c.self.inside.count c.self.inside.order c.self.inside.size c.self.inside.blocks c.args.self.now c.self.invariant c.self.view_is c.args.to.order c.args.to.number c.place.result c.in_ok-at.at c.block_at-block.result (placed_start c.self.inside.count c.self.inside.order c.self.inside.size c.self.inside.blocks c.args.self.now c.args.to.order c.args.to.number c.self.invariant c.self.view_is c.if-to-self.false c.requires) c.place.ensures c.in_ok-at.ensures.some (record { order = c.block_at-block.ensures.order; number = c.block_at-block.ensures.number; place = c.block_at-block.ensures.place }) c.if-block-to.false
