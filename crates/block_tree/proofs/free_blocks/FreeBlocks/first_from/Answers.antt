use Rattle.std.proofs.Common.{arith}
use Rattle.block_tree.proofs.KeptLaws.{placed_start, placed_small, count_small, found_below, first_none, first_found, none_above, free_small}
use Rattle.block_tree.proofs.free_blocks.FreeBlocks.first_from.Goals as goal

pub place-requires : goal.place-requires
place-requires c = record { order = placed_small c.self.inside.count c.self.inside.order c.self.inside.size c.self.inside.blocks c.args.from.order c.args.from.number c.self.invariant (placed_start c.self.inside.count c.self.inside.order c.self.inside.size c.self.inside.blocks c.args.self.now c.args.from.order c.args.from.number c.self.invariant c.self.view_is c.if-from-self.false c.requires); count = count_small c.self.inside.count c.self.inside.order c.self.inside.size c.self.inside.blocks c.self.invariant }

pub block_at-requires : goal.block_at-requires
block_at-requires c = record { count = c.self.invariant.counted; order = c.self.invariant.order; at = found_below c.self.inside.count c.self.inside.order c.self.inside.size c.self.inside.blocks c.place.result c.in_ok-at.at c.self.invariant c.in_ok-at.ensures.some }

pub returns-then-from-self : goal.returns-then-from-self
returns-then-from-self c = record { first = λ j i a b w. none_above c.self.inside.count c.self.inside.order c.self.inside.size c.self.inside.blocks c.args.self.now c.self.invariant c.self.view_is j i (let x = c.if-from-self.true in omega (arith, x, a)) w; small = tt }

pub returns-in_err-at : goal.returns-in_err-at
returns-in_err-at c = rw c.from_residual.ensures (record { first = first_none c.self.inside.count c.self.inside.order c.self.inside.size c.self.inside.blocks c.args.self.now c.self.invariant c.self.view_is c.args.from.order c.args.from.number c.place.result (placed_start c.self.inside.count c.self.inside.order c.self.inside.size c.self.inside.blocks c.args.self.now c.args.from.order c.args.from.number c.self.invariant c.self.view_is c.if-from-self.false c.requires) c.place.ensures c.in_err-at.ensures.none; small = tt })

pub returns : goal.returns
returns c =
    let f = first_found c.self.inside.count c.self.inside.order c.self.inside.size c.self.inside.blocks c.args.self.now c.self.invariant c.self.view_is c.args.from.order c.args.from.number c.place.result c.in_ok-at.at c.block_at.result (placed_start c.self.inside.count c.self.inside.order c.self.inside.size c.self.inside.blocks c.args.self.now c.args.from.order c.args.from.number c.self.invariant c.self.view_is c.if-from-self.false c.requires) c.place.ensures c.in_ok-at.ensures.some (record { order = c.block_at.ensures.order; number = c.block_at.ensures.number; place = c.block_at.ensures.place }) in
    record { first = f; small = free_small c.self.inside.count c.self.inside.order c.self.inside.size c.self.inside.blocks c.args.self.now c.block_at.result.order c.block_at.result.number c.self.invariant c.self.view_is f.free }
