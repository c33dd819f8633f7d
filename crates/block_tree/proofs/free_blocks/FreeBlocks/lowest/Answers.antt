use Rattle.std.proofs.Common.{◌≤◌, ◌/◌, ◌-◌, ◌*◌, ◌^◌, length, mul-le-mul_right, refl, arith}
use Rattle.block_tree.specs.FreeSet.{is_free}
use Rattle.block_tree.proofs.Numbers.{some_pages}
use Rattle.block_tree.proofs.HolderLaws.{group_start, lowest_none, lowest_skip, lowest_next, lowest_is, order_grows}
use Rattle.block_tree.proofs.free_blocks.FreeBlocks.lowest.Goals as goal

pub first_from-requires : goal.first_from-requires
first_from-requires c =
    let g = group_start c.args.pieces.first c.args.pieces.order c.loop-block.order c.loop-block.invariant.low in
    let m : c.args.pieces.first * 2 ^ c.args.pieces.order ≤ c.args.pieces.last * 2 ^ c.args.pieces.order = mul-le-mul_right (2 ^ c.args.pieces.order) c.requires.some in
    let s = some_pages c.args.pieces.order in
    let e = c.requires.end in
    omega (arith, g, m, s, e)

pub loop-block-init : goal.loop-block-init
loop-block-init c = record { low = omega arith; high = c.requires.order; none = λ j i h. h.order }

pub loop-block-preserved : goal.loop-block-preserved
loop-block-preserved c =
    let a = c.in_ok-block.ensures.first.order in
    let b = c.in_ok-block.ensures.small in
    let l = c.loop-block.invariant.low in
    record { low = omega (arith, a, l); high = omega (arith, b); none = lowest_skip (is_free c.args.self.now) (length c.args.self.now) c.args.pieces c.loop-block.order (c.args.pieces.first / 2 ^ (c.loop-block.order - c.args.pieces.order)) c.in_ok-block.block refl c.loop-block.invariant.none c.in_ok-block.ensures.first }

pub loop-block-preserved-then-block-pieces : goal.loop-block-preserved-then-block-pieces
loop-block-preserved-then-block-pieces c =
    let a = c.in_ok-block.ensures.first.order in
    let b = c.in_ok-block.ensures.small in
    let l = c.loop-block.invariant.low in
    record { low = omega (arith, a, l); high = omega (arith, b); none = lowest_next (is_free c.args.self.now) (length c.args.self.now) c.args.pieces c.loop-block.order (c.args.pieces.first / 2 ^ (c.loop-block.order - c.args.pieces.order)) c.in_ok-block.block refl c.loop-block.invariant.none c.in_ok-block.ensures.first c.if-block-pieces.true }

pub loop-block-smaller : goal.loop-block-smaller
loop-block-smaller c =
    let g = order_grows (is_free c.args.self.now) (length c.args.self.now) c.args.pieces c.loop-block.order (c.args.pieces.first / 2 ^ (c.loop-block.order - c.args.pieces.order)) c.in_ok-block.block refl c.in_ok-block.ensures.first c.if-block-pieces-2.false in
    let b = c.in_ok-block.ensures.small in
    omega (arith, g, b)

pub returns-then-block-pieces-2-clause-lowest : goal.returns-then-block-pieces-2-clause-lowest
returns-then-block-pieces-2-clause-lowest c = lowest_is (is_free c.args.self.now) (length c.args.self.now) c.args.pieces c.loop-block.order (c.args.pieces.first / 2 ^ (c.loop-block.order - c.args.pieces.order)) c.in_ok-block.block refl c.loop-block.invariant.low c.loop-block.invariant.none c.in_ok-block.ensures.first c.if-block-pieces.false c.if-block-pieces-2.true

pub returns-in_err-block : goal.returns-in_err-block
returns-in_err-block c = rw c.from_residual.ensures (record { lowest = lowest_none (is_free c.args.self.now) (length c.args.self.now) c.args.pieces c.loop-block.order (c.args.pieces.first / 2 ^ (c.loop-block.order - c.args.pieces.order)) refl c.loop-block.invariant.none c.in_err-block.ensures.first; small = tt })
