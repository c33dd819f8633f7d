use Rattle.std.proofs.Common.{◌≤◌, ◌/◌, ◌-◌, ◌*◌, ◌^◌, length, mul-le-mul_right, refl, arith}
use Rattle.block_tree.specs.FreeSet.{is_free}
use Rattle.block_tree.proofs.Numbers.{some_pages}
use Rattle.block_tree.proofs.HolderLaws.{group_start, low_none, low_is, low_past}
use Rattle.block_tree.proofs.free_blocks.FreeBlocks.lowest_of.Goals as goal

pub first_from-requires : goal.first_from-requires
first_from-requires c =
    let g = group_start c.args.pieces.first c.args.pieces.order c.args.order c.requires.order in
    let m : c.args.pieces.first * 2 ^ c.args.pieces.order ≤ c.args.pieces.last * 2 ^ c.args.pieces.order = mul-le-mul_right (2 ^ c.args.pieces.order) c.requires.some in
    let s = some_pages c.args.pieces.order in
    let e = c.requires.end in
    omega (arith, g, m, s, e)

pub returns-in_err-block : goal.returns-in_err-block
returns-in_err-block c = rw c.from_residual.ensures (low_none (is_free c.args.self.now) (length c.args.self.now) c.args.pieces c.args.order (c.args.pieces.first / 2 ^ (c.args.order - c.args.pieces.order)) refl c.in_err-block.ensures.first)

pub returns-then-block-order : goal.returns-then-block-order
returns-then-block-order c = low_past (is_free c.args.self.now) (length c.args.self.now) c.args.pieces c.args.order (c.args.pieces.first / 2 ^ (c.args.order - c.args.pieces.order)) (c.args.pieces.last / 2 ^ (c.args.order - c.args.pieces.order)) c.in_ok-block.block refl refl c.in_ok-block.ensures.first (λ a b. c.if-block-order.true a)

pub returns-then-block-last : goal.returns-then-block-last
returns-then-block-last c = low_is (is_free c.args.self.now) (length c.args.self.now) c.args.pieces c.args.order (c.args.pieces.first / 2 ^ (c.args.order - c.args.pieces.order)) (c.args.pieces.last / 2 ^ (c.args.order - c.args.pieces.order)) c.in_ok-block.block refl refl c.requires.order c.in_ok-block.ensures.first c.if-block-order.false c.if-block-last.true

pub returns-else-block-last : goal.returns-else-block-last
returns-else-block-last c = low_past (is_free c.args.self.now) (length c.args.self.now) c.args.pieces c.args.order (c.args.pieces.first / 2 ^ (c.args.order - c.args.pieces.order)) (c.args.pieces.last / 2 ^ (c.args.order - c.args.pieces.order)) c.in_ok-block.block refl refl c.in_ok-block.ensures.first (λ a b. let n = c.if-block-last.false in omega (arith, b, n))
