use Rattle.std.proofs.Common.{◌/◌, ◌-◌, ◌^◌, length, refl, arith}
use Rattle.block_tree.specs.FreeSet.{is_free}
use Rattle.block_tree.proofs.Numbers.{some_pages}
use Rattle.block_tree.proofs.HolderLaws.{group_start, high_none, high_is, high_past}
use Rattle.block_tree.proofs.free_blocks.FreeBlocks.highest_of.Goals as goal

pub last_to-requires : goal.last_to-requires
last_to-requires c =
    let g = group_start c.args.pieces.last c.args.pieces.order c.args.order c.requires.order in
    let s = some_pages c.args.pieces.order in
    let e = c.requires.end in
    omega (arith, g, s, e)

pub returns-in_err-block : goal.returns-in_err-block
returns-in_err-block c = rw c.from_residual.ensures (high_none (is_free c.args.self.now) (length c.args.self.now) c.args.pieces c.args.order (c.args.pieces.last / 2 ^ (c.args.order - c.args.pieces.order)) refl c.in_err-block.ensures)

pub returns-then-first-block : goal.returns-then-first-block
returns-then-first-block c = high_is (is_free c.args.self.now) (length c.args.self.now) c.args.pieces c.args.order (c.args.pieces.first / 2 ^ (c.args.order - c.args.pieces.order)) (c.args.pieces.last / 2 ^ (c.args.order - c.args.pieces.order)) c.in_ok-block.block refl refl c.requires.order c.in_ok-block.ensures c.if-first-block.true

pub returns-else-first-block : goal.returns-else-first-block
returns-else-first-block c = high_past (is_free c.args.self.now) (length c.args.self.now) c.args.pieces c.args.order (c.args.pieces.first / 2 ^ (c.args.order - c.args.pieces.order)) (c.args.pieces.last / 2 ^ (c.args.order - c.args.pieces.order)) c.in_ok-block.block refl refl c.in_ok-block.ensures c.if-first-block.false
