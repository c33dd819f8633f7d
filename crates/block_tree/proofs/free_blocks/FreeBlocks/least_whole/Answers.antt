use Rattle.std.proofs.Common.{false, length, arith}
use Rattle.block_tree.specs.declared.request.Request.{Request}
use Rattle.block_tree.specs.FreeSet.{is_free}
use Rattle.block_tree.proofs.HolderLaws.{no_pieces_least, no_lowest, lowest_least}
use Rattle.block_tree.proofs.free_blocks.FreeBlocks.least_whole.Goals as goal

pub returns-in_err-pieces : goal.returns-in_err-pieces
returns-in_err-pieces c =
    let r : Request = record { order = c.args.order; range = c.args.range; topdown = false } in
    rw c.from_residual.ensures (record { least = no_pieces_least (is_free c.args.self.now) (length c.args.self.now) r c.in_err-pieces.ensures.pieces; small = tt })

pub lowest-requires : goal.lowest-requires
lowest-requires c = let p = c.in_ok-pieces.ensures.pieces in record { order = c.in_ok-pieces.ensures.small; some = p.some; end = p.last }

pub returns-in_err-block : goal.returns-in_err-block
returns-in_err-block c =
    let r : Request = record { order = c.args.order; range = c.args.range; topdown = false } in
    rw c.from_residual-in_err-block.ensures (record { least = no_lowest (is_free c.args.self.now) (length c.args.self.now) r c.in_ok-pieces.pieces c.in_ok-pieces.ensures.pieces c.in_err-block.ensures.lowest; small = tt })

pub returns : goal.returns
returns c =
    let r : Request = record { order = c.args.order; range = c.args.range; topdown = false } in
    let s = c.in_ok-block.ensures.small in
    record { least = lowest_least (is_free c.args.self.now) (length c.args.self.now) r c.in_ok-pieces.pieces c.in_ok-pieces.ensures.pieces c.in_ok-block.block c.in_ok-block.ensures.lowest; small = omega (arith, s) }
