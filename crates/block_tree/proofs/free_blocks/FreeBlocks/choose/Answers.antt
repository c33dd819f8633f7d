use Rattle.std.proofs.Common.{◌≤◌, ◌+◌, ◌*◌, ◌^◌, length, sym, subst, arith}
use Rattle.block_tree.specs.FreeSet.{is_free}
use Rattle.block_tree.proofs.HolderLaws.{no_pieces_least, no_lowest, chosen_is}
use Rattle.block_tree.proofs.MarkingLaws.{free_end}
use Rattle.block_tree.proofs.free_blocks.FreeBlocks.choose.Goals as goal

pub returns-in_err-pieces : goal.returns-in_err-pieces
returns-in_err-pieces c = rw c.from_residual.ensures (record { chosen = no_pieces_least (is_free c.args.self.now) (length c.args.self.now) c.args.request c.in_err-pieces.ensures.pieces; size = c.pieces.ensures.size })

pub lowest-requires : goal.lowest-requires
lowest-requires c = let p = c.in_ok-pieces.ensures.pieces in record { order = c.in_ok-pieces.ensures.small; some = p.some; end = p.last }

pub returns-in_err-lowest : goal.returns-in_err-lowest
returns-in_err-lowest c = rw c.from_residual-in_err-lowest.ensures (record { chosen = no_lowest (is_free c.args.self.now) (length c.args.self.now) c.args.request c.in_ok-pieces.pieces c.in_ok-pieces.ensures.pieces c.in_err-lowest.ensures.lowest; size = c.pieces.ensures.size })

pub first_or-requires : goal.first_or-requires
first_or-requires c =
    let p = c.in_ok-pieces.ensures.pieces in
    let s = c.in_ok-lowest.ensures.small in
    record { small = omega (arith, s); some = p.some; end = p.last; lowest = c.in_ok-lowest.ensures.lowest }

pub returns-in_err-free : goal.returns-in_err-free
returns-in_err-free c = absurd (c.in_err-free.ensures c.in_ok-lowest.lowest.number c.in_ok-lowest.ensures.lowest.is)

pub first_in-piece-requires : goal.first_in-piece-requires
first_in-piece-requires c =
    let h = c.in_ok-free.ensures in
    let e = h.order in
    let o = h.is.order in
    let s = c.in_ok-lowest.ensures.small in
    let z = c.pieces.ensures.size in
    let w : c.in_ok-free.free.number * 2 ^ c.in_ok-free.free.order + 2 ^ c.in_ok-free.free.order ≤ length c.args.self.now = subst (λ j. c.in_ok-free.free.number * 2 ^ j + 2 ^ j ≤ length c.args.self.now) (sym h.order) (free_end (is_free c.args.self.now) (length c.args.self.now) c.in_ok-lowest.lowest.order c.in_ok-free.free.number h.is.free) in
    record { order = omega (arith, o, e); small = omega (arith, e, s); free = omega (arith, w, z) }

pub returns : goal.returns
returns c = record { chosen = chosen_is (is_free c.args.self.now) (length c.args.self.now) c.args.request c.in_ok-pieces.pieces c.in_ok-pieces.ensures.pieces c.in_ok-lowest.lowest c.in_ok-free.free c.first_in-piece.result c.in_ok-lowest.ensures.lowest c.in_ok-free.ensures c.first_in-piece.ensures.order c.first_in-piece.ensures.number; size = c.pieces.ensures.size }
