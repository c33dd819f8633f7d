use Rattle.std.proofs.Common.{◌≤◌, ◌+◌, ◌*◌, ◌^◌, length, sym, subst, arith}
use Rattle.block_tree.specs.FreeSet.{is_free}
use Rattle.block_tree.proofs.HolderLaws.{no_pieces_first, no_first, found_is}
use Rattle.block_tree.proofs.MarkingLaws.{free_end}
use Rattle.block_tree.proofs.free_blocks.FreeBlocks.find.Goals as goal

pub returns-in_err-pieces : goal.returns-in_err-pieces
returns-in_err-pieces c = rw c.from_residual.ensures (record { found = no_pieces_first (is_free c.args.self.now) (length c.args.self.now) c.args.request c.args.order c.in_err-pieces.ensures.pieces; size = c.pieces.ensures.size })

pub first_of-requires : goal.first_of-requires
first_of-requires c =
    let p = c.in_ok-pieces.ensures.pieces in
    let e = p.order in
    let o = c.requires.order in
    let s = c.requires.small in
    record { order = omega (arith, e, o); small = omega (arith, s); some = p.some; end = p.last }

pub returns-in_err-free : goal.returns-in_err-free
returns-in_err-free c = rw c.from_residual-in_err-free.ensures (record { found = no_first (is_free c.args.self.now) (length c.args.self.now) c.args.request c.in_ok-pieces.pieces c.in_ok-pieces.ensures.pieces c.args.order c.in_err-free.ensures; size = c.pieces.ensures.size })

pub first_in-piece-requires : goal.first_in-piece-requires
first_in-piece-requires c =
    let h = c.in_ok-free.ensures in
    let e = h.order in
    let o = h.is.order in
    let s = c.requires.small in
    let z = c.pieces.ensures.size in
    let w : c.in_ok-free.free.number * 2 ^ c.in_ok-free.free.order + 2 ^ c.in_ok-free.free.order ≤ length c.args.self.now = subst (λ j. c.in_ok-free.free.number * 2 ^ j + 2 ^ j ≤ length c.args.self.now) (sym h.order) (free_end (is_free c.args.self.now) (length c.args.self.now) c.args.order c.in_ok-free.free.number h.is.free) in
    record { order = omega (arith, o, e); small = omega (arith, e, s); free = omega (arith, w, z) }

pub returns : goal.returns
returns c = record { found = found_is (is_free c.args.self.now) (length c.args.self.now) c.args.request c.in_ok-pieces.pieces c.in_ok-pieces.ensures.pieces c.args.order c.in_ok-free.free c.first_in-piece.result c.in_ok-free.ensures c.first_in-piece.ensures.order c.first_in-piece.ensures.number; size = c.pieces.ensures.size }
