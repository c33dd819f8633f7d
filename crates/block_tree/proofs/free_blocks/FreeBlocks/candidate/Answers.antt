use Rattle.std.proofs.Common.{Some, length, arith}
use Rattle.block_tree.specs.declared.request.Request.{Request}
use Rattle.block_tree.specs.FreeSet.{is_free}
use Rattle.block_tree.proofs.Numbers.{small_order}
use Rattle.block_tree.proofs.FoundLaws.{no_piece_chosen, first_chosen, first_free, found_within, found_first, found_end, found_len}
use Rattle.block_tree.proofs.free_blocks.FreeBlocks.candidate.Goals as goal

pub returns-in_err-found : goal.returns-in_err-found
returns-in_err-found c = rw c.from_residual.ensures (record { choice = λ test h. no_piece_chosen test (is_free c.args.self.now) (length c.args.self.now) c.args.range c.args.topdown c.args.order h c.in_err-found.ensures.chosen; free = tt; within = tt; small = tt; len = tt })

pub pages-requires : goal.pages-requires
pages-requires c =
    let r : Request = record { order = c.args.order; range = c.args.range; topdown = c.args.topdown } in
    let h = c.in_ok-found.ensures.chosen.is in
    let w = found_within (is_free c.args.self.now) (length c.args.self.now) r c.in_ok-found.found.free.order c.in_ok-found.found h in
    let z = c.choose.ensures.size in
    let p = h.piece in
    record { order = small_order c.in_ok-found.found.piece.order 31 (omega (arith, w, z)); small = omega (arith, w, z) }

pub returns-clause-choice : goal.returns-clause-choice
returns-clause-choice c = λ test h.
    let r : Request = record { order = c.args.order; range = c.args.range; topdown = c.args.topdown } in
    first_chosen test (is_free c.args.self.now) (length c.args.self.now) c.args.range c.args.topdown c.args.order c.in_ok-found.found.free.order (Some c.pages.result) h c.in_ok-found.ensures.chosen.least (found_first (is_free c.args.self.now) (length c.args.self.now) r c.in_ok-found.found.free.order c.in_ok-found.found c.pages.result c.in_ok-found.ensures.chosen.is c.pages.ensures)

pub returns-clause-free : goal.returns-clause-free
returns-clause-free c =
    let r : Request = record { order = c.args.order; range = c.args.range; topdown = c.args.topdown } in
    first_free (is_free c.args.self.now) (length c.args.self.now) c.args.range c.args.topdown c.args.order c.in_ok-found.found.free.order (Some c.pages.result) (found_first (is_free c.args.self.now) (length c.args.self.now) r c.in_ok-found.found.free.order c.in_ok-found.found c.pages.result c.in_ok-found.ensures.chosen.is c.pages.ensures)

pub returns-clause-len : goal.returns-clause-len
returns-clause-len c =
    let r : Request = record { order = c.args.order; range = c.args.range; topdown = c.args.topdown } in
    found_len r c.in_ok-found.found c.pages.result c.in_ok-found.ensures.chosen.is.piece c.pages.ensures

pub returns-clause-within : goal.returns-clause-within
returns-clause-within c =
    let r : Request = record { order = c.args.order; range = c.args.range; topdown = c.args.topdown } in
    found_end (is_free c.args.self.now) (length c.args.self.now) r c.in_ok-found.found.free.order c.in_ok-found.found c.pages.result c.in_ok-found.ensures.chosen.is c.pages.ensures

pub returns-clause-small : goal.returns-clause-small
returns-clause-small c =
    let r : Request = record { order = c.args.order; range = c.args.range; topdown = c.args.topdown } in
    let e = found_end (is_free c.args.self.now) (length c.args.self.now) r c.in_ok-found.found.free.order c.in_ok-found.found c.pages.result c.in_ok-found.ensures.chosen.is c.pages.ensures in
    let z = c.choose.ensures.size in
    omega (arith, e, z)
