use Rattle.std.proofs.Common.{length, arith}
use Rattle.block_tree.specs.declared.request.Request.{Request}
use Rattle.block_tree.specs.FreeSet.{is_free}
use Rattle.block_tree.proofs.FoundLaws.{found_within, found_first, found_end}
use Rattle.block_tree.proofs.free_blocks.FreeBlocks.first_piece.Goals as goal

pub find-requires : goal.find-requires
find-requires c = record { order = c.requires.order; small = c.requires.whole }

pub returns-in_err-found : goal.returns-in_err-found
returns-in_err-found c = rw c.from_residual.ensures (record { first = c.in_err-found.ensures.found; within = tt; small = tt })

pub pages-requires : goal.pages-requires
pages-requires c =
    let r : Request = record { order = c.args.order; range = c.args.range; topdown = c.args.topdown } in
    let h = c.in_ok-found.ensures.found in
    let w = found_within (is_free c.args.self.now) (length c.args.self.now) r c.args.whole c.in_ok-found.found h in
    let z = c.find.ensures.size in
    let p = h.piece in
    record { order = let o = c.requires.order in let s = c.requires.whole in omega (arith, p, o, s); small = omega (arith, w, z) }

pub returns-clause-first : goal.returns-clause-first
returns-clause-first c =
    let r : Request = record { order = c.args.order; range = c.args.range; topdown = c.args.topdown } in
    found_first (is_free c.args.self.now) (length c.args.self.now) r c.args.whole c.in_ok-found.found c.pages.result c.in_ok-found.ensures.found c.pages.ensures

pub returns-clause-within : goal.returns-clause-within
returns-clause-within c =
    let r : Request = record { order = c.args.order; range = c.args.range; topdown = c.args.topdown } in
    found_end (is_free c.args.self.now) (length c.args.self.now) r c.args.whole c.in_ok-found.found c.pages.result c.in_ok-found.ensures.found c.pages.ensures

pub returns-clause-small : goal.returns-clause-small
returns-clause-small c =
    let r : Request = record { order = c.args.order; range = c.args.range; topdown = c.args.topdown } in
    let e = found_end (is_free c.args.self.now) (length c.args.self.now) r c.args.whole c.in_ok-found.found c.pages.result c.in_ok-found.ensures.found c.pages.ensures in
    let z = c.find.ensures.size in
    omega (arith, e, z)
