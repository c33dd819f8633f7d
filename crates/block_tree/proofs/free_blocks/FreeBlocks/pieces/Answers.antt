use Rattle.std.proofs.Common.{subst, arith}
use Rattle.block_tree.specs.Holding.{PiecesOf}
use Rattle.block_tree.proofs.KeptLaws.{placed_block, size_of}
use Rattle.block_tree.proofs.free_blocks.FreeBlocks.pieces.Goals as goal

pub returns-then-request-self-clause-pieces : goal.returns-then-request-self-clause-pieces
returns-then-request-self-clause-pieces c = λ i w.
    let p = placed_block c.self.inside.count c.self.inside.order c.self.inside.size c.self.inside.blocks c.args.self.now c.args.request.order i c.self.invariant c.self.view_is w.end in
    let a = p.order in
    let b = c.if-request-self.true in
    omega (arith, a, b)

pub returns-then-request-self-clause-size : goal.returns-then-request-self-clause-size
returns-then-request-self-clause-size c =
    let s = size_of c.self.inside.order c.self.inside.size c.self.inside.blocks c.args.self.now c.self.view_is in
    let z = c.self.invariant.small in
    omega (arith, s, z)

pub returns-clause-pieces : goal.returns-clause-pieces
returns-clause-pieces c = subst (λ n. PiecesOf c.args.request n c.pieces.result) (size_of c.self.inside.order c.self.inside.size c.self.inside.blocks c.args.self.now c.self.view_is) c.pieces.ensures

pub returns-clause-size : goal.returns-clause-size
returns-clause-size c =
    let s = size_of c.self.inside.order c.self.inside.size c.self.inside.blocks c.args.self.now c.self.view_is in
    let z = c.self.invariant.small in
    omega (arith, s, z)
