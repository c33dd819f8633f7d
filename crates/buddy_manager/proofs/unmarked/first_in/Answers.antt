use Rattle.std.proofs.Common.{arith}
use Rattle.block_tree.proofs.Numbers.{block_end}
use Rattle.buddy_manager.proofs.unmarked.first_in.Goals as goal

pub span_of-requires-clause-small : goal.span_of-requires-clause-small
span_of-requires-clause-small c =
    let l = c.requires.order in
    let u = block_end c.first_number.result c.args.order c.args.half.order c.args.half.number (omega (arith, l)) c.first_number.ensures.within in
    let n = c.requires.numbers in
    omega (arith, u, n)
