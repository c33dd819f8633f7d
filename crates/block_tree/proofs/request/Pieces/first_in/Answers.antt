use Rattle.std.proofs.Common.{arith}
use Rattle.block_tree.proofs.SpanLaws.{group_small}
use Rattle.block_tree.proofs.request.Pieces.first_in.Goals as goal

pub overflow_mul-low : goal.overflow_mul-low
overflow_mul-low c =
    let g = group_small c.args.free.number c.args.free.order c.args.self.order c.block_len-len.result c.requires.order c.block_len-len.ensures.value c.requires.free in
    omega (arith, g)

pub overflow_add-low : goal.overflow_add-low
overflow_add-low c =
    let g = group_small c.args.free.number c.args.free.order c.args.self.order c.block_len-len.result c.requires.order c.block_len-len.ensures.value c.requires.free in
    let s = c.block_len-len.ensures.some in
    omega (arith, g, s)
