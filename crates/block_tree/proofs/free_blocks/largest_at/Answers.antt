use Rattle.std.proofs.Common.{◌-◌, refl, arith}
use Rattle.std.specs.Int.{trailing_zeros}
use Rattle.std.proofs.Common.{w32}
use Rattle.block_tree.proofs.SpanLaws.{whole_start, log_fits}
use Rattle.block_tree.proofs.free_blocks.largest_at.Goals as goal

pub returns-clause-start : goal.returns-clause-start
returns-clause-start c = whole_start c.args.start (trailing_zeros w32 c.args.start) c.min-order.result (omega arith) refl (let m = c.min-order.ensures in omega (arith, m))

pub returns-clause-end : goal.returns-clause-end
returns-clause-end c =
    let p = log_fits (c.args.end - c.args.start) c.log2.result c.min-order.result (omega arith) c.log2.ensures.value (let m = c.min-order.ensures in omega (arith, m)) in
    omega (arith, p)
