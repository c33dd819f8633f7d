use Rattle.std.proofs.Common.{sym, ◌∙◌, arith}
use Rattle.map_access.proofs.Order.{order_ends}
use Rattle.map_access.proofs.search.are_in_order.Goals as goal

pub returns : goal.returns
returns c = sym (order_ends c.args.marks.now c.loop-i.i (omega arith)) ∙ c.loop-i.invariant
