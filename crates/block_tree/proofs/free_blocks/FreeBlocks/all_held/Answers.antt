use Rattle.std.proofs.Common.{◌≤◌, ◌*◌, sym, subst, arith}
use Rattle.ttm_base.proofs.OrderLaws.{order_least}
use Rattle.block_tree.proofs.Numbers.{pow_next}
use Rattle.block_tree.proofs.KeptLaws.{length_marks, kept_held, marks_held}
use Rattle.block_tree.proofs.free_blocks.FreeBlocks.all_held.Goals as goal

pub block_len-requires : goal.block_len-requires
block_len-requires c = (subst (λ k. k ≤ 31) (sym c.order_of-order.ensures.value) (order_least c.args.pages 31 (let h = c.requires in omega (arith, h))))

pub new-requires : goal.new-requires
new-requires c = let l = c.block_len.ensures.small in omega (arith, l)

pub invariant_of-result : goal.invariant_of-result
invariant_of-result c = kept_held (2 * c.block_len.result) c.order_of-order.result c.args.pages c.in_ok-blocks.blocks c.in_ok-blocks.ensures (let v = c.block_len.ensures.value in let p = pow_next c.order_of-order.result in omega (arith, v, p)) (subst (λ k. k ≤ 31) (sym c.order_of-order.ensures.value) (order_least c.args.pages 31 (let h = c.requires in omega (arith, h)))) c.requires c.order_of-order.ensures.enough

pub returns-clause-size : goal.returns-clause-size
returns-clause-size c = length_marks c.order_of-order.result c.args.pages c.in_ok-blocks.blocks

pub returns-clause-held : goal.returns-clause-held
returns-clause-held c = marks_held (2 * c.block_len.result) c.order_of-order.result c.args.pages c.in_ok-blocks.blocks c.in_ok-blocks.ensures (kept_held (2 * c.block_len.result) c.order_of-order.result c.args.pages c.in_ok-blocks.blocks c.in_ok-blocks.ensures (let v = c.block_len.ensures.value in let p = pow_next c.order_of-order.result in omega (arith, v, p)) (subst (λ k. k ≤ 31) (sym c.order_of-order.ensures.value) (order_least c.args.pages 31 (let h = c.requires in omega (arith, h)))) c.requires c.order_of-order.ensures.enough)
