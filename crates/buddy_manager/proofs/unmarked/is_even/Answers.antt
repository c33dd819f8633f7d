use Rattle.std.proofs.Common.{subst, sym}
use Rattle.buddy_manager.specs.Finding.{IsEven}
use Rattle.buddy_manager.proofs.FindLaws.{even_start, even_end}
use Rattle.buddy_manager.proofs.unmarked.is_even.Goals as goal

pub returns-then-range-len-eq0 : goal.returns-then-range-len-eq0
returns-then-range-len-eq0 c = λ h. subst (λ t. IsEven t c.args.range c.args.size c.args.order) (sym c.if-topdown.true) (even_end c.args.range c.args.size c.args.order c.block_len-len.result c.block_len-len.ensures.value h)

pub returns-else-topdown : goal.returns-else-topdown
returns-else-topdown c = λ h. subst (λ t. IsEven t c.args.range c.args.size c.args.order) (sym c.if-topdown.false) (even_start c.args.range c.args.size c.args.order c.block_len-len.result c.block_len-len.ensures.value h)
