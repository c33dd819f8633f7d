use Rattle.std.proofs.Common.{◌≡◌, ◌≤◌, ◌+◌, ◌^◌, ap, sym, subst, ◌∙◌}
use Rattle.ttm_base.specs.BuddyChoice.{order_of}
use Rattle.ttm_base.proofs.OrderLaws.{order_of_more, order_suffices}
use Rattle.ttm_base.proofs.orders.order_of.Goals as goal

pub returns-else-pages-le1-clause-enough : goal.returns-else-pages-le1-clause-enough
returns-else-pages-le1-clause-enough c =
    let order : order_of c.args.pages ≡ c.log2.result + 1 = sym (order_of_more c.args.pages c.if-pages-le1.false) ∙ ap (λ k. k + 1) (sym c.log2.ensures.value) in
    subst (λ k. c.args.pages ≤ 2 ^ k) order (order_suffices c.args.pages)
