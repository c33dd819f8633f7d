use Rattle.ttm_base.proofs.OrderLaws.{log2_is}
use Rattle.ttm_base.proofs.orders.log2.Goals as goal

pub returns-else-pages-eq0-clause-value : goal.returns-else-pages-eq0-clause-value
returns-else-pages-eq0-clause-value c = log2_is c.args.pages c.ilog2.result c.ilog2.ensures.power_le c.ilog2.ensures.next_power_gt
