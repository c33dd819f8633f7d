use Rattle.law_facts.proofs.Order.{order_law}
use Rattle.law_facts.proofs.jobs_are_in_order.Goals as goal

pub returns : goal.returns
returns c = order_law
