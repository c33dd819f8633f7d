use Rattle.std.proofs.Common.{◌<◌, sym, subst}
use Rattle.lru_bulk.specs.Lists.{Order, StandTogether, is_member, list_at}
use Rattle.lru_bulk.proofs.OrderLaws.{stands_together}
use Rattle.lru_bulk.proofs.Lru.stand_together.Goals as goal

pub returns : goal.returns
returns c = λ i g li lg.
    subst (λ (o : Order). StandTogether (is_member o.listings g) (list_at o.lists i)) c.self.view_is
    (stands_together c.self.inside.rings i g c.self.invariant li (subst (λ (o : Order). g < o.groups) (sym c.self.view_is) lg))
