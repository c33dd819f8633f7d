use Rattle.laws.proofs.law_sound.Orders.{order_law}
use Rattle.laws.proofs.law_sound.own_order_finds_who_goes_on.Goals as goal

pub returns : goal.returns
returns c = λ script journal fits h over. order_law script journal fits h over
