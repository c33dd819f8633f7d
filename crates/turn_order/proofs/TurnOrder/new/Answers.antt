use Rattle.turn_order.proofs.OrderLaws.{all_left}
use Rattle.turn_order.proofs.TurnOrder.new.Goals as goal

pub returns : goal.returns
returns c script s = all_left script s
