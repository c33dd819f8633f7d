use Rattle.laws.proofs.law_answers.InOrder.{in_order}
use Rattle.laws.proofs.law_answers.answers_are_in_order.Goals as goal

pub returns : goal.returns
returns c = λ script journal fits h. in_order script journal h fits
