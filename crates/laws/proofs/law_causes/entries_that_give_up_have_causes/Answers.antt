use Rattle.laws.proofs.law_causes.Law.{all_caused}
use Rattle.laws.proofs.law_causes.entries_that_give_up_have_causes.Goals as goal

pub returns : goal.returns
returns c = λ script journal fits legal. all_caused script fits journal legal
