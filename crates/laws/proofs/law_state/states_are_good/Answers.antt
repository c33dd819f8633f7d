use Rattle.laws.proofs.law_state.GoodStates.{good_law}
use Rattle.laws.proofs.law_state.states_are_good.Goals as goal

pub returns : goal.returns
returns c = λ script journal fits legal. good_law script fits journal legal
