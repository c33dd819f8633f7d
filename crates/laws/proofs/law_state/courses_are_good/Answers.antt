use Rattle.laws.proofs.law_state.Pins.{courses_law}
use Rattle.laws.proofs.law_state.courses_are_good.Goals as goal

pub returns : goal.returns
returns c = λ script journal legal. courses_law script journal legal
