use Rattle.laws.proofs.law_state.Counters.{below_law}
use Rattle.laws.proofs.law_state.counters_are_low.Goals as goal

pub returns : goal.returns
returns c = λ script journal legal. below_law script journal legal
