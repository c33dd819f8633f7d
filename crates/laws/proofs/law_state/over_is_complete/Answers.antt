use Rattle.laws.proofs.law_state.Counted.{over_law}
use Rattle.laws.proofs.law_state.over_is_complete.Goals as goal

pub returns : goal.returns
returns c = over_law
