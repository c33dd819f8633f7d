use Rattle.laws.proofs.law_over.Stops.{last}
use Rattle.laws.proofs.law_over.complete_is_last.Goals as goal

pub returns : goal.returns
returns c = last
