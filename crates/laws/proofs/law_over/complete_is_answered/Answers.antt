use Rattle.laws.proofs.law_over.Totals.{all_answered}
use Rattle.laws.proofs.law_over.complete_is_answered.Goals as goal

pub returns : goal.returns
returns c = all_answered
