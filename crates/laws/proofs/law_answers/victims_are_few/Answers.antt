use Rattle.laws.proofs.law_answers.AtWork.{few_law}
use Rattle.laws.proofs.law_answers.victims_are_few.Goals as goal

pub returns : goal.returns
returns c = few_law
