use Rattle.laws.proofs.law_end.Ends.{journals_end}
use Rattle.laws.proofs.law_end.journals_end.Goals as goal

pub returns : goal.returns
returns c = λ script journal fits h. journals_end script fits journal h
