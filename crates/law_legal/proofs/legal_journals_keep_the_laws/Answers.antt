use Rattle.law_legal.proofs.All.{keeps_laws}
use Rattle.law_legal.proofs.legal_journals_keep_the_laws.Goals as goal

pub returns : goal.returns
returns c = λ script journal fits legal. keeps_laws script journal fits legal
