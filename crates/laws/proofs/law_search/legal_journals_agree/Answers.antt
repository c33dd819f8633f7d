use Rattle.laws.proofs.law_search.Forms.{legal_alike}
use Rattle.laws.proofs.law_search.legal_journals_agree.Goals as goal

pub returns : goal.returns
returns c = λ script version journal. legal_alike version script.marks script journal
