use Rattle.laws.proofs.law_search.Forms.{journal_along_same}
use Rattle.laws.proofs.law_search.turns_agree.Goals as goal

pub returns : goal.returns
returns c = λ script version actors. journal_along_same version script.marks script actors
