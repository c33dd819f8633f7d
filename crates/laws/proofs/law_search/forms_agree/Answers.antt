use Rattle.laws.proofs.law_search.Forms.{forms_same}
use Rattle.laws.proofs.law_search.forms_agree.Goals as goal

pub returns : goal.returns
returns c = forms_same
