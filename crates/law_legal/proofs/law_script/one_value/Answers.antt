use Rattle.law_legal.proofs.law_script.Story.{one_value}
use Rattle.law_legal.proofs.law_script.one_value.Goals as goal

pub returns : goal.returns
returns c = one_value
