use Rattle.law_legal.proofs.law_script.Story.{one_spelling}
use Rattle.law_legal.proofs.law_script.one_spelling.Goals as goal

pub returns : goal.returns
returns c = one_spelling
