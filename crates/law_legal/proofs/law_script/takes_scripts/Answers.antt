use Rattle.law_legal.proofs.law_script.TakesScript.{takes_scripts}
use Rattle.law_legal.proofs.law_script.takes_scripts.Goals as goal

pub returns : goal.returns
returns c = takes_scripts
