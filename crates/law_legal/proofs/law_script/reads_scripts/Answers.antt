use Rattle.law_legal.proofs.law_script.ReadsScript.{reads_scripts}
use Rattle.law_legal.proofs.law_script.reads_scripts.Goals as goal

pub returns : goal.returns
returns c = reads_scripts
