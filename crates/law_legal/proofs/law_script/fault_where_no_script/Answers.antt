use Rattle.law_legal.proofs.law_script.Story.{fault_where_no_script}
use Rattle.law_legal.proofs.law_script.fault_where_no_script.Goals as goal

pub returns : goal.returns
returns c = fault_where_no_script
