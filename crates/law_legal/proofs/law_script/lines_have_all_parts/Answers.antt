use Rattle.law_legal.proofs.law_script.Parts.{lines_have_all_parts}
use Rattle.law_legal.proofs.law_script.lines_have_all_parts.Goals as goal

pub returns : goal.returns
returns c = lines_have_all_parts
