use Rattle.laws.proofs.law_search.FormScripts.{form_is_script}
use Rattle.laws.proofs.law_search.form_is_a_script.Goals as goal

pub returns : goal.returns
returns c = form_is_script
