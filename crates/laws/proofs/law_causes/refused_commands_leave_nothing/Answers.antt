use Rattle.laws.proofs.law_causes.Law.{all_refusals}
use Rattle.laws.proofs.law_causes.refused_commands_leave_nothing.Goals as goal

pub returns : goal.returns
returns c = λ script journal t d fits legal h. all_refusals script fits journal t d legal h
