use Rattle.laws.proofs.law_owners.Fronts.{throughout_law}
use Rattle.laws.proofs.law_owners.accounts_hold_throughout.Goals as goal

pub returns : goal.returns
returns c = λ script journal fits legal. throughout_law script journal fits legal
