use Rattle.laws.proofs.law_owners.Accounts.{account_law}
use Rattle.laws.proofs.law_owners.accounts_hold.Goals as goal

pub returns : goal.returns
returns c = λ script journal fits legal. account_law script journal fits legal
