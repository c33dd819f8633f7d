use Rattle.laws.proofs.law_owners.Law.{owner_law}
use Rattle.laws.proofs.law_owners.pages_have_one_owner.Goals as goal

pub returns : goal.returns
returns c = λ script journal fits legal. owner_law script journal fits legal
