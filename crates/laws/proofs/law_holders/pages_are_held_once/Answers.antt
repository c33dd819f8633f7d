use Rattle.laws.proofs.law_holders.HeldOnce.{held_once}
use Rattle.laws.proofs.law_owners.Law.{once_law}
use Rattle.journal_model.specs.rules.Legal.{state_of}
use Rattle.laws.proofs.law_holders.pages_are_held_once.Goals as goal

pub returns : goal.returns
returns c = λ script journal fits legal. held_once script (state_of script journal).core (once_law script journal fits legal)
