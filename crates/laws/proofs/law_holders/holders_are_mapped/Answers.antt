use Rattle.laws.proofs.law_holders.Mapped.{maps_aperture}
use Rattle.laws.proofs.law_owners.Law.{once_law}
use Rattle.journal_model.specs.rules.Legal.{state_of}
use Rattle.laws.proofs.law_holders.holders_are_mapped.Goals as goal

pub returns : goal.returns
returns c = λ script journal page frame fits legal m. maps_aperture script (state_of script journal).core (once_law script journal fits legal) page frame m
