use Rattle.law_facts.proofs.Fenced.{places_law}
use Rattle.law_facts.proofs.places_are_fenced.Goals as goal

pub returns : goal.returns
returns c = places_law
