use Rattle.law_facts.proofs.Apertures.{mappings_law}
use Rattle.law_facts.proofs.mappings_stay.Goals as goal

pub returns : goal.returns
returns c = mappings_law
