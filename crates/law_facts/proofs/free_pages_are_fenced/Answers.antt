use Rattle.law_facts.proofs.Guards.{free_fenced_law}
use Rattle.law_facts.proofs.free_pages_are_fenced.Goals as goal

pub returns : goal.returns
returns c = free_fenced_law
