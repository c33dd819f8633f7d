use Rattle.law_facts.proofs.Guards.{ghosts_fenced_law}
use Rattle.law_facts.proofs.ghosts_are_fenced.Goals as goal

pub returns : goal.returns
returns c = ghosts_fenced_law
