use Rattle.laws.proofs.law_transparent.PagesLaw.{ghosts_law}
use Rattle.laws.proofs.law_transparent.ghosts_are_numbered.Goals as goal

pub returns : goal.returns
returns c = ghosts_law
