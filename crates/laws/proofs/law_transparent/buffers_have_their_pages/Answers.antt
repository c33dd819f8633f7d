use Rattle.laws.proofs.law_transparent.PagesLaw.{pages_law}
use Rattle.laws.proofs.law_transparent.buffers_have_their_pages.Goals as goal

pub returns : goal.returns
returns c = pages_law
