use Rattle.law_legal.proofs.law_readable.Law.{readable_law}
use Rattle.law_legal.proofs.law_readable.legal_entries_are_readable.Goals as goal

pub returns : goal.returns
returns c = readable_law
