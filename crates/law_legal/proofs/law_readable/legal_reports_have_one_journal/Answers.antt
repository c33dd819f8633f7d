use Rattle.law_legal.proofs.law_readable.Law.{texts_differ}
use Rattle.law_legal.proofs.law_readable.legal_reports_have_one_journal.Goals as goal

pub returns : goal.returns
returns c = texts_differ
