use Rattle.law_legal.proofs.law_report.Journals as laws
use Rattle.law_legal.proofs.law_report.one_journal.Goals as goal

pub returns : goal.returns
returns c = laws.one_journal
