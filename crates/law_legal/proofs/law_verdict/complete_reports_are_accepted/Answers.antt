use Rattle.law_legal.proofs.law_verdict.Law.{reports_are_accepted}
use Rattle.law_legal.proofs.law_verdict.complete_reports_are_accepted.Goals as goal

pub returns : goal.returns
returns c = reports_are_accepted
