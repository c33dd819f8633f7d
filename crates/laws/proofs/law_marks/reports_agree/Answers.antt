use Rattle.laws.proofs.law_marks.Reports.{reports_alike}
use Rattle.laws.proofs.law_marks.reports_agree.Goals as goal

pub returns : goal.returns
returns c = reports_alike
