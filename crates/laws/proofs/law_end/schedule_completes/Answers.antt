use Rattle.laws.proofs.law_end.Ends.{schedule_completes}
use Rattle.laws.proofs.law_end.schedule_completes.Goals as goal

pub returns : goal.returns
returns c = λ script fits. schedule_completes script fits
