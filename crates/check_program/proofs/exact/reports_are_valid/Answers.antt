use Rattle.check_program.proofs.ExactLaws.{reports_are_valid}
use Rattle.check_program.proofs.exact.reports_are_valid.Goals as goal

pub returns : goal.returns
returns c = reports_are_valid
