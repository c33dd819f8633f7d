use Rattle.check_program.proofs.ExactLaws.{verdicts_are_exact}
use Rattle.check_program.proofs.exact.verdicts_are_exact.Goals as goal

pub returns : goal.returns
returns c = verdicts_are_exact
