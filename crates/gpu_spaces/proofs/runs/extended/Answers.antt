use Rattle.gpu_spaces.proofs.Mapped.{run_goes_on}
use Rattle.gpu_spaces.proofs.runs.extended.Goals as goal

pub returns : goal.returns
returns c = λ space h k. run_goes_on space c.args.run c.args.next h k c.if-run-next.false
