use Rattle.std.proofs.Common.{ap}
use Rattle.law_legal.proofs.law_spaces.Points.{regions_are_the_space}
use Rattle.law_legal.proofs.law_spaces.mappings_are_the_space.Goals as goal

pub returns : goal.returns
returns c = λ requests some page. ap (λ f. f page) (regions_are_the_space requests some)
