use Rattle.journal_model.specs.marks.Spaces.{regions_of}
use Rattle.law_legal.proofs.law_spaces.Order.{rising_of, disjoint_of_rising}
use Rattle.law_legal.proofs.law_spaces.mappings_are_disjoint.Goals as goal

pub returns : goal.returns
returns c = λ requests some. disjoint_of_rising (regions_of requests) (rising_of requests some)
