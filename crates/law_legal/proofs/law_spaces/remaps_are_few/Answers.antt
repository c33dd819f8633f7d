use Rattle.journal_model.specs.marks.Spaces.{regions_of}
use Rattle.law_legal.proofs.law_spaces.Order.{rising_of}
use Rattle.law_legal.proofs.law_spaces.Remaps as few
use Rattle.law_legal.proofs.law_spaces.remaps_are_few.Goals as goal

pub returns : goal.returns
returns c = λ requests some request has. few.remaps_are_few (regions_of requests) request (rising_of requests some)
