use Rattle.laws.proofs.law_cutting.Whole.{joined_is_shown}
use Rattle.laws.proofs.law_cutting.joined_pieces_are_the_probe.Goals as goal

pub returns : goal.returns
returns c = λ m src off len. joined_is_shown m src off len
