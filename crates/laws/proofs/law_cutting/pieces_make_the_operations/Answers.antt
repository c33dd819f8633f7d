use Rattle.laws.proofs.law_cutting.Whole.{all_parts_are_whole}
use Rattle.laws.proofs.law_cutting.pieces_make_the_operations.Goals as goal

pub returns : goal.returns
returns c = λ script ops m h. all_parts_are_whole script ops m h
