use Rattle.laws.proofs.law_pieces.Pieces.{ops_on_memory}
use Rattle.laws.proofs.law_pieces.packets_make_the_operations.Goals as goal

pub returns : goal.returns
returns c = λ script ops m h. ops_on_memory script ops m h
