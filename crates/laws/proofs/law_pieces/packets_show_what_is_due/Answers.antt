use Rattle.laws.proofs.law_pieces.Pieces.{ops_steps}
use Rattle.laws.proofs.law_pieces.packets_show_what_is_due.Goals as goal

pub returns : goal.returns
returns c = λ aper names place script ops m aims h. ops_steps aper names place aims script ops m h
