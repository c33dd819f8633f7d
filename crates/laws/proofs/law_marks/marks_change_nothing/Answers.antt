use Rattle.laws.proofs.law_marks.Marks.{marks_alike}
use Rattle.laws.proofs.law_marks.marks_change_nothing.Goals as goal

pub returns : goal.returns
returns c = marks_alike
