use Rattle.law_facts.proofs.Marks.{turns_law}
use Rattle.law_facts.proofs.marks_turn_nothing.Goals as goal

pub returns : goal.returns
returns c = turns_law
