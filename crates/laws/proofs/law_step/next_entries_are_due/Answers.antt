use Rattle.laws.proofs.law_step.Due.{next_due}
use Rattle.laws.proofs.law_step.next_entries_are_due.Goals as goal

pub returns : goal.returns
returns c = λ script s who k h. next_due script s who k h
