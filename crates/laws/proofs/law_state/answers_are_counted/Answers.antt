use Rattle.laws.proofs.law_state.Counted.{counted_law}
use Rattle.laws.proofs.law_state.answers_are_counted.Goals as goal

pub returns : goal.returns
returns c = λ script journal thread. counted_law script journal thread
