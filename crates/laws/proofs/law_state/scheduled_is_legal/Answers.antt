use Rattle.laws.proofs.law_state.Turns.{scheduled_legal}
use Rattle.laws.proofs.law_state.scheduled_is_legal.Goals as goal

pub returns : goal.returns
returns c = scheduled_legal
