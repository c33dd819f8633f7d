use Rattle.laws.proofs.law_answers.Refusals.{refusals_law}
use Rattle.laws.proofs.law_answers.refusals_have_a_buffer_at_work.Goals as goal

pub returns : goal.returns
returns c = refusals_law
