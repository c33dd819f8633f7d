use Rattle.law_legal.proofs.law_verdict.Law.{accepted_is_not_rejected, rejected_once}
use Rattle.law_legal.proofs.law_verdict.texts_have_one_verdict.Goals as goal

pub returns : goal.returns
returns c = record { apart = accepted_is_not_rejected; once = rejected_once }
