use Rattle.laws.proofs.law_limit.Limits.{limit_fits}
use Rattle.laws.proofs.law_limit.turns_are_counted.Goals as goal

pub returns : goal.returns
returns c = λ bytes script h. limit_fits bytes script h
