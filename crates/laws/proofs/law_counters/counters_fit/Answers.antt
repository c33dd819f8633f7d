use Rattle.laws.proofs.law_counters.Law.{counters_law}
use Rattle.laws.proofs.law_counters.counters_fit.Goals as goal

pub returns : goal.returns
returns c = counters_law
