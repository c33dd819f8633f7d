use Rattle.laws.proofs.law_spares.Law.{spares_law}
use Rattle.laws.proofs.law_spares.entries_spare_jobs.Goals as goal

pub returns : goal.returns
returns c = spares_law
