use Rattle.law_facts.proofs.Conflicts.{waits_law}
use Rattle.law_facts.proofs.conflicts_wait.Goals as goal

pub returns : goal.returns
returns c = waits_law
