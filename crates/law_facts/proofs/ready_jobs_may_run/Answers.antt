use Rattle.law_facts.proofs.Conflicts.{ready_law}
use Rattle.law_facts.proofs.ready_jobs_may_run.Goals as goal

pub returns : goal.returns
returns c = ready_law
