use Rattle.laws.proofs.law_jobs.Law.{line_law}
use Rattle.laws.proofs.law_jobs.jobs_are_in_line.Goals as goal

pub returns : goal.returns
returns c = line_law
