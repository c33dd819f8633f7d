use Rattle.law_legal.proofs.law_addresses.Jobs.{jobs_mean}
use Rattle.law_legal.proofs.law_addresses.jobs_mean_their_addresses.Goals as goal

pub returns : goal.returns
returns c = jobs_mean
