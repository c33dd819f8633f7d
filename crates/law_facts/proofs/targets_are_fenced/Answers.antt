use Rattle.law_facts.proofs.Fenced.{targets_law}
use Rattle.law_facts.proofs.targets_are_fenced.Goals as goal

pub returns : goal.returns
returns c = targets_law
