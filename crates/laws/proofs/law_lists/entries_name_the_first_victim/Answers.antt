use Rattle.laws.proofs.law_lists.Caught.{victims_law}
use Rattle.laws.proofs.law_lists.entries_name_the_first_victim.Goals as goal

pub returns : goal.returns
returns c = victims_law
