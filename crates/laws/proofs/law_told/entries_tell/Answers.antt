use Rattle.laws.proofs.law_transparent.Carried.{told_law}
use Rattle.laws.proofs.law_told.entries_tell.Goals as goal

pub returns : goal.returns
returns c = told_law
