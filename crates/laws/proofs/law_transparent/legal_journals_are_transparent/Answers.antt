use Rattle.laws.proofs.law_transparent.Law.{transparent_given}
use Rattle.laws.proofs.law_transparent.Ways.{have_ways}
use Rattle.laws.proofs.law_transparent.legal_journals_are_transparent.Goals as goal

pub returns : goal.returns
returns c = λ script journal fits legal. transparent_given script fits (have_ways script fits) journal legal
