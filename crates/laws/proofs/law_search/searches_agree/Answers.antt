use Rattle.laws.proofs.law_search.Searches.{same_search}
use Rattle.laws.proofs.law_search.searches_agree.Goals as goal

pub returns : goal.returns
returns c = same_search
