use Rattle.laws.proofs.law_search.TwoLists.{lists_of_first_version}
use Rattle.laws.proofs.law_search.first_version_has_two_lists.Goals as goal

pub returns : goal.returns
returns c = lists_of_first_version
