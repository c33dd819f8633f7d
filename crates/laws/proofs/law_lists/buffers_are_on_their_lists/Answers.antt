use Rattle.laws.proofs.law_lists.Law.{lists_law}
use Rattle.laws.proofs.law_lists.buffers_are_on_their_lists.Goals as goal

pub returns : goal.returns
returns c = lists_law
