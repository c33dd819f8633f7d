use Rattle.map_follow.proofs.Law.{entries_followed}
use Rattle.map_follow.proofs.entries_are_followed.Goals as goal

pub returns : goal.returns
returns c = entries_followed
