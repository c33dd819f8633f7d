use Rattle.map_follow.proofs.First.{follows_first}
use Rattle.map_follow.proofs.new_areas_follow.Goals as goal

pub returns : goal.returns
returns c = follows_first
