use Rattle.map_access.proofs.Passed.{stand_first}
use Rattle.map_access.proofs.standing.Standing.new.Goals as goal

pub returns : goal.returns
returns c = stand_first c.args.search.now c.args.thread c.new-starts.result c.pass.new.starts c.new-starts.ensures c.in_ok-pass.ensures
