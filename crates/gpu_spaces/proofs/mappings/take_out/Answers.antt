use Rattle.std.specs.Prelude.{None}
use Rattle.gpu_spaces.proofs.Kept.{starting_updated, regions_in_order}
use Rattle.gpu_spaces.proofs.mappings.take_out.Goals as goal

pub returns-clause-left : goal.returns-clause-left
returns-clause-left c = starting_updated c.args.mappings.now c.remove.new.self c.args.start None c.remove.ensures.updates.0

pub returns-clause-ordered : goal.returns-clause-ordered
returns-clause-ordered c = regions_in_order c.remove.new.self c.remove.ensures.ordered
