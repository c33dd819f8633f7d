use Rattle.std.proofs.Common.{arith}
use Rattle.room_queries.proofs.Known.{few_ghosts}
use Rattle.room_queries.proofs.counters.next_ghost.Goals as goal

pub overflow_add-result : goal.overflow_add-result
overflow_add-result c = let few = few_ghosts c.args.script.now c.args.before.now c.args.parts.now c.requires in omega (arith, few)
