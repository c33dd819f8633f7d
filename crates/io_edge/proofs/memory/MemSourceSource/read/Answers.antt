use Rattle.std.proofs.Common.{ap, Some, drop, arith}
use Rattle.std.proofs.lemmas.Grind.{common_steps}
use Rattle.io_edge.proofs.Moves.{front_and_rest}
use Rattle.io_edge.proofs.memory.MemSourceSource.read.Goals as goal

pub returns-clause-moved : goal.returns-clause-moved
returns-clause-moved c =
    rw (← c.self.view_is) (ap Some (front_and_rest c.self.inside.at c.move_front-n.result c.self.inside.bytes.items c.move_front-n.new.to
    (drop c.move_front-n.result c.args.buffer.now) (grind (arith, common_steps)) (grind (arith, common_steps))))
