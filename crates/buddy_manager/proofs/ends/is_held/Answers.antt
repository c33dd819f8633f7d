use Rattle.std.proofs.Common.{sym, ◌∙◌, arith}
use Rattle.std.proofs.lemmas.Bool.{le-ltb}
use Rattle.buddy_manager.proofs.EndLaws.{held_by_end, held_some}
use Rattle.buddy_manager.proofs.ends.is_held.Goals as goal

pub returns-then-block : goal.returns-then-block
returns-then-block c = held_by_end c.args.ends.now c.args.block c.get.result c.get.ensures (omega arith)

pub returns-else-block : goal.returns-else-block
returns-else-block c = le-ltb c.args.block.start c.args.block.end (omega arith) ∙ sym (held_some c.args.ends.now c.args.block (omega arith))
