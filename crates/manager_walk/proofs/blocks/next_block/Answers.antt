use Rattle.std.proofs.Common.{sym}
use Rattle.manager_walk.proofs.OpenLaws.{next_at}
use Rattle.manager_walk.proofs.blocks.next_block.Goals as goal

pub returns-in-Some-clause-some : goal.returns-in-Some-clause-some
returns-in-Some-clause-some c = next_at c.args.manager.now.held c.args.from c.loop-page.page c.in-Some.block c.loop-page.auto.page (sym c.in-Some.ensures) c.loop-page.invariant
