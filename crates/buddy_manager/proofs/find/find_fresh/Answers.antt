use Rattle.std.proofs.Common.{length}
use Rattle.block_tree.specs.FreeSet.{is_free}
use Rattle.buddy_manager.proofs.KnownLaws.{found_fresh, free_room}
use Rattle.buddy_manager.proofs.find.find_fresh.Goals as goal

pub returns-clause-found : goal.returns-clause-found
returns-clause-found c = λ rests all. found_fresh (is_free c.args.free.now) (length c.args.free.now) c.args.range c.args.topdown c.args.order rests c.in_ok-whole.whole c.in_ok-block.block all c.in_ok-whole.ensures.small c.in_ok-whole.ensures.least c.in_ok-block.ensures.first

pub returns-clause-room : goal.returns-clause-room
returns-clause-room c = free_room (is_free c.args.free.now) (length c.args.free.now) c.args.range c.args.topdown c.args.order c.in_ok-whole.whole c.in_ok-block.block c.in_ok-block.ensures.first c.in_ok-block.ensures.small c.in_ok-whole.ensures.small
