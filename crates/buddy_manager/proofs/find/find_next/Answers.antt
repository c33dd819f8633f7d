use Rattle.std.proofs.Common.{length, ap, ◌∙◌, arith}
use Rattle.std.proofs.lemmas.List.{length-replicate}
use Rattle.block_tree.specs.FreeSet.{is_free}
use Rattle.buddy_manager.proofs.KnownLaws.{none_fresh, fresh_found}
use Rattle.buddy_manager.proofs.FindingLaws.{finding_marked}
use Rattle.buddy_manager.proofs.find.find_next.Goals as goal

pub returns-in-Block-clause-found : goal.returns-in-Block-clause-found
returns-in-Block-clause-found c = c.in-Block.ensures.0

pub returns-in-Block-clause-room : goal.returns-in-Block-clause-room
returns-in-Block-clause-room c = c.in-Block.ensures.1

pub returns-in-Nowhere-clause-none : goal.returns-in-Nowhere-clause-none
returns-in-Nowhere-clause-none c = λ e. c.in-Nowhere.ensures

pub returns-in-Unknown-clause-finding : goal.returns-in-Unknown-clause-finding
returns-in-Unknown-clause-finding c = λ before pages f.
    finding_marked before c.args.free.now c.args.range c.args.topdown pages c.args.blocks.now c.args.search.now f c.mark_all.new.free c.mark_all.new.search c.mark_all.ensures.size c.mark_all.ensures.left c.mark_all.ensures.order c.mark_all.ensures.marked c.mark_all.ensures.rests c.mark_all.ensures.half c.mark_all.ensures.held

pub returns-in-Unknown-clause-count : goal.returns-in-Unknown-clause-count
returns-in-Unknown-clause-count c = ap length c.mark_all.ensures.rests ∙ length-replicate 32 c.args.range

pub returns-in-Unknown-clause-found : goal.returns-in-Unknown-clause-found
returns-in-Unknown-clause-found c = fresh_found (is_free c.mark_all.new.free) (length c.mark_all.new.free) c.args.range c.args.topdown c.mark_all.new.search.order c.mark_all.new.search.rests c.mark_all.new.search.half c.find_fresh.result c.mark_all.ensures.rests c.mark_all.ensures.half c.find_fresh.ensures.found

pub returns-in-Unknown-clause-none : goal.returns-in-Unknown-clause-none
returns-in-Unknown-clause-none c = λ e. none_fresh (is_free c.mark_all.new.free) (length c.mark_all.new.free) c.args.range c.mark_all.new.search.order c.mark_all.new.search.rests c.mark_all.new.search.half c.mark_all.ensures.half (c.find_fresh.ensures.none e)

pub returns-in-Unknown-clause-marked : goal.returns-in-Unknown-clause-marked
returns-in-Unknown-clause-marked c = let m = c.mark_all.ensures.marked in omega (arith, m)
