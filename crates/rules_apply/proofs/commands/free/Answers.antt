use Rattle.rules_apply.proofs.Courses.{after_free_is}
use Rattle.rules_apply.proofs.commands.free.Goals as goal

pub returns-clause-ok : goal.returns-clause-ok
returns-clause-ok c =
    after_free_is c.args.state.now c.leave_ghost.new.state c.args.thread c.args.b c.args.num c.get-course.result.now c.get_mut-course.result.now
    c.items-2.result.now c.in_ok-held.held c.items.result.now c.in_ok-lists.lists c.put_item.new.items c.no_reservation.result c.put_item-2.new.items
    c.requires c.get-course.ensures c.items-2.ensures c.in_ok-held.ensures c.items.ensures c.in_ok-lists.ensures c.in_ok-leave_ghost.ensures.ok
    c.put_item.ensures c.no_reservation.ensures c.put_item-2.ensures c.get_mut-course.ensures.value
