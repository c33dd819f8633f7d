use Rattle.std.proofs.Common.{sym}
use Rattle.std.specs.Prelude.{option_map}
use Rattle.turn_order.specs.Tickets.{ticketed_of}
use Rattle.turn_order.specs.Left.{others_from, threads_after}
use Rattle.turn_order.proofs.OrderLaws.{begins_same, thread_next, threads_past}
use Rattle.turn_order.proofs.asked.thread_after.Goals as goal

pub returns-in-Some : goal.returns-in-Some
returns-in-Some c =
    thread_next c.args.script.now c.args.courses.now (option_map ticketed_of c.args.last) (ticketed_of c.in-Some.ticket) (sym c.in-Some.ensures)

pub returns-in-None : goal.returns-in-None
returns-in-None c =
    let last = option_map ticketed_of c.args.last in
    begins_same c.args.script.now c.args.courses.now (threads_after c.args.script.now c.args.courses.now last) (others_from c.args.script.now c.args.courses.now 1)
    c.other_after.result (threads_past c.args.script.now c.args.courses.now last (sym c.in-None.ensures)) c.other_after.ensures
