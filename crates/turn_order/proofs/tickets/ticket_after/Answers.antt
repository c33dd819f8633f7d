use Rattle.std.proofs.Common.{List, length, Option, sym, ap, ◌∙◌, arith}
use Rattle.std.specs.Prelude.{filter, filter_map, option_map}
use Rattle.ttm_base.specs.ListWords.{count_from, least_by}
use Rattle.journal_model.specs.statements.Scheduled.{Ticketed}
use Rattle.turn_order.specs.Tickets.{comes_after, least_with, ticketed_in, ticketed_of}
use Rattle.turn_order.proofs.TicketLaws.{least_more, tickets_within}
use Rattle.turn_order.proofs.tickets.ticket_after.Goals as goal

pub loop-i-preserved : goal.loop-i-preserved
loop-i-preserved c =
    let last = option_map ticketed_of c.args.last in
    let so_far = least_by (λ (t : Ticketed). t.stamp) (filter (comes_after last) (filter_map (ticketed_in c.args.courses.now) (count_from 1 c.loop-i.i 1))) in
    c.least_of-least.ensures
    ∙ (ap (λ (o : Option Ticketed). least_with last o (option_map ticketed_of c.ticket_of-ticket.result)) c.loop-i.invariant
    ∙ (ap (λ (o : Option Ticketed). least_with last so_far o) c.ticket_of-ticket.ensures
    ∙ sym (least_more c.args.courses.now last c.loop-i.i)))

pub returns : goal.returns
returns c =
    let last = option_map ticketed_of c.args.last in
    let threads = length c.args.script.now.threads in
    let courses = c.args.courses.now in
    let least = c.min-with_course.ensures in
    let counted = c.loop-i.auto.i-end in
    c.loop-i.invariant
    ∙ ap (λ (ts : List Ticketed). least_by (λ (t : Ticketed). t.stamp) (filter (comes_after last) ts)) (tickets_within courses threads c.loop-i.i 1 (omega arith) (λ less. omega (arith, less)))
