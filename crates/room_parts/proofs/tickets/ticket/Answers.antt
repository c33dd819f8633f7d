use Rattle.room_parts.proofs.Ticketed.{ticket_there, few_drawn, ticket_held}
use Rattle.room_parts.proofs.tickets.ticket.Goals as goal

pub draw-drawn-requires : goal.draw-drawn-requires
draw-drawn-requires g c = few_drawn g.w.script g.w.before c.args.parts.now g.w.entry c.args.thread c.args.stamp c.requires.0 c.requires.1.0 c.requires.1.1

pub give_ticket-requires : goal.give_ticket-requires
give_ticket-requires g c = ticket_there g.w.script g.w.before c.args.parts.now g.w.entry c.args.thread c.args.stamp c.requires.0 c.requires.1.0 c.requires.1.1

pub returns : goal.returns
returns g c = ticket_held g.w.script g.w.before c.args.parts.now g.w.entry c.args.thread c.args.stamp c.requires.0 c.requires.1.0 c.requires.1.1 c.give_ticket.new.courses c.draw-drawn.new.self _ c.draw-drawn.ensures.drawn c.draw-drawn.ensures.stamp c.give_ticket.ensures
