use Rattle.std.proofs.Common.{sym, ◌∙◌, ap}
use Rattle.std.specs.Option.{option_copied}
use Rattle.room_queries.proofs.Known.{ring_context}
use Rattle.room_queries.proofs.Fronts.{no_head, no_piece, no_more_piece, front_runs, front_shows}
use Rattle.room_queries.proofs.bytes.probe.Goals as goal

pub head-requires : goal.head-requires
head-requires c = ring_context c.args.script.now c.args.before.now c.args.parts.now c.requires.held c.args.ctx c.requires.known

pub returns-then-is_none : goal.returns-then-is_none
returns-then-is_none c = c.set.ensures ∙ no_piece c.args.script.now c.args.before.now c.args.parts.now c.requires.held c.args.ctx c.requires.known (no_head c.args.script.now c.args.before.now c.args.parts.now c.requires.held c.args.ctx c.requires.known c.head.result c.is_none.result c.head.ensures c.is_none.ensures c.if-is_none.true)

pub show-requires : goal.show-requires
show-requires c = front_runs c.args.script.now c.args.before.now c.args.parts.now c.requires.held c.args.ctx c.requires.known c.in-Some.packet.now (sym c.next_packet.ensures ∙ ap option_copied c.in-Some.is)

pub returns-in-Some : goal.returns-in-Some
returns-in-Some c = c.show.ensures ∙ front_shows c.args.script.now c.args.before.now c.args.parts.now c.requires.held c.args.ctx c.requires.known c.in-Some.packet.now (sym c.next_packet.ensures ∙ ap option_copied c.in-Some.is)

pub returns-in-None : goal.returns-in-None
returns-in-None c = c.set-in-None.ensures ∙ no_more_piece c.args.script.now c.args.before.now c.args.parts.now c.requires.held c.args.ctx c.requires.known (sym c.next_packet.ensures ∙ ap option_copied c.in-None.is)
