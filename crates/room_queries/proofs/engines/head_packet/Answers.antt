use Rattle.std.proofs.Common.{sym, ◌∙◌, ap}
use Rattle.std.specs.Option.{option_copied}
use Rattle.room_queries.specs.Heads.{number_left}
use Rattle.room_queries.proofs.Known.{ring_context}
use Rattle.room_queries.proofs.Fronts.{no_head, front_number, no_number}
use Rattle.room_queries.proofs.engines.head_packet.Goals as goal

pub head-requires : goal.head-requires
head-requires c = ring_context c.args.script.now c.args.before.now c.args.parts.now c.requires.held c.args.ctx c.requires.known

pub returns-then-is_none : goal.returns-then-is_none
returns-then-is_none c = ap number_left (sym (no_head c.args.script.now c.args.before.now c.args.parts.now c.requires.held c.args.ctx c.requires.known c.head.result c.is_none.result c.head.ensures c.is_none.ensures c.if-is_none.true))

pub returns-in-Some : goal.returns-in-Some
returns-in-Some c = front_number c.args.script.now c.args.before.now c.args.parts.now c.requires.held c.args.ctx c.requires.known c.in-Some._packet.now c.ran.result (sym c.next_packet.ensures ∙ ap option_copied c.in-Some.is) c.ran.ensures

pub returns-in-None : goal.returns-in-None
returns-in-None c = no_number c.args.script.now c.args.before.now c.args.parts.now c.requires.held c.args.ctx c.requires.known (sym c.next_packet.ensures ∙ ap option_copied c.in-None.is)
