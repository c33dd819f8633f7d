use Rattle.std.proofs.Common.{◌∙◌}
use Rattle.room_queries.proofs.Known.{ring_context}
use Rattle.room_queries.proofs.Fronts.{no_head, no_wait, front_waits}
use Rattle.room_queries.proofs.waits.head_need.Goals as goal

pub head-requires : goal.head-requires
head-requires c = ring_context c.args.script.now c.args.before.now c.args.parts.now c.requires.held c.args.ctx c.requires.known

pub returns-then-is_none : goal.returns-then-is_none
returns-then-is_none c = no_wait c.args.script.now c.args.before.now c.args.parts.now c.requires.held c.args.ctx c.requires.known (no_head c.args.script.now c.args.before.now c.args.parts.now c.requires.held c.args.ctx c.requires.known c.head.result c.is_none.result c.head.ensures c.is_none.ensures c.if-is_none.true)

pub returns : goal.returns
returns c = c.ready.ensures ∙ front_waits c.args.script.now c.args.before.now c.args.parts.now c.requires.held c.args.ctx c.requires.known
