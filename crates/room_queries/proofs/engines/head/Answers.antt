use Rattle.std.proofs.Common.{◌∙◌}
use Rattle.room_queries.proofs.Known.{ring_context}
use Rattle.room_queries.proofs.Fronts.{front_job}
use Rattle.room_queries.proofs.engines.head.Goals as goal

pub head-requires : goal.head-requires
head-requires c = ring_context c.args.script.now c.args.before.now c.args.parts.now c.requires.held c.args.ctx c.requires.known

pub returns : goal.returns
returns c = c.head.ensures ∙ front_job c.args.script.now c.args.before.now c.args.parts.now c.requires.held c.args.ctx c.requires.known
