use Rattle.std.proofs.Common.{◌∙◌, ap}
use Rattle.journal_model.specs.rules.Tasks as words
use Rattle.room_state.proofs.task_finding.Told.{has_reservations, gives_told}
use Rattle.room_state.proofs.task_finding.queries.gives_back.Goals as goal

pub live-requires : goal.live-requires
live-requires c = has_reservations c.args.script.now c.args.before.now c.args.parts.now c.requires

pub returns : goal.returns
returns c = c.gives_back.ensures ∙ ap words.gives_back c.live.ensures ∙ gives_told c.args.script.now c.args.before.now c.args.parts.now c.requires c.args.b
