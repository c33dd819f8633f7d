use Rattle.std.proofs.Common.{◌∙◌}
use Rattle.room_state.proofs.task_finding.Told.{has_reservations, unready_told}
use Rattle.room_state.proofs.task_finding.queries.first_unready.Goals as goal

pub unready-requires : goal.unready-requires
unready-requires c = has_reservations c.args.script.now c.args.before.now c.args.parts.now c.requires

pub returns : goal.returns
returns c = c.unready.ensures ∙ unready_told c.args.script.now c.args.before.now c.args.parts.now c.requires c.args.command.now
