use Rattle.std.proofs.Common.{◌∙◌}
use Rattle.room_state.proofs.task_finding.Told.{has_reservations, forbidden_told}
use Rattle.room_state.proofs.task_finding.queries.forbidden.Goals as goal

pub refusal-requires : goal.refusal-requires
refusal-requires c = has_reservations c.args.script.now c.args.before.now c.args.parts.now c.requires

pub returns : goal.returns
returns c = c.refusal.ensures ∙ forbidden_told c.args.script.now c.args.before.now c.args.parts.now c.requires c.args.command.now
