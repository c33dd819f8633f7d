use Rattle.std.proofs.Common.{◌∙◌}
use Rattle.rules_state.proofs.PendingJobs.{head_pending}
use Rattle.rules_next.proofs.actors.head_of.Goals as goal

pub returns : goal.returns
returns c = c.first_unfinished.ensures ∙ head_pending c.args.ctx c.args.state.now.core.jobs c.pending.result.now c.pending.ensures
