use Rattle.std.proofs.Common.{ap, sym, ◌∙◌}
use Rattle.std.specs.Prelude.{◌&&◌, is_some, not}
use Rattle.journal_model.specs.rules.JobNames.{same_job}
use Rattle.rules_state.proofs.PendingJobs.{unfinished_pending}
use Rattle.rules_holds.proofs.OpenJobs.{any_has_place}
use Rattle.rules_holds.proofs.waits.is_unfinished.Goals as goal

pub returns : goal.returns
returns c =
    c.is_some.ensures ∙ ap is_some c.place_of.ensures ∙ sym (any_has_place (λ j. same_job c.args.i j.id && not j.finished) c.pending.result.now)
    ∙ unfinished_pending c.args.i c.args.core.now.jobs c.pending.result.now c.pending.ensures
