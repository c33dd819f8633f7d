use Rattle.std.proofs.Common.{◌∙◌, ◌<◌, sym, arith}
use Rattle.std.proofs.lemmas.Bool.Decides.{nat_tests}
use Rattle.rules_state.proofs.PendingJobs.{unfinished_pending}
use Rattle.rules_holds.proofs.waits.is_open.Goals as goal

pub returns-then-i-least : goal.returns-then-i-least
returns-then-i-least c =
    let below : c.args.i.num < c.args.least = grind (arith, nat_tests) in
    sym (c.requires c.args.i.num below)

pub returns-then-is_unfinished_at : goal.returns-then-is_unfinished_at
returns-then-is_unfinished_at c =
    c.if-is_unfinished_at.true ∙ sym (c.is_unfinished_at.ensures c.if-is_unfinished_at.true) ∙ unfinished_pending c.args.i c.args.core.now.jobs c.pending-pending.result.now c.pending-pending.ensures

pub returns-else-is_unfinished_at : goal.returns-else-is_unfinished_at
returns-else-is_unfinished_at c = c.has_unfinished_near.ensures ∙ unfinished_pending c.args.i c.args.core.now.jobs c.pending-pending.result.now c.pending-pending.ensures
