use Rattle.std.proofs.Common.{arith, sym}
use Rattle.std.proofs.lemmas.Grind.{common_steps}
use Rattle.journal_model.proofs.RowLaws.{closes_between}
use Rattle.journal_model.proofs.jobs.list.can_close.Goals as goal

pub returns-then-job : goal.returns-then-job
returns-then-job c =
    let closes = closes_between c.args.jobs.now c.args.at c.end_of-end.result c.index-jobs-at.result (sym c.index-jobs-at.is) (omega arith) c.end_of-end.ensures.from c.end_of-end.ensures.apart in
    grind (arith, common_steps, closes)
