use Rattle.std.proofs.Common.{true}
use Rattle.journal_model.proofs.RowLaws.{row_done}
use Rattle.journal_model.proofs.jobs.row.row_after.Goals as goal

pub returns-clause-row : goal.returns-clause-row
returns-clause-row c jobs r = row_done (λ j. record j { finished = true }) jobs c.args.row c.args.id c.count_up_to-count.result c.count_up_to-count.ensures.within c.count_up_to-count.ensures.apart r
