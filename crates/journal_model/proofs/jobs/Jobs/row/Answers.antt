use Rattle.std.proofs.Common.{sym}
use Rattle.journal_model.proofs.RowLaws.{row_open}
use Rattle.journal_model.proofs.jobs.Jobs.row.Goals as goal

pub returns-clause-open : goal.returns-clause-open
returns-clause-open c = rw (sym c.self.view_is) (row_open c.self.inside.all c.self.inside.row c.self.invariant.end)
