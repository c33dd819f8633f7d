use Rattle.journal_model.proofs.RowLaws.{no_row}
use Rattle.journal_model.proofs.jobs.row.row_behind.Goals as goal

pub returns-then-job-clause-row : goal.returns-then-job-clause-row
returns-then-job-clause-row c jobs r = no_row _
