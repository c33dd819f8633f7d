use Rattle.std.proofs.Common.{◌≡◌, ◌++◌, sym, subst, arith}
use Rattle.std.proofs.lemmas.Bool.Decides.{nat_tests}
use Rattle.journal_model.specs.code.JobRuns.{jobs_of_run}
use Rattle.journal_model.proofs.RowLaws.{row_pushed, row_alone}
use Rattle.journal_model.proofs.jobs.row.row_with.Goals as goal

pub returns-in-Some-clause-row : goal.returns-in-Some-clause-row
returns-in-Some-clause-row c jobs job e h r =
    row_pushed jobs job c.args.row c.in-Some.both h c.in-Some.ensures.whole
    (subst (λ id. jobs_of_run c.in-Some.both ≡ jobs_of_run c.args.row ++ jobs_of_run (record { ctx = id.ctx; first = id.num; count = 1 })) (sym e) c.in-Some.ensures.items) r

pub returns-in-None-clause-row : goal.returns-in-None-clause-row
returns-in-None-clause-row c jobs job e h r = row_alone jobs job c.args.id e h (grind (arith, nat_tests))
