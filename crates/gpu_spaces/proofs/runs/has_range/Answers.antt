use Rattle.std.proofs.Common.{◌+◌, ◌*◌, ◌≤◌, arith}
use Rattle.std.proofs.lemmas.Bool.Decides.{nat_tests}
use Rattle.gpu_spaces.proofs.Mapped.{range_in_run}
use Rattle.gpu_spaces.proofs.runs.has_range.Goals as goal

pub returns-then-run-page : goal.returns-then-run-page
returns-then-run-page c = λ space h t.
    let high : c.args.addr + c.args.len ≤ 4096 * c.args.run.end = grind (arith, nat_tests, t, c.from.ensures, c.from-then-run-page.ensures) in
    range_in_run space c.args.run c.args.addr c.args.len h c.if-run-page.true high
