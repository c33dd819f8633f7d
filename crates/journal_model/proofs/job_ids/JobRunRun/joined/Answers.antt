use Rattle.std.proofs.Common.{◌≡◌, ◌+◌, ◌<◌, ◌++◌, length, subst, arith}
use Rattle.std.proofs.lemmas.Grind.{common_steps}
use Rattle.std.proofs.lemmas.Bool.Decides.{nat_tests}
use Rattle.journal_model.specs.declared.job_ids.JobRun.{JobRun}
use Rattle.journal_model.specs.code.JobRuns.{jobs_of_run}
use Rattle.journal_model.proofs.JobRunLaws.{GoesOn, goes_on, joined_jobs, length-run}
use Rattle.journal_model.proofs.job_ids.JobRunRun.joined.Goals as goal

pub returns-clause-items : goal.returns-clause-items
returns-clause-items c =
    let both = joined_jobs c.args.self.ctx c.args.self.first c.args.self.count c.args.next.count in
    let same : c.args.next.ctx ≡ c.args.self.ctx = grind (arith, common_steps, nat_tests) in
    let first : c.args.next.first ≡ c.args.self.first + c.args.self.count = grind (arith, common_steps, nat_tests) in
    let count : c.in_ok-count.count ≡ c.args.self.count + c.args.next.count = grind (arith, common_steps, nat_tests) in
    grind (arith, common_steps, both, same, first, count)

-- a run that has the items of both shows that the second goes on from the first
is_next : (one next both : JobRun) → 0 < length (jobs_of_run one) → 0 < length (jobs_of_run next) → jobs_of_run both ≡ jobs_of_run one ++ jobs_of_run next → GoesOn one next both
is_next one next both a b e = goes_on one next both (subst (λ n. 0 < n) (length-run one) a) (subst (λ n. 0 < n) (length-run next) b) e

pub returns-in_err-ahead-clause-none : goal.returns-in_err-ahead-clause-none
returns-in_err-ahead-clause-none c =
    let never : (both : JobRun) → 0 < length (jobs_of_run c.args.self) → 0 < length (jobs_of_run c.args.next) → length (jobs_of_run both) < 18446744073709551616 → jobs_of_run both ≡ jobs_of_run c.args.self ++ jobs_of_run c.args.next → ⊥ =
    λ both a b l e. (let on = is_next c.args.self c.args.next both a b e in let first = on.first in grind (arith, common_steps, nat_tests, first)) in
    grind (arith, common_steps, nat_tests, never)

pub returns-then-self-next-clause-none : goal.returns-then-self-next-clause-none
returns-then-self-next-clause-none c = λ both a b l e. (
    let on = is_next c.args.self c.args.next both a b e in
    let ctx = on.ctx in
    let first = on.first in
    grind (arith, common_steps, nat_tests, ctx, first))

pub returns-in_err-count-clause-none : goal.returns-in_err-count-clause-none
returns-in_err-count-clause-none c =
    let never : (both : JobRun) → 0 < length (jobs_of_run c.args.self) → 0 < length (jobs_of_run c.args.next) → length (jobs_of_run both) < 18446744073709551616 → jobs_of_run both ≡ jobs_of_run c.args.self ++ jobs_of_run c.args.next → ⊥ =
    λ both a b l e. (
    let on = is_next c.args.self c.args.next both a b e in
    let few : both.count < 18446744073709551616 = subst (λ n. n < 18446744073709551616) (length-run both) l in
    let count = on.count in
    grind (arith, common_steps, nat_tests, few, count)) in
    grind (arith, common_steps, nat_tests, never)
