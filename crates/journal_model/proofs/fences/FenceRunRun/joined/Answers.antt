use Rattle.std.proofs.Common.{◌≡◌, ◌∙◌, ◌<◌, ◌++◌, length, sym, subst, arith}
use Rattle.std.proofs.lemmas.Grind.{common_steps}
use Rattle.std.proofs.lemmas.Bool.Decides.{nat_tests}
use Rattle.journal_model.specs.declared.fences.FenceRun.{FenceRun}
use Rattle.journal_model.specs.code.JobRuns.{fences_of_run}
use Rattle.journal_model.proofs.JobRunLaws.{FencesGoOn, fences_go_on, length-fences, length-run}
use Rattle.journal_model.proofs.fences.FenceRunRun.joined.Goals as goal

-- a run that has the items of both shows that the second goes on from the first
is_next : (one next both : FenceRun) → 0 < length (fences_of_run one) → 0 < length (fences_of_run next) → fences_of_run both ≡ fences_of_run one ++ fences_of_run next → FencesGoOn one next both
is_next one next both a b e = fences_go_on one next both (subst (λ n. 0 < n) (length-fences one) a) (subst (λ n. 0 < n) (length-fences next) b) e

pub returns-then-ne-clause-none : goal.returns-then-ne-clause-none
returns-then-ne-clause-none c = λ both a b l e. (
    let usage = (is_next c.args.self c.args.next both a b e).usage in
    grind (arith, common_steps, nat_tests, usage))

pub returns-in_err-jobs-clause-none : goal.returns-in_err-jobs-clause-none
returns-in_err-jobs-clause-none c =
    let never : (both : FenceRun) → 0 < length (fences_of_run c.args.self) → 0 < length (fences_of_run c.args.next) → length (fences_of_run both) < 18446744073709551616
    → fences_of_run both ≡ fences_of_run c.args.self ++ fences_of_run c.args.next → ⊥ =
    λ both a b l e. c.in_err-jobs.ensures.none both.jobs (subst (λ n. 0 < n) (length-fences c.args.self ∙ sym (length-run c.args.self.jobs)) a) (subst (λ n. 0 < n) (length-fences c.args.next ∙ sym (length-run c.args.next.jobs)) b)
    (subst (λ n. n < 18446744073709551616) (length-fences both ∙ sym (length-run both.jobs)) l) (is_next c.args.self c.args.next both a b e).jobs in
    grind (arith, common_steps, nat_tests, never)
