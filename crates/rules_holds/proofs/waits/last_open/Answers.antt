use Rattle.std.proofs.Common.{◌≡◌, ◌∙◌, ◌<◌, Some, ap, sym, subst, arith}
use Rattle.std.proofs.lemmas.Bool.Decides.{nat_tests}
use Rattle.journal_model.specs.declared.job_ids.JobRun.{JobRun}
use Rattle.journal_model.specs.code.JobRuns.{jobs_of_run}
use Rattle.journal_model.specs.rules.Waits.{unfinished}
use Rattle.rules_holds.proofs.RunJobs.{last_named_behind}
use Rattle.rules_holds.proofs.waits.last_open.Goals as goal

pub returns-then-are_last-clause-named : goal.returns-then-are_last-clause-named
returns-then-are_last-clause-named c =
    let some : 0 < c.args.run.count = grind (arith, nat_tests) in
    let alone = subst (λ r. unfinished c.args.core.now (jobs_of_run r) ≡ jobs_of_run r) c.behind-last.ensures (c.are_last.ensures c.if-are_last.true) in
    let named = last_named_behind c.args.core.now c.args.run some alone in
    ap (λ (r : JobRun). Some (record { ctx = r.ctx; num = r.first })) c.behind-last.ensures ∙ sym named
