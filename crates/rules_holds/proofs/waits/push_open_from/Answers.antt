use Rattle.std.proofs.Common.{◌≡◌, ◌∙◌, ◌++◌, ◌-◌, ◌≤◌, sym, subst, ap, arith}
use Rattle.std.specs.Prelude.{OnOk}
use Rattle.std.proofs.lemmas.Grind.{common_steps}
use Rattle.std.proofs.lemmas.Bool.Decides.{nat_tests}
use Rattle.journal_model.specs.code.JobRuns.{jobs_of_run, behind}
use Rattle.journal_model.specs.rules.Waits.{unfinished}
use Rattle.rules_holds.proofs.RunJobs.{none_open, open_behind}
use Rattle.rules_holds.proofs.waits.push_open_from.Goals as goal

pub returns-then-run-closed : goal.returns-then-run-closed
returns-then-run-closed c =
    let below : c.args.run.count ≤ c.args.least - c.args.run.first = grind (arith, nat_tests) in
    let none = none_open c.args.core.now c.args.least c.args.run.ctx c.args.run.first c.args.run.count c.requires.least below in
    grind (arith, common_steps, none)

pub returns-then-are_last : goal.returns-then-are_last
returns-then-are_last c =
    let all = c.are_last.ensures c.if-are_last.true in
    let some : c.args.least - c.args.run.first ≤ c.args.run.count = grind (arith, nat_tests) in
    let rest = ap (λ r. unfinished c.args.core.now (jobs_of_run r)) (c.behind-rest.ensures ∙ ap (λ n. behind n c.args.run) c.saturating_sub-closed.ensures) ∙ open_behind c.args.core.now c.args.least c.args.run c.requires.least some in
    subst (λ jobs. OnOk c.push_run.result (c.push_run.new.self ≡ c.args.jobs.now ++ jobs)) (sym all ∙ rest) c.push_run.ensures.ok

pub returns-else-are_last : goal.returns-else-are_last
returns-else-are_last c =
    let some : c.args.least - c.args.run.first ≤ c.args.run.count = grind (arith, nat_tests) in
    let rest = ap (λ r. unfinished c.args.core.now (jobs_of_run r)) (c.behind-rest.ensures ∙ ap (λ n. behind n c.args.run) c.saturating_sub-closed.ensures) ∙ open_behind c.args.core.now c.args.least c.args.run c.requires.least some in
    subst (λ jobs. OnOk c.push_each_open.result (c.push_each_open.new.jobs ≡ c.args.jobs.now ++ jobs)) rest c.push_each_open.ensures
