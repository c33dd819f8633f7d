use Rattle.std.proofs.Common.{◌≡◌, ◌∙◌, ◌+◌, ◌-◌, ◌≤◌, ap, sym, arith}
use Rattle.std.specs.Prelude.{filter}
use Rattle.std.proofs.lemmas.Grind.{common_steps}
use Rattle.std.proofs.lemmas.Bool.Decides.{nat_tests}
use Rattle.ttm_base.specs.Fences.{named_job}
use Rattle.journal_model.specs.code.JobRuns.{jobs_of_run}
use Rattle.journal_model.specs.rules.Waits.{is_unfinished}
use Rattle.rules_holds.proofs.RunJobs.{last_named, last_passed_over, none_open}
use Rattle.rules_holds.proofs.waits.last_open_from.Goals as goal

pub returns-then-is_open : goal.returns-then-is_open
returns-then-is_open c =
    let test = is_unfinished c.args.core.now in
    let sum : c.loop-left.left ≡ c.loop-left.left - 1 + 1 = grind (arith, nat_tests, common_steps) in
    let named = last_named test c.args.run.ctx c.args.run.first (c.loop-left.left - 1) (sym c.is_open.ensures ∙ c.if-is_open.true) in
    sym (c.loop-left.invariant.0 ∙ ap (λ k. named_job (filter test (jobs_of_run (record c.args.run { count = k })))) sum ∙ named)

pub loop-left-preserved : goal.loop-left-preserved
loop-left-preserved c =
    let test = is_unfinished c.args.core.now in
    let sum : c.loop-left.left ≡ c.loop-left.left - 1 + 1 = grind (arith, nat_tests, common_steps) in
    let passed = last_passed_over test c.args.run.ctx c.args.run.first (c.loop-left.left - 1) (sym c.is_open.ensures ∙ c.if-is_open.false) in
    let within = c.loop-left.invariant.1 in
    (c.loop-left.invariant.0 ∙ ap (λ k. named_job (filter test (jobs_of_run (record c.args.run { count = k })))) sum ∙ ap named_job passed, omega arith)

pub returns : goal.returns
returns c =
    let below : c.loop-left.left ≤ c.args.least - c.args.run.first = grind (arith, nat_tests, common_steps) in
    let none = none_open c.args.core.now c.args.least c.args.run.ctx c.args.run.first c.loop-left.left c.requires.least below in
    sym (c.loop-left.invariant.0 ∙ ap named_job none)
