use Rattle.std.proofs.Common.{◌≡◌, ◌++◌, take, drop, ap, ◌<◌, length, arith, ◌∙◌, true, if◌then◌else◌}
use Rattle.std.proofs.Math.ListN.{length-set}
use Rattle.std.proofs.lemmas.Grind.{common_steps}
use Rattle.std.proofs.lemmas.Bool.Decides.{nat_tests}
use Rattle.journal_model.specs.rules.ApplyJobs.{changed_job}
use Rattle.journal_model.proofs.RowLaws.{changed_parts}
use Rattle.journal_model.specs.rules.Waits.{same_job}
use Rattle.journal_model.proofs.ListSteps.{map_over_step}
use Rattle.journal_model.proofs.jobs.list.finish_between.Goals as goal

pub loop-i-preserved : goal.loop-i-preserved
loop-i-preserved c =
    let within : c.loop-i.i < length c.args.jobs.now = grind (arith, common_steps, nat_tests) in
    rw c.finish_named.ensures (map_over_step (λ j. if same_job c.args.id j.id then record j { finished = true } else j) _ _ _ _ within c.loop-i.invariant.0 c.get_mut.ensures.value, length-set _ _ _ ∙ c.loop-i.invariant.1)

pub returns : goal.returns
returns c =
    let at : c.loop-i.i ≡ c.args.end = grind (arith, common_steps, nat_tests) in
    let parts = changed_parts (λ j. record j { finished = true }) c.args.id c.args.jobs.now c.args.end c.requires.behind in
    c.loop-i.invariant.0 ∙ ap (λ n. changed_job (λ j. record j { finished = true }) c.args.id (take n c.args.jobs.now) ++ drop n c.args.jobs.now) at ∙ parts
