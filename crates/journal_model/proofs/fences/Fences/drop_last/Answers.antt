use Rattle.std.proofs.Common.{◌≡◌, ◌+◌, ◌-◌, ◌<◌, ◌≤◌, true, length, take, ap, ◌∙◌, arith}
use Rattle.std.specs.Prelude.{flat_map}
use Rattle.std.proofs.lemmas.Grind.{common_steps}
use Rattle.std.proofs.lemmas.Bool.Decides.{nat_tests}
use Rattle.journal_model.specs.code.JobRuns.{fences_of_run, is_whole}
use Rattle.journal_model.proofs.ListSteps.{passes_at}
use Rattle.journal_model.proofs.RunsLaws.{all_set, all_removed}
use Rattle.journal_model.proofs.JobRunLaws.{last_less, last_gone}
use Rattle.journal_model.proofs.fences.Fences.drop_last.Goals as goal

pub invariant_of-self : goal.invariant_of-self
invariant_of-self c =
    let run = passes_at is_whole c.self.inside.runs c.in-Some.last c.at-run.result c.self.invariant c.at-run.ensures in
    let more : 1 < c.at-run.result.jobs.count = grind (arith, nat_tests) in
    let less : is_whole (record c.at-run.result { jobs = record c.at-run.result.jobs { count = c.at-run.result.jobs.count - 1 } }) ≡ true = grind (arith, nat_tests) in
    let whole = all_set is_whole c.self.inside.runs c.in-Some.last
    (record c.at-run.result { jobs = record c.at-run.result.jobs { count = c.at-run.result.jobs.count - 1 } }) c.self.invariant less in
    grind (arith, common_steps, whole, c.set.ensures)

pub invariant_of-self-else-run-gt1 : goal.invariant_of-self-else-run-gt1
invariant_of-self-else-run-gt1 c =
    let whole = all_removed is_whole c.self.inside.runs c.in-Some.last c.self.invariant in
    grind (arith, common_steps, whole, c.remove.ensures.left)

pub returns-then-run-gt1 : goal.returns-then-run-gt1
returns-then-run-gt1 c =
    let last : c.in-Some.last + 1 ≡ length c.self.inside.runs = grind (arith, common_steps) in
    let more : 1 < c.at-run.result.jobs.count = grind (arith, nat_tests) in
    ap (flat_map fences_of_run) c.set.ensures ∙ last_less c.self.inside.runs c.in-Some.last c.at-run.result more last c.at-run.ensures ∙ ap (λ fences. take (length fences - 1) fences) c.self.view_is

pub returns-else-run-gt1 : goal.returns-else-run-gt1
returns-else-run-gt1 c =
    let run = passes_at is_whole c.self.inside.runs c.in-Some.last c.at-run.result c.self.invariant c.at-run.ensures in
    let last : c.in-Some.last + 1 ≡ length c.self.inside.runs = grind (arith, common_steps) in
    let few : c.at-run.result.jobs.count ≤ 1 = grind (arith, nat_tests) in
    ap (flat_map fences_of_run) c.remove.ensures.left ∙ last_gone c.self.inside.runs c.in-Some.last c.at-run.result run few last c.at-run.ensures ∙ ap (λ fences. take (length fences - 1) fences) c.self.view_is
