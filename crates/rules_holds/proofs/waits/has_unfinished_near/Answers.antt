use Rattle.std.proofs.Common.{◌∙◌, sym, arith}
use Rattle.std.specs.Prelude.{◌&&◌, not}
use Rattle.std.proofs.lemmas.Grind.{common_steps}
use Rattle.journal_model.specs.declared.state.Job.{Job}
use Rattle.journal_model.specs.rules.JobNames.{same_job}
use Rattle.rules_holds.proofs.OpenJobs.{any_in_parts, found, none_found}
use Rattle.rules_holds.proofs.waits.has_unfinished_near.Goals as goal

pub returns-in-Some : goal.returns-in-Some
returns-in-Some c =
    let test = λ (j : Job). same_job c.args.i j.id && not j.finished in
    let parts = any_in_parts test c.args.jobs.now c.min-start.result in
    let behind = found test (c.split_at.result.1.now) c.in-Some.at (sym c.in-Some.is ∙ c.place_of.ensures) in
    let back = c.split_at.ensures.back in
    grind (arith, common_steps, parts, behind.1, back)

pub returns-in-Some-place_of : goal.returns-in-Some-place_of
returns-in-Some-place_of c =
    let test = λ (j : Job). same_job c.args.i j.id && not j.finished in
    let parts = any_in_parts test c.args.jobs.now c.min-start.result in
    let before = found test (c.split_at.result.0.now) c.in-Some-place_of.at (sym c.in-Some-place_of.is ∙ c.place_of-2.ensures) in
    let front = c.split_at.ensures.front in
    grind (arith, common_steps, parts, before.1, front)

pub returns : goal.returns
returns c =
    let test = λ (j : Job). same_job c.args.i j.id && not j.finished in
    let parts = any_in_parts test c.args.jobs.now c.min-start.result in
    let behind = none_found test (c.split_at.result.1.now) (sym c.in_default.is ∙ c.place_of.ensures) in
    let before = none_found test (c.split_at.result.0.now) (sym c.in_default-place_of.is ∙ c.place_of-2.ensures) in
    grind (arith, common_steps, parts, before, behind, c.split_at.ensures.front, c.split_at.ensures.back)
