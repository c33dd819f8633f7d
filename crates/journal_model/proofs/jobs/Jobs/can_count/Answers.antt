use Rattle.std.proofs.Common.{◌≡◌, false, take, drop, arith, subst}
use Rattle.std.proofs.lemmas.Grind.{common_steps}
use Rattle.std.specs.List.{list_any}
use Rattle.journal_model.specs.rules.JobNames.{same_job}
use Rattle.journal_model.proofs.RowLaws.{left_between}
use Rattle.journal_model.proofs.jobs.Jobs.can_count.Goals as goal

pub returns : goal.returns
returns c =
    let before = subst (λ jobs. list_any (λ j. same_job c.args.id j.id) (take c.start_of-start.result jobs) ≡ false) c.items.ensures c.start_of-start.ensures.apart in
    let after = subst (λ jobs. list_any (λ j. same_job c.args.id j.id) (drop c.end_of-end.result jobs) ≡ false) c.items-2.ensures c.end_of-end.ensures.apart in
    let left = left_between c.self.inside.all c.args.id c.start_of-start.result c.end_of-end.result c.end_of-end.ensures.from before after in
    grind (arith, common_steps, left)
