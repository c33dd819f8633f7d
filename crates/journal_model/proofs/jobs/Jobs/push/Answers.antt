use Rattle.std.proofs.Common.{◌≡◌, ◌∙◌, ◌<◌, ◌++◌, ◌∷◌, [], Bool, true, false, take, sym, subst, arith}
use Rattle.std.specs.Prelude.{not}
use Rattle.std.proofs.lemmas.Grind.{common_steps}
use Rattle.std.specs.List.{list_any}
use Rattle.journal_model.specs.rules.JobNames.{same_job}
use Rattle.journal_model.specs.code.Jobs.{IsSplit, AreKept, ends_open}
use Rattle.journal_model.proofs.SplitJobs.{split_pushed, bounded_pushed}
use Rattle.journal_model.proofs.RowLaws.{open_pushed}
use Rattle.journal_model.proofs.jobs.Jobs.push.Goals as goal

pub invariant_of-self-2 : goal.invariant_of-self-2
invariant_of-self-2 c =
    let split = subst (λ jobs. IsSplit jobs c.closed_apart-self-inside.result) c.items.ensures c.closed_apart-self-inside.ensures.split in
    let apart = subst (λ jobs. list_any (λ j. same_job c.args.job.id j.id) (take c.closed_apart-self-inside.result jobs) ≡ false) c.items.ensures c.closed_apart-self-inside.ensures.apart in
    let pushed = split_pushed c.self.inside.all c.closed_apart-self-inside.result c.args.job split apart in
    let bounded = bounded_pushed c.self.inside.greatest c.raise.new.greatest c.self.inside.all c.args.job c.raise.ensures.others c.raise.ensures.new c.self.invariant.bounded in
    let row = c.row_behind-row.ensures.row c.self.inside.all c.self.invariant.end in
    let ends = open_pushed c.self.inside.all c.args.job in
    let some : ends_open (c.self.inside.all ++ c.args.job ∷ []) ≡ true → 0 < c.row_behind-row.result.count = λ h. c.row_behind-row.ensures.some (last_open (sym ends ∙ h)) in
    subst (λ jobs. AreKept jobs c.closed_apart-self-inside.result c.raise.new.greatest c.row_behind-row.result) (sym c.in_ok-push.ensures.ok) (record { split = pushed; bounded = bounded; end = row; some = some })
  where
    last_open : {b : Bool} → not b ≡ true → b ≡ false
    last_open h = grind (arith, common_steps)
