use Rattle.std.proofs.Common.{◌≡◌, true, false, take, drop, subst}
use Rattle.std.specs.List.{list_any}
use Rattle.journal_model.specs.rules.JobNames.{same_job}
use Rattle.journal_model.specs.code.Jobs.{IsSplit, ends_open}
use Rattle.journal_model.proofs.SplitJobs.{split_finished, bounded_finished, finished_same, others_same}
use Rattle.journal_model.proofs.RowLaws.{open_finished}
use Rattle.journal_model.proofs.jobs.Jobs.finish.Goals as goal

pub finish_between-requires-clause-closed : goal.finish_between-requires-clause-closed
finish_between-requires-clause-closed c = finished_same (take c.self.inside.closed c.self.inside.all) c.args.id c.self.invariant.split.parts.done

pub finish_between-requires-clause-behind : goal.finish_between-requires-clause-behind
finish_between-requires-clause-behind c = others_same (λ j. record j { finished = true }) (drop c.end_of-end.result c.self.inside.all) c.args.id (subst (λ jobs. list_any (λ j. same_job c.args.id j.id) (drop c.end_of-end.result jobs) ≡ false) c.items.ensures c.end_of-end.ensures.apart)

pub closed_from-self-inside-requires-clause-split : goal.closed_from-self-inside-requires-clause-split
closed_from-self-inside-requires-clause-split c = rw (c.items-2.ensures, c.finish_between.ensures) (split_finished c.self.inside.all c.self.inside.closed c.args.id c.self.invariant.split)

pub invariant_of-self : goal.invariant_of-self
invariant_of-self c = record {
  split = subst (λ jobs. IsSplit jobs c.closed_from-self-inside.result) c.items-2.ensures c.closed_from-self-inside.ensures;
  bounded = rw c.finish_between.ensures (bounded_finished c.self.inside.all c.self.inside.greatest c.args.id c.self.invariant.bounded);
  end = rw c.finish_between.ensures (c.row_after-self-inside.ensures.row c.self.inside.all c.self.invariant.end);
  some = λ h. rw c.row_after-self-inside.ensures.left (open_finished c.self.inside.all c.self.inside.row c.args.id c.self.invariant.end c.self.invariant.some (subst (λ jobs. ends_open jobs ≡ true) c.finish_between.ensures h));
}
