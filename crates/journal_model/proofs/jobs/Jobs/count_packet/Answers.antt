use Rattle.std.proofs.Common.{◌≡◌, ◌+◌, false, subst, take, drop}
use Rattle.std.specs.List.{list_any}
use Rattle.journal_model.specs.rules.JobNames.{same_job}
use Rattle.journal_model.proofs.SplitJobs.{split_counted, bounded_counted, others_same}
use Rattle.journal_model.proofs.RowLaws.{row_counted, open_counted}
use Rattle.journal_model.proofs.jobs.Jobs.count_packet.Goals as goal

pub count_between-requires-clause-closed : goal.count_between-requires-clause-closed
count_between-requires-clause-closed c = others_same (λ j. record j { ran = j.ran + 1 }) (take c.start_of-start.result c.self.inside.all) c.args.id (subst (λ jobs. list_any (λ j. same_job c.args.id j.id) (take c.start_of-start.result jobs) ≡ false) c.items.ensures c.start_of-start.ensures.apart)

pub count_between-requires-clause-behind : goal.count_between-requires-clause-behind
count_between-requires-clause-behind c = others_same (λ j. record j { ran = j.ran + 1 }) (drop c.end_of-end.result c.self.inside.all) c.args.id (subst (λ jobs. list_any (λ j. same_job c.args.id j.id) (drop c.end_of-end.result jobs) ≡ false) c.items-2.ensures c.end_of-end.ensures.apart)

pub invariant_of-self : goal.invariant_of-self
invariant_of-self c = rw c.count_between.ensures (record {
  split = split_counted c.self.inside.all c.self.inside.closed c.args.id c.self.invariant.split;
  bounded = bounded_counted c.self.inside.all c.self.inside.greatest c.args.id c.self.invariant.bounded;
  end = row_counted c.self.inside.all c.self.inside.row c.args.id c.self.invariant.end;
  some = λ h. c.self.invariant.some (open_counted c.args.id c.self.inside.all h);
})
