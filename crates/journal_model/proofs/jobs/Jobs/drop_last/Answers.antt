use Rattle.std.proofs.Common.{◌≡◌, ◌<◌, ◌≤◌, ◌-◌, true, length, arith, subst}
use Rattle.journal_model.specs.code.Jobs.{IsSplit, IsRow, ends_open}
use Rattle.journal_model.proofs.SplitJobs.{split_dropped, bounded_dropped}
use Rattle.journal_model.proofs.jobs.Jobs.drop_last.Goals as goal

pub invariant_of-self : goal.invariant_of-self
invariant_of-self c =
    let split = split_dropped c.self.inside.all c.closed_before-self-inside.result (omega arith) (subst (λ jobs. IsSplit jobs c.closed_before-self-inside.result) c.items.ensures c.closed_before-self-inside.ensures.split) (subst (λ jobs. c.closed_before-self-inside.result ≤ length jobs - 1) c.items.ensures c.closed_before-self-inside.ensures.before) in
    let bounded = bounded_dropped c.self.inside.greatest c.self.inside.all (omega arith) c.self.invariant.bounded in
    record {
      split = rw (c.remove.ensures.left, c.len-count.ensures) split;
      bounded = rw (c.remove.ensures.left, c.len-count.ensures) bounded;
      end = subst (λ jobs. IsRow jobs c.row_of_last-self-inside.result) c.items-then-count-gt0.ensures c.row_of_last-self-inside.ensures.row;
      some = subst (λ jobs. ends_open jobs ≡ true → 0 < c.row_of_last-self-inside.result.count) c.items-then-count-gt0.ensures c.row_of_last-self-inside.ensures.some;
    }
