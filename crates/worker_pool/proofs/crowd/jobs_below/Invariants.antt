use Rattle.std.proofs.Common.{◌≡◌, ◌≤◌, All}
use Rattle.turn_lock.specs.Locks.{lock_id}
use Rattle.turn_lock.specs.Turning.{IsSame, IsFree}
use Rattle.worker_pool.proofs.crowd.jobs_below.Given as goal

abbrev pub invariant-loop-worker : goal.invariant-loop-worker
invariant-loop-worker g l = record {
  same : IsSame l.initial.pass l.pass × (l.pass.me ≡ l.initial.pass.me);
  own : All (λ j. j.1.table_id ≡ lock_id l.turns) l.jobs.items;
  free : All (λ j. IsFree j.1) l.jobs.items;
  actor : All (λ j. (1 ≤ j.0) × (j.0 ≤ l.count)) l.jobs.items;
}
