use Rattle.std.proofs.Common.{◌≡◌, All, length}
use Rattle.turn_lock.specs.Locks.{lock_id}
use Rattle.turn_lock.specs.Turning.{IsOnward, IsFree}
use Rattle.worker_pool.proofs.crowd.joined_by.Given as goal

abbrev pub invariant-loop-back : goal.invariant-loop-back
invariant-loop-back g l = record {
  onward : IsOnward l.initial.pass l.pass;
  own : All (λ b. b.1.table_id ≡ lock_id l.turns) l.backs.items;
  free : All (λ b. IsFree b.1) l.backs.items;
}

abbrev pub decreases-loop-back : goal.decreases-loop-back
decreases-loop-back g l = length l.backs.items
