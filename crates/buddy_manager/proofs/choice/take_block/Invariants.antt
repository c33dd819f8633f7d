use Rattle.std.proofs.Common.{◌≡◌, ℕ, ◌≤◌, Bool, length}
use Rattle.ttm_base.specs.BuddyChoice.{candidate, first_candidate}
use Rattle.buddy_manager.specs.Taking.{Tells}
use Rattle.buddy_manager.proofs.choice.take_block.Given as goal

abbrev pub invariant-loop-order : goal.invariant-loop-order
invariant-loop-order l =
    record {
      most : l.order ≤ l.orders;
      kept : l.free ≡ l.initial.free;
      same : (test : ℕ → Bool) → Tells test l.initial.free → first_candidate (candidate test (length l.initial.free) l.range l.topdown) l.order ≡ first_candidate (candidate test (length l.initial.free) l.range l.topdown) l.orders;
    }

abbrev pub decreases-loop-order : goal.decreases-loop-order
decreases-loop-order l = l.order
