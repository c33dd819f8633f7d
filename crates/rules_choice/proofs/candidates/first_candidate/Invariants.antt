use Rattle.std.proofs.Common.{◌≡◌, ◌≤◌, length}
use Rattle.ttm_base.specs.BuddyChoice.{first_candidate, candidate}
use Rattle.rules_choice.specs.Marks.{marked}
use Rattle.rules_choice.proofs.candidates.first_candidate.Given as goal

abbrev pub invariant-loop-order : goal.invariant-loop-order
invariant-loop-order l =
    record {
      below : l.order ≤ l.orders;
      same :
          first_candidate (candidate (marked l.free.marks.items) (length l.free.marks.items) l.range l.topdown) l.orders
          ≡ first_candidate (candidate (marked l.free.marks.items) (length l.free.marks.items) l.range l.topdown) l.order;
    }

abbrev pub decreases-loop-order : goal.decreases-loop-order
decreases-loop-order l = l.order
