use Rattle.std.proofs.Common.{◌≡◌, ◌+◌, length}
use Rattle.ttm_base.specs.BuddyChoice.{log2, free_order}
use Rattle.rules_choice.specs.Marks.{marked}
use Rattle.rules_choice.proofs.blocks.FreePages.free_order.Given as goal

abbrev pub invariant-loop-left : goal.invariant-loop-left
invariant-loop-left l =
    record {
      sum : l.whole + l.left ≡ l.initial.whole + log2 (length l.self.marks.items);
      same :
          free_order (marked l.self.marks.items) (length l.self.marks.items) l.page l.whole l.left
          ≡ free_order (marked l.self.marks.items) (length l.self.marks.items) l.page l.initial.whole (log2 (length l.self.marks.items));
    }

abbrev pub decreases-loop-left : goal.decreases-loop-left
decreases-loop-left l = l.left
