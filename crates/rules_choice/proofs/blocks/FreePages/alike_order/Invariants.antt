use Rattle.std.proofs.Common.{◌≡◌, ◌+◌, ◌<◌, ◌≤◌, length}
use Rattle.ttm_base.specs.BuddyChoice.{log2}
use Rattle.rules_choice.specs.Marks.{AreAlike}
use Rattle.rules_choice.proofs.blocks.FreePages.alike_order.Given as goal

abbrev pub invariant-loop-left : goal.invariant-loop-left
invariant-loop-left l =
    record {
      sum : l.whole + l.left ≡ l.initial.whole + log2 (length l.self.marks.items);
      least : l.order ≤ l.whole;
      alike : l.order < l.whole → AreAlike l.self.marks.items l.whole l.page;
    }

abbrev pub decreases-loop-left : goal.decreases-loop-left
decreases-loop-left l = l.left
