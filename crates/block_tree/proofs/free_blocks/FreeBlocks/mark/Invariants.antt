use Rattle.std.proofs.Common.{◌≡◌, ℕ, ◌-◌, ◌≤◌, max, length}
use Rattle.block_tree.specs.FreeSet.{is_free}
use Rattle.block_tree.specs.Masks.{is_marked}
use Rattle.block_tree.proofs.SpanLaws.{span}
use Rattle.block_tree.proofs.free_blocks.FreeBlocks.mark.Given as goal

abbrev pub invariant-loop-start : goal.invariant-loop-start
invariant-loop-start l = record {
  size : length l.self ≡ length l.fn.self;
  from : l.span.start ≤ l.start;
  to : l.start ≤ max l.span.start l.span.end;
  marked : (page : ℕ) → is_free l.self page ≡ is_marked (span l.span.start l.start) l.free (is_free l.fn.self page) page;
}

abbrev pub decreases-loop-start : goal.decreases-loop-start
decreases-loop-start l = l.span.end - l.start
