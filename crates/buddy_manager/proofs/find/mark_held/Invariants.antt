use Rattle.std.proofs.Common.{◌≡◌, ℕ, length, take}
use Rattle.block_tree.specs.FreeSet.{is_free}
use Rattle.buddy_manager.specs.Taking.{beside}
use Rattle.buddy_manager.proofs.find.mark_held.Given as goal

abbrev pub invariant-loop-block : goal.invariant-loop-block
invariant-loop-block l =
    record {
      size : length l.free ≡ length l.initial.free;
      held : (page : ℕ) → is_free l.free page ≡ beside (is_free l.initial.free) (take l.block-index l.blocks) page;
    }
