use Rattle.std.proofs.Common.{◌≡◌, ℕ, ◌||◌, length, take}
use Rattle.std.specs.List.{list_any}
use Rattle.ttm_base.specs.Holes.{has_page}
use Rattle.block_tree.specs.FreeSet.{is_free}
use Rattle.buddy_manager.proofs.choice.free_spans.Given as goal

abbrev pub invariant-loop-span : goal.invariant-loop-span
invariant-loop-span l =
    record {
      size : length l.free ≡ length l.initial.free;
      freed : (page : ℕ) → is_free l.free page ≡ (is_free l.initial.free page || list_any (has_page page) (take l.span-index l.spans));
    }
