use Rattle.std.proofs.Common.{◌≡◌, ℕ, ◌-◌, ◌≤◌, ◌⊎◌, Bool, true, false, length}
use Rattle.block_tree.specs.FreeSet.{is_free}
use Rattle.block_tree.specs.Pieces.{IsPiece}
use Rattle.buddy_manager.specs.Finding.{IsEven, IsLeft}
use Rattle.buddy_manager.proofs.find.find_free.Given as goal

abbrev pub invariant-loop-whole : goal.invariant-loop-whole
invariant-loop-whole l =
    record {
      order : l.order ≤ l.from;
      ends : (l.from ≡ l.order) ⊎ (IsEven false l.range (length l.free) l.from × IsEven true l.range (length l.free) l.from);
      bound : (h : ℕ → Bool) → IsLeft h (is_free l.free) (length l.free) l.range l.rests → (i u : ℕ) → IsPiece h (length l.free) l.range l.order u i → l.from ≤ u;
    }

abbrev pub decreases-loop-whole : goal.decreases-loop-whole
decreases-loop-whole l = 32 - l.from
