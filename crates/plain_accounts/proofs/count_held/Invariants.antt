use Rattle.std.proofs.Common.{◌≡◌, length}
use Rattle.page_accounts.specs.Amounts.{counted}
use Rattle.page_accounts.proofs.Adding.{held_by, left_by}
use Rattle.plain_accounts.proofs.count_held.Given as goal

abbrev pub invariant-loop-slot : goal.invariant-loop-slot
invariant-loop-slot l = l.accounts ≡ counted (held_by l.core.buffers l.slot-index) (λ _. 0)

abbrev pub invariant-loop-left : goal.invariant-loop-left
invariant-loop-left l =
    l.accounts ≡ counted (held_by l.core.buffers (length l.core.buffers)) (left_by (λ r. r.vram) (λ r. r.tt) (λ r. length r.frames) l.core.ghosts l.left-index)
