use Rattle.std.proofs.Common.{◌≡◌, length}
use Rattle.page_accounts.specs.Amounts.{counted}
use Rattle.page_accounts.proofs.Adding.{held_by, left_by}
use Rattle.room_accounts.proofs.accounts_of.Given as goal

abbrev pub invariant-loop-i : goal.invariant-loop-i
invariant-loop-i l = l.accounts ≡ counted (held_by l.parts.bos.buffers l.i) (λ _. 0)

abbrev pub invariant-loop-holder : goal.invariant-loop-holder
invariant-loop-holder l =
    l.accounts ≡ counted (held_by l.parts.bos.buffers (length l.parts.bos.buffers)) (left_by (λ r. r.vram) (λ r. r.tt) (λ r. length r.frames) l.parts.ghosts l.holder-index)
