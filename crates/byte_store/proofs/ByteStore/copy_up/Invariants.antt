use Rattle.std.proofs.Common.{◌≡◌, ◌+◌, ◌-◌, ◌≤◌, length}
use Rattle.byte_store.specs.Parts.{overwritten, part}
use Rattle.byte_store.proofs.ByteStore.copy_up.Given as goal

-- the bytes after the first left ones are copied
abbrev pub invariant-loop-left : goal.invariant-loop-left
invariant-loop-left l = record {
  some : l.left ≤ l.len;
  after : l.self ≡ overwritten l.fn.self (l.to + l.left) (part l.fn.self (l.from + l.left) (l.len - l.left));
  size : length l.self ≡ length l.fn.self;
}

abbrev pub decreases-loop-left : goal.decreases-loop-left
decreases-loop-left l = l.left
