use Rattle.std.proofs.Common.{◌≡◌, ◌-◌, ◌≤◌, length}
use Rattle.byte_store.specs.Parts.{overwritten, part}
use Rattle.byte_store.proofs.ByteStore.copy_down.Given as goal

-- the bytes so far are copied
abbrev pub invariant-loop-done : goal.invariant-loop-done
invariant-loop-done l = record {
  some : l.done ≤ l.len;
  after : l.self ≡ overwritten l.fn.self l.to (part l.fn.self l.from l.done);
  size : length l.self ≡ length l.fn.self;
}

abbrev pub decreases-loop-done : goal.decreases-loop-done
decreases-loop-done l = l.len - l.done
