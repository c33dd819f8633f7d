use Rattle.std.proofs.Common.{◌≡◌, ◌-◌, ◌≤◌, length, take}
use Rattle.byte_store.specs.Parts.{overwritten}
use Rattle.byte_store.proofs.ByteStore.copy_page_part.Given as goal

-- the bytes so far are copied
abbrev pub invariant-loop-done : goal.invariant-loop-done
invariant-loop-done l = record {
  some : l.done ≤ length l.from;
  after : l.self ≡ overwritten l.fn.self l.to (take l.done l.from);
  size : length l.self ≡ length l.fn.self;
}

abbrev pub decreases-loop-done : goal.decreases-loop-done
decreases-loop-done l = length l.from - l.done
