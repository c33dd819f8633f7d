use Rattle.std.proofs.Common.{◌≡◌, ◌-◌, ◌≤◌, length, take}
use Rattle.byte_store.specs.Parts.{overwritten, part, xored}
use Rattle.byte_store.proofs.ByteStore.xor_page_part.Given as goal

-- the bytes so far are replaced
abbrev pub invariant-loop-done : goal.invariant-loop-done
invariant-loop-done l = record {
  some : l.done ≤ length l.from;
  after : l.self ≡ overwritten l.fn.self l.to (xored (part l.fn.self l.to l.done) (take l.done l.from));
  size : length l.self ≡ length l.fn.self;
}

abbrev pub decreases-loop-done : goal.decreases-loop-done
decreases-loop-done l = length l.from - l.done
