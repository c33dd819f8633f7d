use Rattle.std.proofs.Common.{◌≡◌, take, drop}
use Rattle.byte_store.specs.Parts.{xored}
use Rattle.byte_store.proofs.slots.xor_slices.Given as goal

-- the bytes so far are done, and the others as they were
abbrev pub invariant-loop-i : goal.invariant-loop-i
invariant-loop-i l = record {
  done : take l.i l.to ≡ xored (take l.i l.fn.to) (take l.i l.from);
  others : drop l.i l.to ≡ drop l.i l.fn.to;
}
