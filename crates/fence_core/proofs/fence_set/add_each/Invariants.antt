use Rattle.std.proofs.Common.{◌≡◌, take, drop}
use Rattle.fence_core.specs.Fences.{all_added}
use Rattle.fence_core.proofs.fence_set.add_each.Given as goal

-- the contexts so far are done, and the others as they were
abbrev pub invariant-loop-i : goal.invariant-loop-i
invariant-loop-i l = record {
  done : take l.i l.set ≡ all_added l.usage (take l.i l.fn.set) (take l.i l.others);
  others : drop l.i l.set ≡ drop l.i l.fn.set;
}
