use Rattle.std.proofs.Common.{◌≡◌, ◌-◌, ◌+◌, ◌≤◌}
use Rattle.manager_walk.specs.Cutting.{grown}
use Rattle.manager_walk.proofs.blocks.grown.Given as goal

abbrev pub invariant-loop-time : goal.invariant-loop-time
invariant-loop-time l =
    record {
      same : grown (l.times - l._time) l.from l.to l.size ≡ grown l.times l.from l.to 1;
      some : 1 ≤ l.size;
      most : l.from + l.size ≤ l.to;
    }
