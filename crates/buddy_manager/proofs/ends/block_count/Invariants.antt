use Rattle.std.proofs.Common.{◌≡◌, ◌+◌, ◌≤◌, length, drop}
use Rattle.buddy_manager.specs.Held.{held_from}
use Rattle.buddy_manager.proofs.ends.block_count.Given as goal

abbrev pub invariant-loop-start : goal.invariant-loop-start
invariant-loop-start l =
    record {
      few : l.count ≤ l.start;
      counted : l.count + length (held_from l.start (drop l.start l.ends)) ≡ length (held_from 0 l.ends);
    }
