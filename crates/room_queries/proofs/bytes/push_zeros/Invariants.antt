use Rattle.std.proofs.Common.{◌≡◌, ◌++◌}
use Rattle.room_queries.specs.Bytes.{zeros}
use Rattle.room_queries.proofs.bytes.push_zeros.Given as goal

abbrev pub invariant-loop-i : goal.invariant-loop-i
invariant-loop-i l = l.out ≡ l.initial.out ++ zeros l._i
