use Rattle.std.proofs.Common.{◌≡◌, ◌+◌}
use Rattle.turn_order.specs.Left.{others_from}
use Rattle.turn_order.proofs.asked.other_after.Given as goal

-- the threads in between have a ticket
abbrev pub invariant-loop-i : goal.invariant-loop-i
invariant-loop-i l = others_from l.script l.courses (l.last + 1) ≡ others_from l.script l.courses (l.i + 1)
