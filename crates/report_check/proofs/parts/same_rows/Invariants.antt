use Rattle.std.proofs.Common.{◌≡◌, length}
use Rattle.std.specs.Prelude.{take}
use Rattle.report_check.proofs.parts.same_rows.Given as goal

-- as many, and the same so far
abbrev pub invariant-loop-i : goal.invariant-loop-i
invariant-loop-i l = (length l.a ≡ length l.b) × (take l.i l.a ≡ take l.i l.b)
