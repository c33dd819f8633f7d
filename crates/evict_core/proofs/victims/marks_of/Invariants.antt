use Rattle.std.proofs.Common.{◌≡◌, length, take}
use Rattle.evict_core.specs.Walks.{AreMarks}
use Rattle.evict_core.proofs.victims.marks_of.Given as goal

-- the buffers so far are marked
abbrev pub invariant-loop-b : goal.invariant-loop-b
invariant-loop-b l = (length l.marks ≡ 256) × AreMarks (take l.b-index l.skips) l.marks
