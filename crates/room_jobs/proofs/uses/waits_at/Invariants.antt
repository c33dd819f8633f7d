use Rattle.std.proofs.Common.{◌≡◌, length, replicate, take}
use Rattle.fence_core.specs.Fences.{nothing_kept}
use Rattle.room_jobs.specs.Uses.{with_waits}
use Rattle.room_jobs.proofs.uses.waits_at.Given as goal

abbrev pub invariant-loop-b : goal.invariant-loop-b
invariant-loop-b l = (l.waits ≡ with_waits l.ops l.bos.fences (replicate l.contexts nothing_kept) (take l.b-index l.bs)) × (length l.waits ≡ l.contexts)
