use Rattle.std.proofs.Common.{◌≡◌, ◌-◌, ◌≤◌, length, take}
use Rattle.room_representation.specs.steps.Lent.{as_buffer}
use Rattle.room_jobs.specs.Writes.{HasPut}
use Rattle.room_jobs.proofs.writes.put.Given as goal

abbrev pub invariant-loop-done : goal.invariant-loop-done
invariant-loop-done l =
    (l.done ≤ length l.bytes) × HasPut (as_buffer l.bo) l.fn.off (take l.done l.bytes) l.initial.stores l.stores × (length l.stores.vram ≡ length l.initial.stores.vram) × (length l.stores.frames ≡ length l.initial.stores.frames)

abbrev pub decreases-loop-done : goal.decreases-loop-done
decreases-loop-done l = length l.bytes - l.done
