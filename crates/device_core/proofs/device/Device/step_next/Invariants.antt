use Rattle.std.proofs.Common.{◌≡◌, length}
use Rattle.std.specs.Prelude.{find}
use Rattle.device_core.specs.Kept.{goes_on, left_in, next_actor}
use Rattle.device_core.proofs.device.Device.step_next.Given as goal

-- nobody that was asked has an entry
abbrev pub invariant-loop-who : goal.invariant-loop-who
invariant-loop-who l = (l.self ≡ l.fn.self) × (next_actor l.fn.self ≡ find (goes_on l.fn.self) (left_in l.fn.self l.order))

abbrev pub decreases-loop-who : goal.decreases-loop-who
decreases-loop-who l = length (left_in l.fn.self l.order)
