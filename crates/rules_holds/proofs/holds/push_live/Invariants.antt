use Rattle.std.proofs.Common.{◌≡◌, ◌++◌, take}
use Rattle.std.specs.Prelude.{flat_map}
use Rattle.rules_holds.specs.Held.{spans_of_slot}
use Rattle.rules_holds.proofs.holds.push_live.Given as goal

abbrev pub invariant-loop-slot : goal.invariant-loop-slot
invariant-loop-slot l = l.spans ≡ l.initial.spans ++ flat_map (spans_of_slot l.mem) (take l.slot-index l.buffers)
