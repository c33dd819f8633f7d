use Rattle.std.proofs.Common.{◌≡◌, ℕ, ◌-◌, ◌<◌, ◌≤◌, true, false, length, get_or}
use Rattle.rules_holds.proofs.free.set_front.Given as goal

abbrev pub invariant-loop-front : goal.invariant-loop-front
invariant-loop-front l = record { within : l.front ≤ length l.marks; set : (n : ℕ) → n < l.front → get_or l.marks n false ≡ true }

abbrev pub decreases-loop-front : goal.decreases-loop-front
decreases-loop-front l = length l.marks - l.front
