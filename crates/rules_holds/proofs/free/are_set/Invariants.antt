use Rattle.std.proofs.Common.{◌≡◌, ℕ, ◌<◌, ◌≤◌, true, false, get_or}
use Rattle.rules_holds.proofs.free.are_set.Given as goal

abbrev pub invariant-loop-n : goal.invariant-loop-n
invariant-loop-n l = l.all ≡ true → (k : ℕ) → l.fn.start ≤ k → k < l.n → get_or l.marks k false ≡ true
