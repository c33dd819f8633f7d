use Rattle.std.proofs.Common.{◌≡◌, ℕ, ◌<◌, length, get_or}
use Rattle.std.specs.Prelude.{bit_xor}
use Rattle.plain_memory.proofs.memory.xored.Given as goal

abbrev pub invariant-loop-i : goal.invariant-loop-i
invariant-loop-i l = (length l.bytes ≡ l.i) × ((k : ℕ) → k < l.i → get_or l.bytes k 0 ≡ bit_xor (get_or l.other k 0) (get_or l.one k 0))
