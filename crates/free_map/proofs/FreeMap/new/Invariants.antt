use Rattle.std.proofs.Common.{◌≡◌, ℕ, ◌<◌, Bool, true, length, get_or}
use Rattle.free_map.proofs.FreeMap.new.Given as goal

-- the numbers so far are free
abbrev pub invariant-loop-number : goal.invariant-loop-number
invariant-loop-number l = record {
  size : length l.numbers ≡ l.len;
  free : (k : ℕ) (d : Bool) → k < l.number → get_or l.numbers k d ≡ true;
}
