use Rattle.std.proofs.Common.{ℕ, ◌/◌, ◌<◌, ◌≤◌, false, length}
use Rattle.bit_set.specs.Words.{IsBitTree}
use Rattle.bit_set.proofs.BitLaws.{IsPutBelow}
use Rattle.bit_set.proofs.words.clear_bit.Given as goal

abbrev pub invariant-loop-next : goal.invariant-loop-next
invariant-loop-next l = record {
  within : l.next / 64 < length l.words;
  put : (first : ℕ) → first ≤ l.place → IsBitTree first l.fn.words → IsPutBelow first l.place l.next false l.fn.words l.words;
}

abbrev pub decreases-loop-next : goal.decreases-loop-next
decreases-loop-next l = l.next
