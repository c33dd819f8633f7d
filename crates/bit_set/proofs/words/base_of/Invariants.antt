use Rattle.std.proofs.Common.{◌≡◌, ℕ, ◌*◌, ◌≤◌, ◌-◌}
use Rattle.bit_set.specs.Words.{level_start}
use Rattle.bit_set.proofs.words.base_of.Given as goal

-- the first word of a level
abbrev pub invariant-loop-base : goal.invariant-loop-base
invariant-loop-base l = record { depth : ℕ; base_is : l.base ≡ level_start depth; small : l.base ≤ 2 * l.words }

abbrev pub decreases-loop-base : goal.decreases-loop-base
decreases-loop-base l = 2 * l.words - l.base
