use Rattle.std.proofs.Common.{◌/◌, ◌-◌, ◌<◌, ◌^◌, length}
use Rattle.bit_set.proofs.BitWalks.{IsClimb, IsDescent}
use Rattle.bit_set.proofs.words.first_from.Given as goal

abbrev pub invariant-loop-bits : goal.invariant-loop-bits
invariant-loop-bits l = record { within : l.place / 64 < length l.words; small : l.bits < 2 ^ 64; climb : IsClimb l.first l.start l.words l.place l.bits }

abbrev pub decreases-loop-bits : goal.decreases-loop-bits
decreases-loop-bits l = l.place

abbrev pub invariant-loop-place : goal.invariant-loop-place
invariant-loop-place l = IsDescent l.first l.start l.words l.place

abbrev pub decreases-loop-place : goal.decreases-loop-place
decreases-loop-place l = l.first - l.place
