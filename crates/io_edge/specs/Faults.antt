-- How the count of faults grows.
use Rattle.std.specs.Prelude.{ℕ, ◌+◌, ◌-◌, ◌^◌, min, is_ok, Result, if◌then◌else◌}

-- one more; a count of 64 bits stays at its greatest number
abbrev pub one_more : ℕ → ℕ
one_more n = min (n + 1) (2 ^ 64 - 1)

-- the count after a call: one more if the call failed
abbrev pub faults_after : {T E : Type 0} → Result T E → ℕ → ℕ
faults_after r faults = if is_ok r then faults else one_more faults
