-- What the errors of `read_all` say.
use Rattle.std.specs.Prelude.{◌≡◌, ℕ, ◌+◌, ◌≤◌, Result, Err}
use Rattle.io_edge.specs.declared.whole.ReadFault.{ReadFault}
use Rattle.io_edge.specs.declared.whole.ReadFault.TheVariants.{Failed, TooLong, NoMemory}
use Rattle.io_edge.specs.Faults.{one_more}

-- how many bytes were taken before the error: one more than the limit exactly where that is the reason
abbrev pub TookBefore : ReadFault → ℕ → ℕ → Type 0
TookBefore TooLong limit n = n ≡ limit + 1
TookBefore Failed limit n = n ≤ limit
TookBefore NoMemory limit n = n ≤ limit + 1

-- the count of faults after `read_all`: one more if the source failed, and only then
abbrev pub faults_after_all : {T : Type 0} → Result T ReadFault → ℕ → ℕ
faults_after_all (Err Failed) faults = one_more faults
faults_after_all r faults = faults
