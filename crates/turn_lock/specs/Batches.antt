-- The budget of a batch of turns.
use Rattle.std.specs.Prelude.{◌≡◌, ℕ, ◌-◌, ◌≤◌, ◌⊎◌, Option, Some}
use Rattle.turn_lock.specs.declared.batch.Batch.{Batch}

-- a batch begins with a budget of 1 to 64
pub record Begins (batch : Batch) : Type 0 where
  pub some : 1 ≤ batch.left
  pub few : batch.left ≤ 64

-- the caller's own batch continues, or another one begins
abbrev pub Resumes : Option Batch → Batch → Type 0
Resumes before batch = (before ≡ Some batch) ⊎ Begins batch

-- the same batch with less of its budget, down to 0 at least
abbrev pub charged : Batch → ℕ → Batch
charged batch cost = record batch { left = batch.left - cost }
