-- After how many turns a run ends.
use Rattle.std.specs.Prelude.{◌≡◌, ℕ, ◌<◌, ◌≤◌, true, false, ◌⊎◌}
use Rattle.journal_model.specs.declared.script.Script.{Script}
use Rattle.journal_model.specs.statements.Complete.{is_complete}
use Rattle.journal_model.specs.statements.Scheduled.{scheduled}
pub use Rattle.device_core.specs.Kept.{Kept}

-- the journal isn't complete after any lesser number of turns
abbrev pub NotBefore : Script → ℕ → Type 0
NotBefore script n = (m : ℕ) → m < n → is_complete script (scheduled script m) ≡ false

-- `n` is the least number of turns that makes the journal complete, or all that are allowed
pub record EndsAfter (script : Script) (allowed n : ℕ) : Type 0 where
  pub not_before : NotBefore script n
  pub within : n ≤ allowed
  pub ends : (is_complete script (scheduled script n) ≡ true) ⊎ (n ≡ allowed)

-- the device stands where some number of turns leads, at most those allowed
pub record HasTaken (script : Script) (allowed : ℕ) (k : Kept) : Type 0 where
  pub turns : ℕ
  pub few : turns ≤ allowed
  pub stands : k ≡ record { script = script; journal = scheduled script turns }
