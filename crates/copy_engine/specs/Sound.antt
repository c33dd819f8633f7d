-- What holds of the fields of rings. No public clause cites this module.
use Rattle.std.specs.Prelude.{◌≡◌, ℕ, ◌<◌, ◌^◌, List, All, length}
use Rattle.copy_engine.specs.Pushes.{Pushed}

-- the waits of each job have this number of contexts
abbrev pub AreWide : ℕ → List Pushed → Type 0
AreWide contexts ring = All (λ (pushed : Pushed). length pushed.waits ≡ contexts) ring

-- the waits of each job have as many contexts as there are rings
pub record AreSound (rings : List (List Pushed)) : Type 0 where
  pub wide : All (AreWide (length rings)) rings
  pub few : length rings < 2 ^ 32
