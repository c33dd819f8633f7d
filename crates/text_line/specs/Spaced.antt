-- Words of a line, one after the other.
use Rattle.std.specs.Prelude.{ℕ, List, ◌∷◌, flat_map}
use Rattle.journal_model.specs.scripts.Words.{Text}

-- each word after a separator
abbrev pub behind_each : ℕ → List Text → Text
behind_each separator ws = flat_map (λ w. separator ∷ w) ws

-- each word after a space
abbrev pub spaced_out : List Text → Text
spaced_out ws = behind_each 32 ws
