-- Pieces that are lines.
use Rattle.std.specs.Prelude.{ℕ, Bool, false, List, [], ◌∷◌, not, ◌==◌, ◌&&◌}

-- whether the piece ends with a line feed, and has no other
abbrev pub is_line : List ℕ → Bool
is_line [] = false
is_line (b ∷ []) = b == 10
is_line (b ∷ c ∷ bs) = not (b == 10) && is_line (c ∷ bs)
