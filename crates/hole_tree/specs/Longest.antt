-- The longest of some holes.
use Rattle.std.specs.Prelude.{ℕ, max, List, [], ◌∷◌}
use Rattle.ttm_base.specs.declared.Span.{Span}
use Rattle.ttm_base.specs.Reach.{length_of}

-- how long the longest is, or 0
abbrev pub longest : List Span → ℕ
longest [] = 0
longest (s ∷ ss) = max (length_of s) (longest ss)
