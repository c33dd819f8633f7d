-- Holes in rising order, of which no two overlap or touch.
use Rattle.std.specs.Prelude.{ℕ, ◌<◌, ◌≤◌, List, [], ◌∷◌}
use Rattle.ttm_base.specs.declared.Span.{Span}

-- each begins past a page
abbrev pub IsPast : ℕ → List Span → Type 0
IsPast page [] = Unit {0}
IsPast page (x ∷ xs) = (page < x.start) × IsPast page xs

-- each ends before the next begins
abbrev pub IsRising : List Span → Type 0
IsRising [] = Unit {0}
IsRising (x ∷ xs) = (x.start ≤ x.end) × IsPast x.end xs × IsRising xs

-- each ends at or below a page
abbrev pub EndsBy : ℕ → List Span → Type 0
EndsBy last [] = Unit {0}
EndsBy last (x ∷ xs) = (x.end ≤ last) × EndsBy last xs
