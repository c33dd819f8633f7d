-- Mappings in rising order, of which no two have a page in common.
use Rattle.std.specs.Prelude.{ℕ, ◌<◌, ◌≤◌, List, [], ◌∷◌}
use Rattle.journal_model.specs.marks.Spaces.{Region}

-- each mapping begins at or past a page
abbrev pub IsPast : ℕ → List Region → Type 0
IsPast page [] = Unit {0}
IsPast page (r ∷ rs) = (page ≤ r.span.start) × IsPast page rs

-- each mapping ends at or below a page
abbrev pub EndsBy : ℕ → List Region → Type 0
EndsBy page [] = Unit {0}
EndsBy page (r ∷ rs) = (r.span.end ≤ page) × EndsBy page rs

-- each mapping has a page, and ends before the next begins
abbrev pub IsRising : List Region → Type 0
IsRising [] = Unit {0}
IsRising (r ∷ rs) = (r.span.start < r.span.end) × IsPast r.span.end rs × IsRising rs
