-- The holes of a range of pages, in rising order.
use Rattle.std.specs.Prelude.{ℕ, Bool, List, [], ◌∷◌, ◌||◌, ◌==◌, nat_lt, nat_le, not, filter, if◌then◌else◌}
use Rattle.ttm_base.specs.declared.Span.{Span}

-- the holes, and how many more may come before memory is taken
pub record HoleSet : Type 0 where
  pub holes : List Span
  pub spare : ℕ

-- two holes neither overlap nor touch
abbrev pub is_apart : Span → Span → Bool
is_apart a b = nat_lt a.end b.start || nat_lt b.end a.start

-- two spans have no page in common
abbrev pub is_disjoint : Span → Span → Bool
is_disjoint a b = nat_le a.end b.start || nat_le b.end a.start

-- a hole begins at a page
abbrev pub starts_at : ℕ → Span → Bool
starts_at start hole = hole.start == start

-- a hole ends at a page
abbrev pub ends_at : ℕ → Span → Bool
ends_at end hole = hole.end == end

-- a hole ends at a page or below it
abbrev pub ends_by : ℕ → Span → Bool
ends_by page hole = nat_le hole.end page

-- a hole ends past a page
abbrev pub ends_past : ℕ → Span → Bool
ends_past page hole = nat_lt page hole.end

-- the holes with one more in its place
abbrev pub with_hole : Span → List Span → List Span
with_hole x [] = x ∷ []
with_hole x (y ∷ ys) = if nat_lt x.start y.start then x ∷ y ∷ ys else y ∷ with_hole x ys

-- the holes but the one that begins at a page
abbrev pub without : ℕ → List Span → List Span
without start holes = filter (λ h. not (starts_at start h)) holes
