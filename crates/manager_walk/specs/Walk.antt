-- Held spans and holes by where they begin, as a caller walks over them.
use Rattle.std.specs.Prelude.{◌≡◌, ℕ, ◌<◌, ◌≤◌, ◌&&◌, Bool, true, false, List, Some, None, IsSome, nat_lt}
use Rattle.std.specs.List.{find}
use Rattle.ttm_base.specs.declared.Span.{Span}
use Rattle.ttm_base.specs.Holes.{has_page, is_free_beside}
use Rattle.hole_tree.specs.HoleSet.{starts_at}

-- no held span begins at one of the pages from `from` up to `to`
abbrev pub NoneFrom : List Span → ℕ → ℕ → Type 0
NoneFrom held from to = (page : ℕ) → from ≤ page → page < to → find (starts_at page) held ≡ None

-- `s` is the first held span that begins at page `low` or above it
pub record IsNextHeld (held : List Span) (low : ℕ) (s : Span) : Type 0 where
  pub above : low ≤ s.start
  pub is_held : find (starts_at s.start) held ≡ Some s
  pub first : NoneFrom held low s.start

-- the page is one of the manager's, and no held span has it
abbrev pub is_open : List Span → ℕ → ℕ → Bool
is_open held size page = nat_lt page size && is_free_beside held page

-- none of the pages from `from` up to `to` is free
abbrev pub NoneOpen : List Span → ℕ → ℕ → ℕ → Type 0
NoneOpen held size from to = (page : ℕ) → from ≤ page → page < to → is_open held size page ≡ false

-- `s` has the first free pages from page `low` on, up to where a held span begins or to the end
pub record IsNextHole (held : List Span) (size low : ℕ) (s : Span) : Type 0 where
  pub above : low ≤ s.start
  pub some : s.start < s.end
  pub free : (page : ℕ) → has_page page s ≡ true → is_open held size page ≡ true
  pub whole : s.end < size → IsSome (find (starts_at s.end) held)
  pub first : NoneOpen held size low s.start
