-- What holds of the parts of a manager.
use Rattle.std.specs.Prelude.{◌≡◌, ℕ, ◌+◌, ◌^◌, ◌<◌, ◌≤◌, ◌&&◌, false, List, [], ◌∷◌, nat_lt, length}
use Rattle.std.specs.List.{list_any}
use Rattle.ttm_base.specs.declared.Span.{Span}
use Rattle.ttm_base.specs.Holes.{has_page, is_free_beside}
use Rattle.hole_tree.specs.HoleSet.{HoleSet}
use Rattle.range_manager.specs.Held.{held_spans, pages_of}

-- each span begins at a page or above it
abbrev pub AllFrom : ℕ → List Span → Type 0
AllFrom n [] = Unit {0}
AllFrom n (s ∷ ss) = (n ≤ s.start) × AllFrom n ss

-- each span ends at a page or below it
abbrev pub AllBy : ℕ → List Span → Type 0
AllBy n [] = Unit {0}
AllBy n (s ∷ ss) = (s.end ≤ n) × AllBy n ss

-- each span has a page, and there are at least `gap` pages between it and the next
abbrev pub IsSpaced : ℕ → List Span → Type 0
IsSpaced gap [] = Unit {0}
IsSpaced gap (s ∷ ss) = (s.start < s.end) × AllFrom (s.end + gap) ss × IsSpaced gap ss

-- no span has a page of this one, or of the pages beside it
abbrev pub IsClear : ℕ → Span → List Span → Type 0
IsClear gap s ss = (page : ℕ) → s.start ≤ page + gap → page < s.end + gap → list_any (has_page page) ss ≡ false

-- the holes have the free pages, and there are nodes for those that come up when spans are released
pub record IsManaged (holes : HoleSet) (ends : List ℕ) (used count : ℕ) : Type 0 where
  pub spaced : IsSpaced 1 holes.holes
  pub free : (page : ℕ) → list_any (has_page page) holes.holes ≡ (nat_lt page (length ends) && is_free_beside (held_spans 0 ends) page)
  pub spare : count ≤ holes.spare
  pub small : length ends < 2 ^ 32
  pub apart : IsSpaced 0 (held_spans 0 ends)
  pub within : AllBy (length ends) (held_spans 0 ends)
  pub pages : used ≡ pages_of (held_spans 0 ends)
  pub spans : count ≡ length (held_spans 0 ends)
