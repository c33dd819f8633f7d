-- Spans of pages that are held, in rising order.
use Rattle.std.specs.Prelude.{◌≡◌, ℕ, ◌+◌, ◌&&◌, Bool, true, false, List, [], ◌∷◌, nat_lt, if◌then◌else◌}
use Rattle.ttm_base.specs.declared.Span.{Span}
use Rattle.ttm_base.specs.Holes.{has_page, is_free_beside}
use Rattle.ttm_base.specs.Reach.{length_of}
use Rattle.hole_tree.specs.HoleSet.{with_hole}

-- what a manager is seen as: its number of pages, and the spans that are held
pub record Managed : Type 0 where
  pub size : ℕ
  pub held : List Span

-- the spans of a list that has for each page the end of the span that begins there; a page where no span begins has no end
-- above it
abbrev pub held_spans : ℕ → List ℕ → List Span
held_spans start [] = []
held_spans start (e ∷ es) = if nat_lt start e then record { start = start; end = e } ∷ held_spans (start + 1) es else held_spans (start + 1) es

-- the spans with one more at its position, if it has a page
abbrev pub with_span : Span → List Span → List Span
with_span s held = if nat_lt s.start s.end then with_hole s held else held

-- the number of pages of spans
abbrev pub pages_of : List Span → ℕ
pages_of [] = 0
pages_of (s ∷ ss) = length_of s + pages_of ss

-- whether there is such a page, and no held span has it
abbrev pub is_open : Managed → ℕ → Bool
is_open m page = nat_lt page m.size && is_free_beside m.held page

-- a page of the span is held, or is past the size
pub record HasTakenPage (m : Managed) (s : Span) : Type 0 where
  pub page : ℕ
  pub of : has_page page s ≡ true
  pub taken : is_open m page ≡ false
