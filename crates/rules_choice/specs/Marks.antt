-- A mark for each page of a manager.
use Rattle.std.specs.Prelude.{◌≡◌, ℕ, ◌+◌, ◌*◌, ◌/◌, ◌^◌, ◌<◌, ◌≤◌, Bool, false, List, length, slice_index_or, ◌&&◌, not}
use Rattle.ttm_base.specs.declared.Span.{Span}
use Rattle.ttm_base.specs.Holes.{has_page}

-- the page is marked; pages past the marks are not
abbrev pub marked : List Bool → ℕ → Bool
marked marks page = slice_index_or marks page false

-- the marks tell of each page below size whether it passes the test
pub record IsMarked (test : ℕ → Bool) (size : ℕ) (marks : List Bool) : Type 0 where
  pub len : length marks ≡ size
  pub same : (page : ℕ) → page < size → marked marks page ≡ test page

-- the mark of a page between two is not this one
pub record IsOther (marks : List Bool) (mark : Bool) (start end page : ℕ) : Type 0 where
  pub from : start ≤ page
  pub to : page < end
  pub other : marked marks page ≡ not mark

-- the block of an order around a page ends within the marks, and all its pages have the mark of that page
pub record AreAlike (marks : List Bool) (order page : ℕ) : Type 0 where
  pub end : page / 2 ^ order * 2 ^ order + 2 ^ order ≤ length marks
  pub same : (x : ℕ) → x / 2 ^ order ≡ page / 2 ^ order → marked marks x ≡ marked marks page

-- the marks without those of a span's pages
pub record IsWithout (marks : List Bool) (span : Span) (rest : List Bool) : Type 0 where
  pub len : length rest ≡ length marks
  pub taken : (page : ℕ) → marked rest page ≡ (marked marks page && not (has_page page span))
