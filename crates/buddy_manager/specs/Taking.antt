-- Blocks that are taken one after the other, and given back.
use Rattle.std.specs.Prelude.{◌≡◌, ℕ, ◌^◌, ◌<◌, ◌≤◌, ◌&&◌, ◌||◌, Bool, true, false, List, [], ◌∷◌, not, nat_lt, length}
use Rattle.ttm_base.specs.declared.Span.{Span}
use Rattle.ttm_base.specs.Holes.{has_page, is_free_beside}
use Rattle.block_tree.specs.FreeSet.{is_free}
use Rattle.buddy_manager.specs.Held.{held_from, AllBy, IsApart, pages_of}

-- whether a page is free after the pages of a block were taken
abbrev pub less : (ℕ → Bool) → Span → ℕ → Bool
less f b page = f page && not (has_page page b)

abbrev pub beside : (ℕ → Bool) → List Span → ℕ → Bool
beside f [] = f
beside f (b ∷ bs) = beside (less f b) bs

-- each block has a page, ends within the size, and all its pages are free when it is taken
pub record CanTake (f : ℕ → Bool) (size : ℕ) (b : Span) : Type 0 where
  pub some : b.start < b.end
  pub within : b.end ≤ size
  pub free : (page : ℕ) → has_page page b ≡ true → f page ≡ true

abbrev pub AreTaken : (ℕ → Bool) → ℕ → List Span → Type 0
AreTaken f size [] = Unit {0}
AreTaken f size (b ∷ bs) = CanTake f size b × AreTaken (less f b) size bs

-- whether a page is free after the pages of a block were given back
abbrev pub more : (ℕ → Bool) → Span → ℕ → Bool
more f b page = f page || has_page page b

-- each block ends within the size, and none of its pages is free when it is given back
pub record CanGive (f : ℕ → Bool) (size : ℕ) (b : Span) : Type 0 where
  pub within : b.end ≤ size
  pub held : (page : ℕ) → has_page page b ≡ true → f page ≡ false

abbrev pub AreGiven : (ℕ → Bool) → ℕ → List Span → Type 0
AreGiven f size [] = Unit {0}
AreGiven f size (b ∷ bs) = CanGive f size b × AreGiven (more f b) size bs

-- the test tells which of the pages below the size are free
abbrev pub Tells : (ℕ → Bool) → List Bool → Type 0
Tells test marks = (page : ℕ) → page < length marks → test page ≡ is_free marks page

-- the marks after blocks were taken
pub record IsTakenBy (before : List Bool) (taken : List Span) (after : List Bool) : Type 0 where
  pub size : length after ≡ length before
  pub marks : (page : ℕ) → is_free after page ≡ beside (is_free before) taken page
  pub each : AreTaken (is_free before) (length before) taken

-- both sets of marks are the same
pub record IsSame (before after : List Bool) : Type 0 where
  pub size : length after ≡ length before
  pub marks : (page : ℕ) → is_free after page ≡ is_free before page

-- the marks, the ends and the count of held pages fit together
pub record IsManaged (marks : List Bool) (ends : List ℕ) (used : ℕ) : Type 0 where
  pub size : length ends ≡ length marks
  pub small : length marks < 2 ^ 31
  pub free : (page : ℕ) → is_free marks page ≡ (nat_lt page (length marks) && is_free_beside (held_from 0 ends) page)
  pub apart : IsApart (held_from 0 ends)
  pub within : AllBy (length marks) (held_from 0 ends)
  pub count : used ≡ pages_of (held_from 0 ends)
