-- Entries in pieces of 16 pages.
use Rattle.std.specs.Prelude.{◌≡◌, ℕ, zero, suc, ◌+◌, ◌*◌, ◌/◌, ◌%◌, ◌<◌, ◌≤◌, List, [], ◌∷◌, Option, Some, None, length, option_and_then, slice_index}
use Rattle.std.specs.List.{slice_index_or}
use Rattle.ttm_base.specs.declared.PagePlace.{PagePlace}

-- the slot of a page that is `at` in the piece with this number; a piece that hasn't begun has the number 0
abbrev pub slot_in : ℕ → ℕ → Option ℕ
slot_in zero at = None
slot_in (suc k) at = Some (k * 16 + at)

-- the slot of a page, if its piece has begun
abbrev pub slot_of : List ℕ → ℕ → Option ℕ
slot_of begun page = slot_in (slice_index begun (page / 16)) (page % 16)

-- the entry of a page
abbrev pub entry_at : List ℕ → List (Option PagePlace) → ℕ → Option PagePlace
entry_at begun slots page = option_and_then (λ at. slice_index_or slots at None) (slot_of begun page)

-- the entries of the pages from `start` on; the last argument is how many there are
abbrev pub entries_from : List ℕ → List (Option PagePlace) → ℕ → ℕ → List (Option PagePlace)
entries_from begun slots start zero = []
entries_from begun slots start (suc n) = entry_at begun slots start ∷ entries_from begun slots (start + 1) n

-- how many pieces have begun
abbrev pub count_begun : List ℕ → ℕ
count_begun [] = 0
count_begun (zero ∷ numbers) = count_begun numbers
count_begun (suc k ∷ numbers) = suc (count_begun numbers)

-- there are pieces for all pages and room for all pieces, and those that have begun have slots of their own
pub record HasPieces (begun : List ℕ) (slots : List (Option PagePlace)) (pages capacity : ℕ) : Type 0 where
  pub rows : pages ≤ length begun * 16
  pub few : length begun < 4294967296
  pub full : length slots ≡ count_begun begun * 16
  pub room : length begun * 16 ≤ capacity
  pub inside : (r : ℕ) → slice_index begun r ≤ count_begun begun
  pub apart : (r s : ℕ) → slice_index begun r ≡ slice_index begun s → 0 < slice_index begun r → r ≡ s
