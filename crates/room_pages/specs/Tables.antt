-- Frames that are given back along a page table, and the frame of a page.
use Rattle.std.specs.Prelude.{◌≡◌, ℕ, Bool, true, List, Option, Some, option_and_then, slice_get, take}
use Rattle.std.specs.List.{filter_map}
use Rattle.ttm_base.specs.declared.Loc.{Loc}
use Rattle.journal_model.specs.rules.Places.{frame_of}
use Rattle.room_representation.specs.lemma_bytes.GivenBack.{given_back}

-- each frame of the table is held when it is given back, after those before it
abbrev pub AreHeldInTurn : List Bool → List Loc → Type 0
AreHeldInTurn pool places = (i : ℕ) (l : Loc) (f : ℕ) → slice_get places i ≡ Some l → frame_of l ≡ Some f → slice_get (given_back pool (filter_map frame_of (take i places))) f ≡ Some true

-- the frame of a page, if it has one
abbrev pub frame_in : List Loc → ℕ → Option ℕ
frame_in places page = option_and_then frame_of (slice_get places page)
