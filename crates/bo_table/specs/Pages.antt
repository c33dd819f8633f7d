-- The pages of a buffer: how many have a frame, the first one that has none, and the first one that has one.
use Rattle.std.specs.Prelude.{◌≡◌, ℕ, ◌<◌, ◌^◌, Bool, not, List, length}
use Rattle.std.specs.List.{filter_map, position_or_len}
use Rattle.ttm_base.specs.declared.Loc.{Loc}
use Rattle.journal_model.specs.rules.Places.{frame_of, is_frame}

-- a page with this place is to be filled
abbrev pub has_no_frame : Loc → Bool
has_no_frame l = not (is_frame l)

-- the number of pages that have a frame
abbrev pub frame_count : List Loc → ℕ
frame_count places = length (filter_map frame_of places)

-- the first page without a frame, or the number of pages where each has one
abbrev pub first_unfilled : List Loc → ℕ
first_unfilled places = position_or_len has_no_frame places

-- the first page with a frame, or the number of pages where none has one
abbrev pub first_filled : List Loc → ℕ
first_filled places = position_or_len is_frame places

-- the three numbers that are kept beside the places are right
pub record IsCounted (places : List Loc) (frames unfilled filled : ℕ) : Type 0 where
  pub frames_are : frames ≡ frame_count places
  pub unfilled_is : unfilled ≡ first_unfilled places
  pub filled_is : filled ≡ first_filled places
  pub short : length places < 2 ^ 32
