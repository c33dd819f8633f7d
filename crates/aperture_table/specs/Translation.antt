-- The translation that a list of frames stands for.
use Rattle.std.specs.Prelude.{ℕ, List, Option, None, slice_get, unwrap_or}

-- the frame of a page; a page past the end of the list isn't mapped
abbrev pub frame_at : List (Option ℕ) → ℕ → Option ℕ
frame_at frames page = unwrap_or (slice_get frames page) None
