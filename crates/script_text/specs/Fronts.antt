-- The front of a line: its bytes before the line feed.
use Rattle.std.specs.Prelude.{ℕ, Bool, ◌&&◌, nat_lt, slice_get}
use Rattle.journal_model.specs.scripts.Words.{Text}
use Rattle.journal_model.specs.scripts.FirstFault.{is_line_feed}

-- some bytes are there, and a line feed comes after them
abbrev pub ends_at : Text → ℕ → Bool
ends_at text len = nat_lt 0 len && is_line_feed (slice_get text len)
