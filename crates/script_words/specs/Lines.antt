-- The length of a line, and of what shows of it.
use Rattle.std.specs.Prelude.{ℕ, ◌+◌, [], ◌∷◌, ◌==◌, take, if◌then◌else◌}
use Rattle.journal_model.specs.scripts.Words.{Text}
use Rattle.journal_model.specs.scripts.FirstFault.{is_shown}

-- the length of the first line in bytes, with its line feed
abbrev pub line_len : Text → ℕ
line_len [] = 0
line_len (b ∷ bs) = if b == 10 then 1 else line_len bs + 1

-- how many bytes show before the first that doesn't
abbrev pub shown_len : Text → ℕ
shown_len [] = 0
shown_len (b ∷ bs) = if is_shown b then shown_len bs + 1 else 0

-- the bytes that show before the first that doesn't
abbrev pub shown : Text → Text
shown text = take (shown_len text) text
