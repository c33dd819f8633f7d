-- The first two lines of a report: a keyword and a number each.
use Rattle.std.specs.Prelude.{ℕ, List, [], ◌∷◌, Option, None, bytes_eq, codes, if◌then◌else◌}
use Rattle.journal_model.specs.declared.script.Script.{Script}
use Rattle.journal_model.specs.scripts.Words.{Text}
use Rattle.journal_model.specs.scripts.Cut.{cut_at}
use Rattle.journal_model.specs.scripts.FirstFault.{ends_line, without_end}
use Rattle.entry_reader.specs.EntryReading.{is_number, u64_of}

-- the number after the keyword
abbrev pub numbered_words : Text → List Text → Option ℕ
numbered_words keyword (w ∷ number ∷ []) = if bytes_eq w keyword then u64_of number else None
numbered_words keyword _ = None

-- the number after the keyword in a line
abbrev pub numbered_of : Text → Text → Option ℕ
numbered_of keyword text = if ends_line text then numbered_words keyword (cut_at 32 (without_end text)) else None

-- the count of entries, after the script's version
abbrev pub count_of : Script → Text → Text → Option ℕ
count_of script first second =
    if is_number script.version (numbered_of (codes "report") first) then numbered_of (codes "journal") second else None
