-- What reading the line of an entry tells.
use Rattle.std.specs.Prelude.{ℕ, Option, Some, None}
use Rattle.journal_model.specs.declared.script.Script.{Script}
use Rattle.journal_model.specs.declared.entry.Entry.{Entry}
use Rattle.journal_model.specs.scripts.Words.{Text}
use Rattle.journal_model.specs.reports.Verdict.{IsEntryText}

-- the entry whose text the line is, or none where it is the text of no entry
abbrev pub IsRead : Script → ℕ → Text → Option Entry → Type 0
IsRead script n text (Some e) = IsEntryText script n text e
IsRead script n text None = (e : Entry) → IsEntryText script n text e → ⊥
