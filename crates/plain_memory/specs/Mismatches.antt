-- The results of a journal that show other bytes than the plain memory has.
use Rattle.std.specs.Prelude.{ℕ, ◌+◌, Bool, true, false, List, [], ◌∷◌, Option, Some, None, not, if◌then◌else◌}
use Rattle.std.specs.Str.{bytes_eq}
use Rattle.journal_model.specs.declared.script.Script.{Script}
use Rattle.journal_model.specs.declared.script.Command.{Command}
use Rattle.journal_model.specs.declared.entry.Entry.{Entry}
use Rattle.journal_model.specs.declared.entry.Kind.{Kind}
use Rattle.journal_model.specs.declared.entry.Kind.TheVariants as kind
use Rattle.journal_model.specs.declared.entry.Shown.{Shown}
use Rattle.journal_model.specs.declared.entry.Shown.TheVariants as shown
use Rattle.journal_model.specs.rules.Apply.{thread_of}
use Rattle.journal_model.specs.rules.PlainMemory.{Memory, Plain, first_plain, plain_after, command_of}
use Rattle.journal_model.specs.rules.Transparent.{bytes_owed}

-- the result shows the bytes that are owed, or none where none are owed
abbrev pub shows : Shown → Option (List ℕ) → Bool
shows (shown.Read bytes) (Some owed) = bytes_eq bytes owed
shows (shown.Read bytes) None = false
shows _ (Some owed) = false
shows _ None = true

-- the result of a thread at `command` shows other bytes than it has to
abbrev pub is_mismatch : Option Command → Memory → Kind → Bool
is_mismatch command memory (kind.Result r) = not (shows r (bytes_owed command memory))
is_mismatch command memory _ = false

-- 1 for an entry that is a mismatch, and 0 for another
abbrev pub mismatch_at : Script → Plain → Entry → ℕ
mismatch_at script p e = if is_mismatch (command_of script p (thread_of e.who)) p.memory e.kind then 1 else 0

-- the number of mismatches from an entry on
abbrev pub mismatches_from : Script → Plain → List Entry → ℕ
mismatches_from script p [] = 0
mismatches_from script p (e ∷ es) = mismatch_at script p e + mismatches_from script (plain_after script p e) es

-- the number of mismatches in a journal
abbrev pub mismatches_of : Script → List Entry → ℕ
mismatches_of script journal = mismatches_from script first_plain journal
