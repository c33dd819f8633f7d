-- A report of a script has one verdict.
use Rattle.std.specs.Prelude.{◌≡◌, ℕ, List, ◌++◌, true, IsTrue}
use Rattle.journal_model.specs.declared.script.Script.{Script}
use Rattle.journal_model.specs.declared.entry.Entry.{Entry}
use Rattle.journal_model.specs.scripts.Words.{Text}
use Rattle.journal_model.specs.scripts.ScriptRules.{IsScript, is_script}
use Rattle.journal_model.specs.rules.Legal.{IsLegal}
use Rattle.journal_model.specs.statements.Complete.{is_complete}
use Rattle.journal_model.specs.reports.ReportText.{report}
use Rattle.journal_model.specs.reports.Verdict.{IsAccepted, IsRejected, report_part, script_part}

-- what is accepted isn't rejected, at any entry or by any rule
abbrev pub AcceptedIsNotRejected : Type 0
AcceptedIsNotRejected =
    (bytes text : Text) (script : Script) (entry rule : ℕ) → IsScript bytes script → IsAccepted script text → IsRejected script text entry rule → ⊥

-- what is rejected is rejected at one entry, by one rule
abbrev pub RejectedOnce : Type 0
RejectedOnce =
    (script : Script) (text : Text) (entry rule other_entry other_rule : ℕ) → IsTrue (is_script script) →
    IsRejected script text entry rule → IsRejected script text other_entry other_rule → (entry ≡ other_entry) × (rule ≡ other_rule)

-- the report of a legal, complete journal is accepted
abbrev pub ReportsAreAccepted : Type 0
ReportsAreAccepted =
    (script : Script) (journal : List Entry) → IsTrue (is_script script) → IsLegal script journal → is_complete script journal ≡ true →
    IsAccepted script (report script journal)

-- of a script and any text after it, the part up to the first line `end` is the script, and the rest is the text
abbrev pub ScriptsAreCutOff : Type 0
ScriptsAreCutOff =
    (bytes text : Text) (script : Script) → IsScript bytes script → (script_part (bytes ++ text) ≡ bytes) × (report_part (bytes ++ text) ≡ text)

-- what is cut off a script with the report of a legal, complete journal of it after it is accepted
abbrev pub CutReportsAreAccepted : Type 0
CutReportsAreAccepted =
    (bytes : Text) (script : Script) (journal : List Entry) → IsScript bytes script → IsLegal script journal → is_complete script journal ≡ true →
    IsAccepted script (report_part (bytes ++ report script journal))
