-- A report has one journal.
use Rattle.std.specs.Prelude.{◌≡◌, ◌^◌, ◌<◌, true, List, length}
use Rattle.std.specs.List.{list_all}
use Rattle.journal_model.specs.declared.script.Script.{Script}
use Rattle.journal_model.specs.declared.entry.Entry.{Entry}
use Rattle.journal_model.specs.scripts.ScriptRules.{is_script}
use Rattle.journal_model.specs.reports.ReportText.{report}
use Rattle.journal_model.specs.scripts.Readable.{is_readable}

-- two journals of a script with one report are the same
abbrev pub OneJournal : Type 0
OneJournal = (script : Script) (one other : List Entry) → is_script script ≡ true → list_all (is_readable script) one ≡ true
    → list_all (is_readable script) other ≡ true → length one < 2 ^ 64 → length other < 2 ^ 64 → report script one ≡ report script other → one ≡ other
