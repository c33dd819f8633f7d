-- What the word `check` tells of an input, exactly where it is so.
use Rattle.std.specs.Prelude.{◌≡◌, ℕ, ◌<◌, ◌≤◌, ◌↔◌, ◌⊎◌, ◌++◌, Bool, true, false, List, Some, IsTrue, length}
use Rattle.journal_model.specs.declared.script.Script.{Script}
use Rattle.journal_model.specs.declared.entry.Entry.{Entry}
use Rattle.journal_model.specs.scripts.Words.{Text}
use Rattle.journal_model.specs.rules.Legal.{IsLegal}
use Rattle.journal_model.specs.statements.Complete.{is_complete}
use Rattle.journal_model.specs.reports.ReportText.{report}
use Rattle.journal_model.specs.reports.Verdict.{check_limit, script_part}
use Rattle.journal_model.specs.scripts.ScriptRules.{IsScript}
use Rattle.program_edges.specs.declared.status.Status.{Status}
use Rattle.program_edges.specs.declared.status.Status.TheVariants as status
use Rattle.program_edges.specs.Edges.{Edge, IsWritten}
use Rattle.check_program.specs.Finds.{AreAccepted, AreRejected, rejected_text}
use Rattle.check_program.specs.Ends.{EndsChecked}

-- the status tells what was found in the bytes: no read or write failed, and memory sufficed
abbrev pub is_verdict : Status → Bool
is_verdict status.Done = true
is_verdict status.BadScript = true
is_verdict status.Rejected = true
is_verdict _ = false

-- what stands up to the first line `end` is a script
pub record HaveScript (bytes : Text) : Type 0 where
  pub script : Script
  pub spelled : IsScript (script_part bytes) script

-- a script without a report of a legal, complete journal after it
pub record AreInvalid (bytes : Text) : Type 0 where
  pub few : length bytes ≤ check_limit
  pub script : HaveScript bytes
  pub unaccepted : AreAccepted bytes → ⊥

-- by the status: whether the bytes are a script and its report, or what stands before the report isn't a script; and the line that is
-- written for a rejected report, which names the one entry and rule
pub record IsExact (bytes : Text) (sink : Edge) (s : Status) : Type 0 where
  pub valid : (s ≡ status.Done) ↔ ((length bytes ≤ check_limit) × AreAccepted bytes)
  pub bad_script : (s ≡ status.BadScript) ↔ ((length bytes ≤ check_limit) × (HaveScript bytes → ⊥))
  pub rejected : (s ≡ status.Rejected) ↔ ((check_limit < length bytes) ⊎ AreInvalid bytes)
  pub named : (entry rule : ℕ) → length bytes ≤ check_limit → AreRejected bytes entry rule → IsWritten sink (rejected_text entry rule)

-- what `check` tells of a source that tells its bytes is exact
abbrev pub VerdictsAreExact : Type 0
VerdictsAreExact =
    (source sink : Edge) (s : Status) (bytes : Text) → source.before ≡ Some bytes → EndsChecked source sink s → IsTrue (is_verdict s) → IsExact bytes sink s

-- the bytes are those of a script and, after it, the report of a legal, complete journal of it
pub record AreScriptAndReport (bytes : Text) : Type 0 where
  pub script_bytes : Text
  pub script : Script
  pub journal : List Entry
  pub spelled : IsScript script_bytes script
  pub legal : IsLegal script journal
  pub complete : IsTrue (is_complete script journal)
  pub are : bytes ≡ script_bytes ++ report script journal

-- where the bytes of a script and its report aren't too many, the status is 0
abbrev pub ReportsAreValid : Type 0
ReportsAreValid =
    (source sink : Edge) (s : Status) (bytes : Text) → source.before ≡ Some bytes → EndsChecked source sink s → IsTrue (is_verdict s) →
    length bytes ≤ check_limit → AreScriptAndReport bytes → s ≡ status.Done
