-- What reading a report tells: its entries up to the first line that isn't one, and what follows them.
use Rattle.std.specs.Prelude.{◌≡◌, ℕ, ◌+◌, ◌<◌, ◌≤◌, List, [], ◌∷◌, ◌++◌, Option, Some, None, codes, decimal, drop, flat_map, length}
use Rattle.std.specs.List.{enumerate_from}
use Rattle.journal_model.specs.declared.script.Script.{Script}
use Rattle.journal_model.specs.declared.entry.Entry.{Entry}
use Rattle.journal_model.specs.scripts.Words.{Text, line}
use Rattle.journal_model.specs.scripts.Cut.{lines_of}
use Rattle.journal_model.specs.reports.EntryText.{entry_line}
use Rattle.journal_model.specs.reports.ReportText.{report_head}
use Rattle.journal_model.specs.reports.Verdict.{AreEntryTexts, HasHead, IsEntryText}
use Rattle.entry_reader.specs.declared.report.Head.{Head}
use Rattle.entry_reader.specs.declared.report.Parsed.{Parsed}
use Rattle.entry_reader.specs.declared.report.ReportBad.{ReportBad}
use Rattle.entry_reader.specs.declared.rule.Rule.{Rule}
use Rattle.entry_reader.specs.declared.rule.Rule.TheVariants as rule

-- ---- the first two lines

-- the text of the first two lines
abbrev pub head_text : Script → ℕ → Text
head_text script count = report_head script ++ line (codes "journal" ∷ decimal count ∷ [])

-- the first two lines tell this count of entries, and have len bytes
pub record IsHead (script : Script) (text : Text) (count len : ℕ) : Type 0 where
  pub lines : HasHead script text count (lines_of (drop len text))
  pub bytes : text ≡ head_text script count ++ drop len text
  pub within : len ≤ length text

-- the first two lines aren't those of a report of the script
abbrev pub HasNoHead : Script → Text → Type 0
HasNoHead script text = (count : ℕ) (texts : List Text) → HasHead script text count texts → ⊥

-- what reading the first two lines finds
abbrev pub IsHeadRead : Script → Text → Option Head → Type 0
IsHeadRead script text (Some h) = IsHead script text h.count h.len
IsHeadRead script text None = HasNoHead script text

-- ---- the entries

-- the text up to the end of these entries
abbrev pub text_to : Script → ℕ → List Entry → Text
text_to script count entries = head_text script count ++ flat_map (entry_line script) (enumerate_from 1 entries)

-- the report counts this many entries, and its first are these; the text after them begins at rest
pub record HasEntries (script : Script) (text : Text) (count rest : ℕ) (entries : List Entry) : Type 0 where
  pub right : List Text
  pub head : HasHead script text count (right ++ lines_of (drop rest text))
  pub texts : AreEntryTexts script 1 right entries
  pub bytes : text ≡ text_to script count entries ++ drop rest text

-- these entries are all that the report counts
pub record IsWhole (script : Script) (text : Text) (rest : ℕ) (entries : List Entry) : Type 0 where
  pub told : HasEntries script text (length entries) rest entries

-- the next line isn't there, or isn't the text of the next entry
pub record IsCut (script : Script) (text : Text) (rest : ℕ) (entries : List Entry) : Type 0 where
  pub count : ℕ
  pub told : HasEntries script text count rest entries
  pub counted : length entries < count
  pub no_entry : (first : Text) (behind : List Text) (e : Entry) → lines_of (drop rest text) ≡ first ∷ behind → IsEntryText script (length entries + 1) first e → ⊥

-- the first two lines aren't those of a report, so nothing is read
pub record IsUnread (script : Script) (text : Text) (rest : ℕ) (entries : List Entry) (entry : ℕ) : Type 0 where
  pub no_head : HasNoHead script text
  pub none : entries ≡ []
  pub first : rest ≡ 0
  pub named : entry ≡ 0

-- this entry is the first that isn't read, by this rule
abbrev pub IsBadFrom : Script → Text → ℕ → List Entry → ℕ → Rule → Type 0
IsBadFrom script text rest entries entry rule.Head = IsUnread script text rest entries entry
IsBadFrom script text rest entries entry rule.Line = IsCut script text rest entries × (entry ≡ length entries + 1)
IsBadFrom script text rest entries entry _ = ⊥

-- all entries are read, or they are bad from one on
abbrev pub IsReadTo : Script → Text → ℕ → List Entry → Option ReportBad → Type 0
IsReadTo script text rest entries None = IsWhole script text rest entries
IsReadTo script text rest entries (Some bad) = IsBadFrom script text rest entries bad.entry bad.rule

-- what reading a report finds
pub record IsParsed (script : Script) (text : Text) (p : Parsed) : Type 0 where
  pub within : p.rest ≤ length text
  pub read : IsReadTo script text p.rest p.entries p.bad
