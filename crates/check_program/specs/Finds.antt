-- What a source comes to that has a script and a report after it, and the text and the status that are due for that.
use Rattle.std.specs.Prelude.{◌≡◌, ℕ, ◌+◌, ◌≤◌, ◌++◌, ◌∷◌, [], ◌⊎◌, Some, codes, decimal, length}
use Rattle.journal_model.specs.declared.script.Script.{Script}
use Rattle.journal_model.specs.scripts.Words.{Text, line}
use Rattle.journal_model.specs.scripts.FirstFault.{first_fault}
use Rattle.journal_model.specs.reports.Verdict.{IsAccepted, IsRejected, check_limit, report_part, script_part}
use Rattle.journal_model.specs.scripts.ScriptRules.{IsScript}
use Rattle.entry_reader.specs.declared.rule.Rule.{Rule}
use Rattle.entry_reader.specs.declared.rule.Rule.TheVariants as rules
use Rattle.entry_reader.specs.Rules.{number_of}
use Rattle.program_edges.specs.declared.status.Status.{Status}
use Rattle.program_edges.specs.declared.status.Status.TheVariants as status
use Rattle.program_edges.specs.Edges.{Edge, WasCutOff, WasReadTo, WasReadWhole}
use Rattle.program_edges.specs.Texts.{bad_script_text}
use Rattle.check_program.specs.declared.finding.Finding.{Finding}
use Rattle.check_program.specs.declared.finding.Finding.TheVariants as finding

-- ---- what bytes come to

-- the bytes are a script and the report of a legal, complete, transparent journal of it
pub record AreAccepted (bytes : Text) : Type 0 where
  pub script : Script
  pub spelled : IsScript (script_part bytes) script
  pub accepted : IsAccepted script (report_part bytes)

-- the bytes are a script and no such report: this entry is the first that isn't as it should be, by this rule
pub record AreRejected (bytes : Text) (entry rule : ℕ) : Type 0 where
  pub script : Script
  pub spelled : IsScript (script_part bytes) script
  pub rejected : IsRejected script (report_part bytes) entry rule

-- what was found in a report of a script
abbrev pub FindsReport : Script → Text → Finding → Type 0
FindsReport script text finding.ReadFault = ⊥
FindsReport script text (finding.BadScript n rule) = ⊥
FindsReport script text finding.Accepted = IsAccepted script text
FindsReport script text (finding.Rejected entry rule) = IsRejected script text entry (number_of rule)

-- what was found in the bytes; what should be the script may have a fault
abbrev pub FindsIn : Text → Finding → Type 0
FindsIn bytes finding.ReadFault = ⊥
FindsIn bytes (finding.BadScript n rule) = first_fault (script_part bytes) ≡ Some (n, rule)
FindsIn bytes finding.Accepted = AreAccepted bytes
FindsIn bytes (finding.Rejected entry rule) = AreRejected bytes entry (number_of rule)

-- ---- what a source comes to

-- all bytes were read, and this was found in them; they are no more than are looked at
pub record WasFound (source : Edge) (f : Finding) : Type 0 where
  pub bytes : Text
  pub read : WasReadWhole source bytes
  pub few : length bytes ≤ check_limit
  pub finds : FindsIn bytes f

-- more bytes were read than are looked at, which breaks the rule of the first two lines
pub record WasTooLong (source : Edge) (entry : ℕ) (r : Rule) : Type 0 where
  pub read : WasReadTo source (check_limit + 1)
  pub entry_is : entry ≡ 0
  pub rule_is : r ≡ rules.Head

-- what was found in a source
abbrev pub Finds : Edge → Finding → Type 0
Finds source finding.ReadFault = WasCutOff source check_limit
Finds source (finding.BadScript n rule) = WasFound source (finding.BadScript n rule)
Finds source finding.Accepted = WasFound source finding.Accepted
Finds source (finding.Rejected entry rule) = WasFound source (finding.Rejected entry rule) ⊎ WasTooLong source entry rule

-- ---- what is due

-- the text that names the entry and the rule
abbrev pub rejected_text : ℕ → ℕ → Text
rejected_text entry rule = codes "rejected: entry " ++ decimal entry ++ codes ", rule " ++ decimal rule ++ 10 ∷ []

-- the text that is due for a finding
abbrev pub text_of : Finding → Text
text_of finding.ReadFault = line (codes "read fault" ∷ [])
text_of (finding.BadScript n rule) = bad_script_text n rule
text_of finding.Accepted = line (codes "valid" ∷ [])
text_of (finding.Rejected entry rule) = rejected_text entry (number_of rule)

-- the status, if the text is written
abbrev pub status_of : Finding → Status
status_of finding.ReadFault = status.ReadFault
status_of (finding.BadScript n rule) = status.BadScript
status_of finding.Accepted = status.Done
status_of (finding.Rejected entry rule) = status.Rejected
