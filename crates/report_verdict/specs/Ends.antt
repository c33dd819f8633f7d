-- What comes of a report.
use Rattle.journal_model.specs.declared.script.Script.{Script}
use Rattle.journal_model.specs.scripts.Words.{Text}
use Rattle.journal_model.specs.reports.Verdict.{IsAccepted, IsRejected}
use Rattle.entry_reader.specs.Rules.{number_of}
use Rattle.report_verdict.specs.declared.ending.Ending.{Ending}
use Rattle.report_verdict.specs.declared.ending.Ending.TheVariants as ending

-- the report is accepted, or rejected at the entry by the rule
abbrev pub Ends : Script → Text → Ending → Type 0
Ends script text ending.Accepted = IsAccepted script text
Ends script text (ending.Rejected entry rule) = IsRejected script text entry (number_of rule)
