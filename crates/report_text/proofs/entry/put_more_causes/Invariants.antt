use Rattle.std.proofs.Common.{◌≡◌, ◌++◌, map, take}
use Rattle.journal_model.specs.reports.EntryText.{cause_row_word}
use Rattle.text_line.specs.Spaced.{behind_each}
use Rattle.report_text.proofs.entry.put_more_causes.Given as goal

abbrev pub invariant-loop-row : goal.invariant-loop-row
invariant-loop-row l = l.line ≡ l.fn.line ++ behind_each 44 (map (cause_row_word l.script) (take l.row-index l.rows))
