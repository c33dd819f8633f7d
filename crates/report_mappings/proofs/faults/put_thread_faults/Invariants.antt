use Rattle.std.proofs.Common.{◌≡◌, ◌≤◌, [], ◌++◌}
use Rattle.journal_model.specs.rules.Legal.{IsLegal, made_of}
use Rattle.journal_model.specs.reports.ReportText.{thread_faults}
use Rattle.map_access.specs.Passing.{Stands}
use Rattle.report_mappings.proofs.Following.{Follows, front, text_from}
use Rattle.report_mappings.proofs.faults.put_thread_faults.Given as goal

-- the text so far, and that of the entries that are left
abbrev pub invariant-loop-entry : goal.invariant-loop-entry
invariant-loop-entry l = record {
  few : l.answered ≤ l.entry-index;
  stands : Stands l.search l.thread l.answered l.standing;
  follows : IsLegal l.search l.journal → Follows l.search l.thread (front l.search l.thread l.journal l.entry-index) l.answered l.seen;
  text : IsLegal l.search l.journal → l.line ++ text_from l.search l.thread l.journal l.entry-index ≡ l.fn.line ++ thread_faults l.search l.thread [] (made_of l.search l.journal);
}
