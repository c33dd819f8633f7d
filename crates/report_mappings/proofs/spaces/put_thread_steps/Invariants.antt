use Rattle.std.proofs.Common.{◌≡◌, ◌≤◌, ◌+◌, ◌++◌, drop}
use Rattle.journal_model.specs.reports.ReportText.{thread_steps}
use Rattle.report_mappings.proofs.Requests.{text_from}
use Rattle.report_mappings.proofs.spaces.put_thread_steps.Given as goal

-- what is put, and what is left to be put, are the steps of the thread
abbrev pub invariant-loop-mark : goal.invariant-loop-mark
invariant-loop-mark l = record {
  number : l.number ≤ l.mark-index + 1;
  text : l.line ++ text_from l.script l.thread l.number l.space (drop l.mark-index l.script.marks) ≡ l.fn.line ++ thread_steps l.script l.thread;
}
