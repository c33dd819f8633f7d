use Rattle.std.proofs.Common.{◌≡◌, take}
use Rattle.std.specs.Prelude.{flat_map}
use Rattle.std.specs.Io.KnownBytes.{append_known}
use Rattle.journal_model.specs.statements.Complete.{thread_numbers}
use Rattle.journal_model.specs.reports.ReportText.{thread_results}
use Rattle.report_text.proofs.report.write_results.Given as goal

-- the results of the threads so far were written
abbrev pub invariant-loop-index : goal.invariant-loop-index
invariant-loop-index g l = record {
  text : g.K.Sink.written l.sink ≡ append_known (g.K.Sink.written l.fn.sink) (flat_map (thread_results l.journal) (take l.index (thread_numbers l.script)));
  faults : g.K.Sink.faults l.sink ≡ g.K.Sink.faults l.fn.sink;
  lines : g.K.Sink.broken l.sink ≡ g.K.Sink.broken l.fn.sink;
}
