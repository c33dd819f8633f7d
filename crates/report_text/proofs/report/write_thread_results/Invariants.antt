use Rattle.std.proofs.Common.{◌≡◌, ◌+◌, take}
use Rattle.std.specs.Prelude.{filter_map, flat_map}
use Rattle.std.specs.List.{enumerate_from}
use Rattle.std.specs.Io.KnownBytes.{append_known}
use Rattle.journal_model.specs.reports.ReportText.{answer_line, answer_of}
use Rattle.report_text.proofs.Kept.{kept_before}
use Rattle.report_text.proofs.report.write_thread_results.Given as goal

-- the answers so far were written
abbrev pub invariant-loop-entry : goal.invariant-loop-entry
invariant-loop-entry g l =
    let before = kept_before (answer_of l.thread) l.journal l.entry-index in
    record {
      number : l.number ≡ before + 1;
      text : g.K.Sink.written l.sink ≡ append_known (g.K.Sink.written l.fn.sink)
          (flat_map (answer_line l.thread) (take before (enumerate_from 1 (filter_map (answer_of l.thread) l.journal))));
      faults : g.K.Sink.faults l.sink ≡ g.K.Sink.faults l.fn.sink;
      lines : g.K.Sink.broken l.sink ≡ g.K.Sink.broken l.fn.sink;
    }
