use Rattle.std.proofs.Common.{◌≡◌, take}
use Rattle.std.specs.Prelude.{flat_map}
use Rattle.std.specs.List.{enumerate_from}
use Rattle.std.specs.Io.KnownBytes.{append_known}
use Rattle.journal_model.specs.reports.EntryText.{entry_line}
use Rattle.report_text.proofs.report.write_entries.Given as goal

-- the lines so far were written
abbrev pub invariant-loop-i : goal.invariant-loop-i
invariant-loop-i g l = record {
  text : g.K.Sink.written l.sink ≡ append_known (g.K.Sink.written l.fn.sink) (flat_map (entry_line l.fn.script) (take l.i (enumerate_from 1 l.journal)));
  faults : g.K.Sink.faults l.sink ≡ g.K.Sink.faults l.fn.sink;
  lines : g.K.Sink.broken l.sink ≡ g.K.Sink.broken l.fn.sink;
}
