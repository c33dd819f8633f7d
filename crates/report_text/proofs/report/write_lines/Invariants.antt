use Rattle.std.proofs.Common.{◌≡◌, ◌-◌, ◌≤◌, length, take}
use Rattle.std.specs.Io.KnownBytes.{append_known}
use Rattle.report_text.proofs.report.write_lines.Given as goal

-- the lines so far were written
abbrev pub invariant-loop-at : goal.invariant-loop-at
invariant-loop-at g l = record {
  within : l.at ≤ length l.text;
  written : g.K.Sink.written l.sink ≡ append_known (g.K.Sink.written l.fn.sink) (take l.at l.text);
  faults : g.K.Sink.faults l.sink ≡ g.K.Sink.faults l.fn.sink;
  lines : g.K.Sink.broken l.sink ≡ g.K.Sink.broken l.fn.sink;
}

abbrev pub decreases-loop-at : goal.decreases-loop-at
decreases-loop-at g l = length l.text - l.at
