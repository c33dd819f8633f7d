use Rattle.std.proofs.Common.{◌≡◌, ◌-◌, ◌≤◌, IsTrue, length, take}
use Rattle.std.specs.Io.KnownBytes.{append_known}
use Rattle.io_edge.specs.Lines.{is_line}
use Rattle.io_edge.proofs.whole.write_all.Given as goal

-- the front that was written so far
abbrev pub invariant-loop-at : goal.invariant-loop-at
invariant-loop-at g l = record {
  within : l.at ≤ length l.bytes;
  written : g.K.Sink.written l.sink ≡ append_known (g.K.Sink.written l.fn.sink) (take l.at l.bytes);
  faults : g.K.Sink.faults l.sink ≡ g.K.Sink.faults l.fn.sink;
  lines : IsTrue (is_line l.bytes) → g.K.Sink.broken l.sink ≡ g.K.Sink.broken l.fn.sink;
}

abbrev pub decreases-loop-at : goal.decreases-loop-at
decreases-loop-at g l = length l.bytes - l.at
