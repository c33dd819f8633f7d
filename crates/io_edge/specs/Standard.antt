-- What a source over a reader and a sink over a writer are seen as.
use Rattle.std.specs.Prelude.{ℕ}
use Rattle.io_edge.specs.declared.standard.StdSource.{StdSource}
use Rattle.io_edge.specs.declared.standard.StdSink.{StdSink}

-- the reader
abbrev pub source_reader : {R : Type 0} → StdSource R → R
source_reader s = s.reader

-- how often it has failed
abbrev pub source_faults : {R : Type 0} → StdSource R → ℕ
source_faults s = s.faults

-- the writer
abbrev pub sink_writer : {W : Type 0} → StdSink W → W
sink_writer s = s.writer

-- how often it has failed
abbrev pub sink_faults : {W : Type 0} → StdSink W → ℕ
sink_faults s = s.faults
