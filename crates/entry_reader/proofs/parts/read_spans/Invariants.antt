use Rattle.std.proofs.Common.{◌≡◌, drop}
use Rattle.entry_reader.specs.EntryReading.{all_of, span_of}
use Rattle.entry_reader.proofs.Walks.{and_then}
use Rattle.entry_reader.proofs.parts.read_spans.Given as goal

abbrev pub invariant-loop-word : goal.invariant-loop-word
invariant-loop-word l = and_then l.spans (all_of span_of (drop l.word-index l.words)) ≡ all_of span_of l.words
