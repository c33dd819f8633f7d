use Rattle.std.proofs.Common.{◌≡◌, drop}
use Rattle.entry_reader.specs.EntryReading.{all_of, row_of}
use Rattle.entry_reader.proofs.Walks.{and_then}
use Rattle.entry_reader.proofs.parts.read_rows.Given as goal

abbrev pub invariant-loop-word : goal.invariant-loop-word
invariant-loop-word l = and_then l.rows (all_of (row_of l.names) (drop l.word-index l.words)) ≡ all_of (row_of l.names) l.words
