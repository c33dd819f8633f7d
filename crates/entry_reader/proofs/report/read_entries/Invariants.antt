use Rattle.std.proofs.Common.{◌≡◌, ◌≤◌, length}
use Rattle.entry_reader.specs.Parsing.{HasEntries}
use Rattle.entry_reader.proofs.report.read_entries.Given as goal

abbrev pub invariant-loop-n : goal.invariant-loop-n
invariant-loop-n l = record {
  few : length l.entries ≡ l.n;
  within : l.rest ≤ length l.text;
  read : HasEntries l.script l.text l.fn.head.count l.rest l.entries;
}
