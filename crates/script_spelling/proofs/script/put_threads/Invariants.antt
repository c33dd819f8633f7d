use Rattle.std.proofs.Common.{◌≡◌, ◌+◌, ◌≤◌, ◌++◌, drop, length}
use Rattle.std.specs.Prelude.{flat_map}
use Rattle.std.specs.List.{enumerate_from}
use Rattle.journal_model.specs.scripts.Spelling.{thread_lines}
use Rattle.script_spelling.specs.Cursors.{marks_from}
use Rattle.script_spelling.proofs.script.put_threads.Given as goal

abbrev pub invariant-loop-i : goal.invariant-loop-i
invariant-loop-i l = record {
  within : l.i ≤ length l.script.threads;
  text : l.text ++ flat_map (thread_lines l.script) (enumerate_from (l.i + 1) (drop l.i l.script.threads)) ≡ l.fn.text ++ flat_map (thread_lines l.script) (enumerate_from 1 l.script.threads);
  marks : l.marks ≡ marks_from l.script.marks (l.i + 1) 0;
}
