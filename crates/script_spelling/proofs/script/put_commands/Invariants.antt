use Rattle.std.proofs.Common.{◌≡◌, ◌≤◌, ◌++◌, drop, length}
use Rattle.journal_model.specs.scripts.Spelling.{command_lines}
use Rattle.script_spelling.specs.Cursors.{marks_from}
use Rattle.script_spelling.proofs.script.put_commands.Given as goal

abbrev pub invariant-loop-n : goal.invariant-loop-n
invariant-loop-n l = record {
  within : l.n ≤ length l.commands;
  text : l.text ++ command_lines l.script l.thread l.n (drop l.n l.commands) ≡ l.fn.text ++ command_lines l.script l.thread 0 l.commands;
  rest : l.rest ≡ marks_from l.script.marks l.thread l.n;
}
