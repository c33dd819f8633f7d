use Rattle.std.proofs.Common.{◌≡◌, ◌+◌, drop}
use Rattle.script_words.specs.Lines.{line_len}
use Rattle.script_words.proofs.cut.len_of_line.Given as goal

abbrev pub invariant-loop-b : goal.invariant-loop-b
invariant-loop-b l = record { so_far : l.len ≡ l.b-index; rest : l.len + line_len (drop l.b-index l.text) ≡ line_len l.text }
