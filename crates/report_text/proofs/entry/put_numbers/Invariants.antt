use Rattle.std.proofs.Common.{◌≡◌, ◌++◌, map, take, decimal}
use Rattle.journal_model.specs.scripts.Words.{name_of}
use Rattle.text_line.specs.Spaced.{spaced_out}
use Rattle.report_text.proofs.entry.put_numbers.Given as goal

abbrev pub invariant-loop-number : goal.invariant-loop-number
invariant-loop-number l = l.line ≡ l.fn.line ++ (l.fn.word ++ name_of l.fn.script l.fn.b ++ spaced_out (map decimal (take l.number-index l.numbers)))
