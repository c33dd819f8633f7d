use Rattle.std.proofs.Common.{◌≡◌, ◌++◌, map, take, decimal}
use Rattle.text_line.specs.Spaced.{behind_each}
use Rattle.report_mappings.proofs.faults.put_more_numbers.Given as goal

abbrev pub invariant-loop-number : goal.invariant-loop-number
invariant-loop-number l = l.line ≡ l.fn.line ++ behind_each 44 (map decimal (take l.number-index l.numbers))
