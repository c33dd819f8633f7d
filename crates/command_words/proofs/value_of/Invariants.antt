use Rattle.std.proofs.Common.{◌≡◌, min, take}
use Rattle.journal_model.specs.scripts.Reading.{read_on}
use Rattle.command_words.proofs.value_of.Given as goal

abbrev pub invariant-loop-c : goal.invariant-loop-c
invariant-loop-c l = l.n ≡ min (read_on 0 (take l.c-index l.word)) 18446744073709551616
