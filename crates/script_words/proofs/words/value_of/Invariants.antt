use Rattle.std.proofs.Common.{◌≡◌, min, take, drop}
use Rattle.std.specs.List.{list_all}
use Rattle.journal_model.specs.scripts.Reading.{is_digit, read_on}
use Rattle.script_words.proofs.words.value_of.Given as goal

abbrev pub invariant-loop-c : goal.invariant-loop-c
invariant-loop-c l =
    record {
      value : l.n ≡ min (read_on 0 (take l.c-index l.word)) 1099511627776;
      digits : list_all is_digit (drop l.c-index l.word) ≡ list_all is_digit l.word;
    }
