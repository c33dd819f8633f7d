use Rattle.std.proofs.Common.{◌≡◌, bytes_eq, drop}
use Rattle.script_words.proofs.words.is_of_same_length.Given as goal

abbrev pub invariant-loop-i : goal.invariant-loop-i
invariant-loop-i l = bytes_eq (drop l.i l.word) (drop l.i l.text) ≡ bytes_eq l.word l.text
