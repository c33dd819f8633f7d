use Rattle.std.proofs.Common.{◌≡◌, ◌++◌, take}
use Rattle.journal_model.specs.scripts.Words.{hex}
use Rattle.text_line.proofs.words.put_hex_many.Given as goal

abbrev pub invariant-loop-byte : goal.invariant-loop-byte
invariant-loop-byte l = l.line ≡ l.fn.line ++ hex (take l.byte-index l.bytes)
