use Rattle.std.proofs.Common.{◌≡◌}
use Rattle.journal_model.specs.rules.State.{buffer_in}
use Rattle.journal_model.specs.rules.Stores as words
use Rattle.rules_stores.specs.Kept.{bytes_of}
use Rattle.rules_stores.proofs.shown.buffer_bytes.Given as goal

abbrev pub invariant-loop-i : goal.invariant-loop-i
invariant-loop-i l = l.bytes ≡ words.bytes_of (bytes_of l.stores) (buffer_in l.core l.b) l.off l.i
