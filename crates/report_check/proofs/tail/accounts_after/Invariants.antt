use Rattle.std.specs.Prelude.{take}
use Rattle.journal_model.specs.rules.Legal.{stores_of}
use Rattle.plain_device.specs.Held.{IsHeld}
use Rattle.report_check.proofs.tail.accounts_after.Given as goal

-- the state is that of the entries so far
abbrev pub invariant-loop-entry : goal.invariant-loop-entry
invariant-loop-entry l = IsHeld l.script (take l.entry-index l.journal) l.state l.script.sizes (stores_of l.script (take l.entry-index l.journal))
