-- The accounts after each front of a journal.
use Rattle.std.specs.Prelude.{◌≡◌, ℕ, true, List, take}
use Rattle.journal_model.specs.declared.script.Script.{Script}
use Rattle.journal_model.specs.declared.entry.Entry.{Entry}
use Rattle.journal_model.specs.statements.Account.{has_accounts}
use Rattle.journal_model.specs.rules.Legal.{state_of}

-- after each number of entries, the pages of buffers, targets and ghosts never overlap, and with the free ones make each size
abbrev pub HoldThroughout : Script → List Entry → Type 0
HoldThroughout script journal = (n : ℕ) → has_accounts script (state_of script (take n journal)).core ≡ true
