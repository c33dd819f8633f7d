-- What an entry follows.
use Rattle.std.specs.Prelude.{List}
use Rattle.journal_model.specs.declared.entry.Entry.{Entry}
use Rattle.journal_model.specs.declared.script.Script.{Script}

-- a script, entries of its journal, and the entry after them
pub record Next : Type 0 where
  pub script : Script
  pub before : List Entry
  pub entry : Entry
