-- What the workers leave.
use Rattle.std.specs.Prelude.{◌≡◌, true}
use Rattle.journal_model.specs.declared.script.Script.{Script}
use Rattle.journal_model.specs.rules.Legal.{IsLegal}
use Rattle.journal_model.specs.statements.Complete.{is_complete}
use Rattle.simulator.specs.Ends.{KeepsLaws}
use Rattle.simulator.specs.Ends.{Kept}

-- the device has a legal, complete journal of the script, which keeps the laws
pub record IsThreaded (script : Script) (k : Kept) : Type 0 where
  pub of : k.script ≡ script
  pub legal : IsLegal script k.journal
  pub complete : is_complete script k.journal ≡ true
  pub laws : KeepsLaws script k.journal
