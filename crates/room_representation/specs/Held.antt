-- The invariant of the device on its parts.
use Rattle.std.specs.Prelude.{List, IsTrue}
use Rattle.journal_model.specs.declared.script.Script.{Script}
use Rattle.journal_model.specs.declared.entry.Entry.{Entry}
use Rattle.journal_model.specs.scripts.ScriptRules.{is_script}
use Rattle.journal_model.specs.rules.Legal.{IsLegal, world_of}
use Rattle.room_representation.specs.declared.parts.Parts.{Parts}
use Rattle.room_representation.specs.Represents.{Represents}

-- the script has a spelling, the journal is legal, and the parts tell the state and the bytes to which it leads
pub record AreHeld (script : Script) (journal : List Entry) (p : Parts) : Type 0 where
  pub fits : IsTrue (is_script script)
  pub legal : IsLegal script journal
  pub represents : Represents script (world_of script journal).state (world_of script journal).stores p
