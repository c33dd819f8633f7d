-- What the rooms are: a script and a journal.
use Rattle.std.specs.Prelude.{List, [], ◌∷◌, ◌++◌}
use Rattle.journal_model.specs.declared.script.Script.{Script}
use Rattle.journal_model.specs.declared.state.State.{State}
use Rattle.journal_model.specs.declared.entry.Entry.{Entry}
use Rattle.journal_model.specs.rules.Legal.{World, IsLegalNext, state_of, world_of}

-- the script that is run, and the journal: the entries so far
pub record Kept : Type 0 where
  pub script : Script
  pub journal : List Entry

-- the rooms with the entry `e` after the others
abbrev pub with_entry : Kept → Entry → Kept
with_entry k e = record k { journal = k.journal ++ e ∷ [] }

-- the state to which the entries lead
abbrev pub state_behind : Kept → State
state_behind k = state_of k.script k.journal

-- the state to which the entries lead, with the bytes of its stores
abbrev pub world_behind : Kept → World
world_behind k = world_of k.script k.journal

-- the entry is legal next
abbrev pub MayAppend : Kept → Entry → Type 0
MayAppend k e = IsLegalNext k.script (world_of k.script k.journal) e
