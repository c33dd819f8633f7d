-- A dead end: a journal that isn't complete and after which nobody has an entry.
use Rattle.std.specs.Prelude.{◌≡◌, Bool, false, List, is_ok}
use Rattle.journal_model.specs.Types.{Actor, Entry, Script, State}
use Rattle.journal_model.specs.rules.Next.{next}
use Rattle.journal_model.specs.rules.Legal.{state_of}
use Rattle.journal_model.specs.statements.Complete.{is_complete}

-- the actor has an entry
abbrev pub can_step : Script → State → Actor → Bool
can_step script s who = is_ok (next script s who)

-- the journal isn't complete, and no actor has an entry
pub record IsDeadEnd (script : Script) (journal : List Entry) : Type 0 where
  pub unfinished : is_complete script journal ≡ false
  pub stuck : (who : Actor) → can_step script (state_of script journal) who ≡ false
