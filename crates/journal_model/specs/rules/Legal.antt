-- Legal journals, and the state and bytes that they lead to.
use Rattle.std.specs.Prelude.{◌≡◌, ◌+◌, List, [], ◌∷◌, None, Result, Ok, Err, map, replicate}
use Rattle.journal_model.specs.Types.{Actor, Entry, Kind, Need, Script, State}
use Rattle.journal_model.specs.rules.State.{new_course, no_reservation}
use Rattle.journal_model.specs.rules.Next.{next}
use Rattle.journal_model.specs.rules.Apply.{apply}
use Rattle.journal_model.specs.rules.Stores.{Stores, zeros, within, stores_after, showing}

-- the state and the bytes
pub record World : Type 0 where
  pub state : State
  pub stores : Stores

-- all buffers dead, all free, all lists empty
abbrev pub first_state : Script → State
first_state script =
    record {
      core = record { buffers = map (λ d. None) script.buffers; jobs = []; ghosts = []; move_fence = None };
      reservations = map (λ d. no_reservation) script.buffers;
      lists = replicate 12 [];
      last_stamp = 0;
      last_ghost = 0;
      last_jobs = replicate (script.sizes.engines + 1) 0;
      courses = map (λ commands. new_course 0) script.threads;
    }

-- the first state, and zeros
abbrev pub first_world : Script → World
first_world script = record { state = first_state script; stores = zeros }

-- the entry that an actor makes next, with what it shows, or its need
abbrev pub shown_step : Script → World → Actor → Result Kind Need → Result Entry Need
shown_step script w who (Ok k) = Ok (record { who = who; kind = showing script w.stores w.state who k })
shown_step script w who (Err need) = Err need

-- by the rules of the actor
abbrev pub next_entry : Script → World → Actor → Result Entry Need
next_entry script w who = shown_step script w who (next script w.state who)

-- the state and the bytes after an entry
abbrev pub world_after : Script → World → Entry → World
world_after script w e =
    record { state = apply script w.state e; stores = within script.sizes (stores_after script w.state e.who e.kind w.stores) }

-- the entry is legal next
abbrev pub IsLegalNext : Script → World → Entry → Type 0
IsLegalNext script w e = next_entry script w e.who ≡ Ok e

-- each entry is legal next where those before it lead
abbrev pub IsLegalFrom : Script → World → List Entry → Type 0
IsLegalFrom script w [] = Unit {0}
IsLegalFrom script w (e ∷ es) = IsLegalNext script w e × IsLegalFrom script (world_after script w e) es

-- from the start
abbrev pub IsLegal : Script → List Entry → Type 0
IsLegal script journal = IsLegalFrom script (first_world script) journal

-- the world after more entries
abbrev pub world_along : Script → World → List Entry → World
world_along script w [] = w
world_along script w (e ∷ es) = world_along script (world_after script w e) es

-- the state, and the bytes, after a journal
abbrev pub world_of : Script → List Entry → World
world_of script journal = world_along script (first_world script) journal

-- the state alone
abbrev pub state_of : Script → List Entry → State
state_of script journal = (world_of script journal).state

-- the bytes alone
abbrev pub stores_of : Script → List Entry → Stores
stores_of script journal = (world_of script journal).stores

-- ---- the entries with the states in which they were made

-- an entry, and the state in which it was made
pub record Made : Type 0 where
  pub before : State
  pub entry : Entry

-- from a world on
abbrev pub made_along : Script → World → List Entry → List Made
made_along script w [] = []
made_along script w (e ∷ es) = record { before = w.state; entry = e } ∷ made_along script (world_after script w e) es

-- all entries of a journal
abbrev pub made_of : Script → List Entry → List Made
made_of script journal = made_along script (first_world script) journal
