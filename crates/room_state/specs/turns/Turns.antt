-- What a turn of an actor makes of the rooms.
use Rattle.std.specs.Prelude.{Result, Ok, Err}
use Rattle.ttm_base.specs.declared.Actor.{Actor}
use Rattle.ttm_base.specs.declared.Need.{Need}
use Rattle.journal_model.specs.declared.entry.Entry.{Entry}
use Rattle.journal_model.specs.declared.entry.Kind.{Kind}
use Rattle.journal_model.specs.rules.Legal.{next_entry}
pub use Rattle.room_state.specs.Kept.{Kept, state_behind, with_entry, world_behind}
use Rattle.room_state.specs.declared.turns.Step.{Step}
use Rattle.room_state.specs.declared.turns.Step.TheVariants as step

-- the actor's legal entry, or its need
abbrev pub entry_of : Kept → Actor → Result Entry Need
entry_of k who = next_entry k.script (world_behind k) who

-- the actor's entry of the given kind, or its need
abbrev pub entry_by : Actor → Result Kind Need → Result Entry Need
entry_by who (Ok k) = Ok (record { who = who; kind = k })
entry_by who (Err need) = Err need

-- the answer to an actor with the given next entry, or with the given need
abbrev pub step_of : Result Entry Need → Step
step_of (Ok e) = step.Made
step_of (Err need) = step.Need need

-- the answer to an actor whose next entry has the given kind, or that has the given need
abbrev pub step_by : Result Kind Need → Step
step_by (Ok k) = step.Made
step_by (Err need) = step.Need need

-- the rooms with the entry appended, if there is one
abbrev pub after_step : Kept → Result Entry Need → Kept
after_step k (Ok e) = with_entry k e
after_step k (Err need) = k
