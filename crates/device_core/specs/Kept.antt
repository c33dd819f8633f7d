-- What a device is: a script and a journal, as the rooms are. And what a turn of an actor makes of it.
use Rattle.std.specs.Prelude.{◌+◌, true, false, Bool, List, Option, Some, None, Result, Ok, Err, find, length}
use Rattle.ttm_base.specs.declared.Actor.{Actor}
use Rattle.ttm_base.specs.declared.Need.{Need}
use Rattle.ttm_base.specs.declared.Turn.{Turn}
use Rattle.ttm_base.specs.declared.Turn.TheVariants as turn
use Rattle.journal_model.specs.declared.entry.Entry.{Entry}
use Rattle.journal_model.specs.statements.Complete.{is_complete}
use Rattle.journal_model.specs.statements.DeadEnd.{can_step}
use Rattle.journal_model.specs.statements.Scheduled.{own_order}
use Rattle.turn_order.specs.declared.TurnOrder.{TurnOrder}
use Rattle.turn_order.specs.Left.{left}
pub use Rattle.room_state.specs.turns.Turns.{Kept, state_behind, world_behind, with_entry, entry_of, after_step}

-- the answer to a turn of an actor with the given next entry or need, where the journal isn't complete
abbrev pub answer_of : Kept → Result Entry Need → Turn
answer_of k (Ok e) = turn.Made (length k.journal + 1)
answer_of k (Err need) = turn.Blocked need

-- the answer to a turn of an actor
abbrev pub turn_of : Kept → Actor → Turn
turn_of k who = elim (is_complete k.script k.journal) [ true ↦ turn.Over | false ↦ answer_of k (entry_of k who) ]

-- the device after a turn of an actor
abbrev pub after_turn : Kept → Actor → Kept
after_turn k who = elim (is_complete k.script k.journal) [ true ↦ k | false ↦ after_step k (entry_of k who) ]

-- the actor has an entry
abbrev pub goes_on : Kept → Actor → Bool
goes_on k who = can_step k.script (state_behind k) who

-- the actors in the order in which the simulator looks for one that has an entry
abbrev pub order_of : Kept → List Actor
order_of k = own_order k.script (state_behind k)

-- the actors of it that are still to be asked
abbrev pub left_in : Kept → TurnOrder → List Actor
left_in k order = left k.script (state_behind k).courses order

-- the first actor in that order that has an entry
abbrev pub next_actor : Kept → Option Actor
next_actor k = find (goes_on k) (order_of k)

-- the device with the entry of the actor, if there is one
abbrev pub after_found : Kept → Option Actor → Kept
after_found k None = k
after_found k (Some who) = after_step k (entry_of k who)
