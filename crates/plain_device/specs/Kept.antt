-- What a device is: a script and a journal. And what a turn of an actor makes of it.
use Rattle.std.specs.Prelude.{◌≡◌, ℕ, ◌+◌, true, false, List, [], ◌∷◌, ◌++◌, Result, Ok, Err, length}
use Rattle.ttm_base.specs.declared.Actor.{Actor}
use Rattle.ttm_base.specs.declared.Need.{Need}
use Rattle.ttm_base.specs.declared.Turn.{Turn}
use Rattle.ttm_base.specs.declared.Turn.TheVariants as turn
use Rattle.journal_model.specs.declared.script.Script.{Script}
use Rattle.journal_model.specs.declared.entry.Entry.{Entry}
use Rattle.journal_model.specs.rules.Legal.{next_entry, world_of}
use Rattle.journal_model.specs.statements.Complete.{is_complete}

pub record Kept : Type 0 where
  pub script : Script
  pub journal : List Entry

-- the device with one entry more
abbrev pub with_entry : Kept → Entry → Kept
with_entry k e = record k { journal = k.journal ++ e ∷ [] }

-- the entry that the actor makes next, or what it needs first
abbrev pub entry_of : Kept → Actor → Result Entry Need
entry_of k who = next_entry k.script (world_of k.script k.journal) who

-- the answer to a turn of an actor whose next entry is this one, or that needs this, where the journal isn't complete
abbrev pub answer_of : Kept → Result Entry Need → Turn
answer_of k (Ok e) = turn.Made (length k.journal + 1)
answer_of k (Err need) = turn.Blocked need

-- the answer to a turn of an actor
abbrev pub turn_of : Kept → Actor → Turn
turn_of k who = elim (is_complete k.script k.journal) [ true ↦ turn.Over | false ↦ answer_of k (entry_of k who) ]

-- the device with the entry, if there is one
abbrev pub with_step : Kept → Result Entry Need → Kept
with_step k (Ok e) = with_entry k e
with_step k (Err need) = k

-- the device after a turn of an actor
abbrev pub after_turn : Kept → Actor → Kept
after_turn k who = elim (is_complete k.script k.journal) [ true ↦ k | false ↦ with_step k (entry_of k who) ]
