use Rattle.std.proofs.Common.{◌≡◌, find, length}
use Rattle.lru_bulk.specs.Lists.{list_at, list_number}
use Rattle.lru_bulk.specs.Members.{IsListedFor}
use Rattle.room_state.specs.turns.Rests.{from_on}
use Rattle.room_state.proofs.turns.walk.first_on_list.Given as goal

-- the first of what is left is the first of the list
abbrev pub invariant-loop-b : goal.invariant-loop-b
invariant-loop-b g l =
    (find (g.T.BufferTest.accepts l.test) (from_on l.b (list_at l.lru.lists (list_number l.fn.mem l.prio))) ≡ find (g.T.BufferTest.accepts l.test) (list_at l.lru.lists (list_number l.fn.mem l.prio)))
    × IsListedFor l.lru (list_number l.fn.mem l.prio) l.b

abbrev pub decreases-loop-b : goal.decreases-loop-b
decreases-loop-b g l = length (from_on l.b (list_at l.lru.lists (list_number l.fn.mem l.prio)))
