use Rattle.std.proofs.Common.{◌≡◌, ◌+◌, ◌-◌, ◌*◌, find}
use Rattle.ttm_base.specs.Reach.{mem_number}
use Rattle.room_state.specs.turns.Rests.{in_order, joined}
use Rattle.room_state.proofs.turns.walk.first_passing.Given as goal

-- the first on the lists that are left is the first of all
abbrev pub invariant-loop-prio : goal.invariant-loop-prio
invariant-loop-prio g l = find (g.T.BufferTest.accepts l.test) (joined (4 - l.prio) (4 * mem_number l.mem + l.prio) l.lru.lists) ≡ find (g.T.BufferTest.accepts l.test) (in_order l.mem l.lru.lists)
