use Rattle.std.proofs.Common.{◌≡◌}
use Rattle.room_state.specs.turns.Turns.{state_behind}
use Rattle.evict_core.proofs.Rows.{rows_up_to}
use Rattle.evict_core.proofs.keepers.causes.Given as goal

-- the rows of the buffers before
abbrev pub invariant-loop-i : goal.invariant-loop-i
invariant-loop-i l = l.rows ≡ rows_up_to l.rooms.script (state_behind l.rooms).reservations l.place (state_behind l.rooms).core.buffers l.i
