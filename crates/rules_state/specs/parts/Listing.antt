-- On which lists a buffer stands.
use Rattle.std.specs.Prelude.{List, Option, Some, None, ◌==◌, option_map, if◌then◌else◌}
use Rattle.ttm_base.specs.declared.Mem.{Mem}
use Rattle.ttm_base.specs.declared.BufId.{BufId}
use Rattle.journal_model.specs.declared.script.Script.{Script}
use Rattle.journal_model.specs.declared.state.Buffer.{Buffer}
use Rattle.journal_model.specs.declared.state.Reservation.{Reservation}
use Rattle.journal_model.specs.rules.State.{live_in, reservation_in}
use Rattle.journal_model.specs.rules.Lists.{taken_off, put_on}

-- the memory type in whose lists a buffer stands: that of a live buffer without pins
abbrev pub listed_mem : Reservation → Option Buffer → Option Mem
listed_mem g None = None
listed_mem g (Some x) = if g.pins == 0 then Some x.mem else None

-- the lists with the buffer on that of a memory type alone, or on none
abbrev pub listed_in : Script → List (List BufId) → BufId → Option Mem → List (List BufId)
listed_in script lists b None = taken_off lists b
listed_in script lists b (Some mem) = put_on script (taken_off lists b) b mem

-- the lists after a buffer went to a memory type
abbrev pub relisted : Script → List (Option Buffer) → List Reservation → List (List BufId) → BufId → Mem → List (List BufId)
relisted script buffers reservations lists b mem = listed_in script lists b (option_map (λ m. mem) (listed_mem (reservation_in reservations b) (live_in buffers b)))
