-- What tasks depend on, as the table of buffers tells it.
use Rattle.std.specs.Prelude.{◌≡◌, [], Option, Some, None, length}
use Rattle.bo_table.specs.declared.bo.Bo.{Bo}
use Rattle.bo_table.specs.Seen.{Bos}
use Rattle.journal_model.specs.declared.state.Buffer.{Buffer}
use Rattle.journal_model.specs.declared.state.State.{State}
use Rattle.journal_model.specs.rules.State.{new_buffer}
use Rattle.room_representation.specs.steps.Lent.{as_buffer}

-- the state with the buffers of a table, without their fences, and with their reservations: tasks depend on no more
abbrev pub seen : Bos → State
seen t =
    record {
      core = record { buffers = t.buffers; jobs = []; ghosts = []; move_fence = None };
      reservations = t.reservations;
      lists = [];
      last_stamp = 0;
      last_ghost = 0;
      last_jobs = [];
      courses = [];
    }

-- the buffer that the table lends; where there is none, an empty one in SYSTEM
abbrev pub standing : Option Bo → Buffer
standing None = new_buffer 0
standing (Some bo) = as_buffer bo

-- each buffer of the table has a reservation
abbrev pub HasReservations : Bos → Type 0
HasReservations t = length t.reservations ≡ length t.buffers
