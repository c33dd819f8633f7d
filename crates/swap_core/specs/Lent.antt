-- A buffer as the rooms lend it.
use Rattle.std.specs.Prelude.{◌≡◌, Option, Some, None}
use Rattle.ttm_base.specs.declared.BufId.{BufId}
use Rattle.bo_table.specs.declared.bo.Bo.{Bo}
use Rattle.bo_table.specs.Seen.{reservation_of}
use Rattle.journal_model.specs.declared.state.State.{State}
use Rattle.journal_model.specs.rules.State.{buffer, reservation, new_buffer}
use Rattle.room_representation.specs.steps.Lent.{as_buffer}
use Rattle.room_representation.specs.Bos.{unfenced}

-- the buffer stands and is held as in the state
pub record IsAsIn (s : State) (b : BufId) (bo : Bo) : Type 0 where
  pub stands : as_buffer bo ≡ unfenced (buffer s b)
  pub held : reservation_of bo ≡ reservation s b

-- the buffer that is lent is as in the state; none is lent where the state has no such buffer
abbrev pub IsLent : State → BufId → Option Bo → Type 0
IsLent s b (Some bo) = IsAsIn s b bo
IsLent s b None = unfenced (buffer s b) ≡ new_buffer 0
