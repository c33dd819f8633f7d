-- How packets name the pages of buffers as they stand in a table.
use Rattle.std.specs.Prelude.{ℕ, List, [], Option, None, length, nat_lt, slice_get, unwrap_or, if◌then◌else◌}
use Rattle.ttm_base.specs.declared.BufId.{BufId}
use Rattle.ttm_base.specs.declared.Loc.{Loc}
use Rattle.ttm_base.specs.declared.Loc.TheVariants as loc
use Rattle.ttm_base.specs.declared.PagePlace.{PagePlace}
use Rattle.ttm_base.specs.declared.PagePlace.TheVariants as place
use Rattle.ttm_base.specs.Cutting.{PageMap}
use Rattle.journal_model.specs.declared.state.Buffer.{Buffer}
use Rattle.journal_model.specs.rules.State.{live_in, new_buffer}
use Rattle.journal_model.specs.rules.Places.{frame_of, packet_place}
use Rattle.bo_table.specs.declared.bo.Bo.{Bo}
use Rattle.bo_table.specs.Seen.{Bos}

-- the buffer that the table lends, without its fences
abbrev pub body_in : Bo → Buffer
body_in bo = record { mem = bo.mem; spans = bo.spans; table = bo.table; targets = bo.targets; fences = [] }

-- the frame that a page table has for a page; frame 0 where it has none
abbrev pub frame_place : List Loc → ℕ → PagePlace
frame_place table page = place.Frame (unwrap_or (frame_of (unwrap_or (slice_get table page) loc.Zero)) 0)

-- buffer `b`, if the table has it and it is live
abbrev pub standing_in : Bos → BufId → Option Buffer
standing_in t b = if nat_lt b.0 (length t.reservations) then live_in t.buffers b else None

-- how packets name a page: as a page of VRAM, an aperture page of a buffer in TT, or the frame of a buffer in SYSTEM; frame 0 where there is no such
-- buffer
abbrev pub standing_names : Bos → PageMap
standing_names t = λ b. packet_place (unwrap_or (standing_in t b) (new_buffer 0))
