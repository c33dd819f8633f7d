-- Which buffers and ghosts keep pages of a place, as the table of buffers and the ghosts tell it.
use Rattle.std.specs.Prelude.{◌≡◌, ℕ, Bool, List, [], Option, Some, None, ◌&&◌, ◌||◌, if◌then◌else◌, is_some, find, slice_get}
use Rattle.ttm_base.specs.declared.BufId.{BufId}
use Rattle.ttm_base.specs.declared.Mem.{Mem}
use Rattle.ttm_base.specs.declared.Mem.TheVariants.{System, Tt, Vram}
use Rattle.ttm_base.specs.declared.Place.{Place}
use Rattle.ttm_base.specs.declared.Span.{Span}
use Rattle.ttm_base.specs.Reach.{same_mem, intersects}
use Rattle.bo_table.specs.declared.bo.Bo.{Bo}
use Rattle.bo_table.specs.Seen.{reservation_of}
use Rattle.journal_model.specs.declared.script.Script.{Script}
use Rattle.journal_model.specs.declared.state.Buffer.{Buffer}
use Rattle.journal_model.specs.declared.entry.CauseRow.{CauseRow}
use Rattle.journal_model.specs.declared.state.Ghost as state
use Rattle.journal_model.specs.rules.Holds as holds
use Rattle.journal_model.specs.rules.State.{target_of}
use Rattle.journal_model.specs.rules.Dry.{cause_of}
use Rattle.room_representation.specs.declared.parts.Ghost.{Ghost}

-- the buffer that the table lends, without its fences
abbrev pub buffer_of : Bo → Buffer
buffer_of bo = record { mem = bo.mem; spans = bo.spans; table = bo.table; targets = bo.targets; fences = [] }

-- the buffer is live, and has its resource or a target in the place's manager
abbrev pub is_kept_in : Place → Bo → Bool
is_kept_in place bo = bo.alive && (same_mem bo.mem place.mem || is_some (target_of place.mem bo.targets))

-- the buffer with the cause why it can't be evicted, if it is kept in the place's manager
abbrev pub row_in : Script → Place → BufId → Bo → Option CauseRow
row_in script place b bo = if is_kept_in place bo then Some (record { b = b; cause = cause_of script place (reservation_of bo) (buffer_of bo) }) else None

-- the spans of a ghost in a memory type
abbrev pub ghost_spans : Mem → Ghost → List Span
ghost_spans System g = []
ghost_spans Tt g = g.tt
ghost_spans Vram g = g.vram

-- the ghost holds pages of `within` in the memory type
abbrev pub holds_in : Mem → Span → Ghost → Bool
holds_in mem within g = intersects (ghost_spans mem g) within

-- the first ghost that holds pages of `within` in the memory type
abbrev pub ghost_in : Mem → Span → List Ghost → Option Ghost
ghost_in mem within gs = find (holds_in mem within) gs

-- none of the state's ghosts holds pages of the memory type
abbrev pub HoldNone : Mem → List state.Ghost → Type 0
HoldNone mem gs = (i : ℕ) (g : state.Ghost) → slice_get gs i ≡ Some g → holds.ghost_spans mem g ≡ []
