-- Where the buffers of the LRU's lists stand, and which were skipped.
use Rattle.std.specs.Prelude.{◌≡◌, ◌<◌, Bool, false, List, ◌&&◌, not, nat_lt, slice_index_or, if◌then◌else◌}
use Rattle.ttm_base.specs.declared.BufId.{BufId}
use Rattle.ttm_base.specs.declared.Mem.{Mem}
use Rattle.ttm_base.specs.declared.Span.{Span}
use Rattle.ttm_base.specs.Reach.{same_mem, intersects}
use Rattle.bo_table.specs.declared.bo.Bo.{Bo}
use Rattle.journal_model.specs.declared.state.State.{State}
use Rattle.journal_model.specs.rules.State.{buffer, reservation, has_buffer}
use Rattle.journal_model.specs.rules.Dry.{is_loose}

-- the buffer is live and stands in pages of `within` in the memory type
abbrev pub stands_in : Bo → Mem → Span → Bool
stands_in bo mem within = bo.alive && (same_mem bo.mem mem && intersects bo.spans within)

-- `marks` has a mark at the number of each buffer of `skips`, as far as it goes
abbrev pub AreMarks : List BufId → List Bool → Type 0
AreMarks skips marks = (b : BufId) → b.0 < 256 → slice_index_or marks b.0 false ≡ has_buffer skips b

-- the buffer was skipped, by its mark where there is one for its number
abbrev pub was_skipped : List BufId → List Bool → BufId → Bool
was_skipped skips marks b = if nat_lt b.0 256 then slice_index_or marks b.0 false else has_buffer skips b

-- the buffer is in the memory type with a page of `within`, has no pin and no holder, and wasn't skipped
abbrev pub is_evictable_in : State → Mem → Span → Bool → BufId → Bool
is_evictable_in s mem within skipped b = let x = buffer s b in same_mem x.mem mem && intersects x.spans within && is_loose (reservation s b) && not skipped
