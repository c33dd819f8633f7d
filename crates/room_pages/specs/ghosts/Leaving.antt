-- What a buffer that is freed leaves, and where its thread stands then.
use Rattle.std.specs.Prelude.{ℕ, List, [], Option, Some, None, filter_map, length, replicate, if◌then◌else◌}
use Rattle.ttm_base.specs.declared.BufId.{BufId}
use Rattle.ttm_base.specs.declared.Mem.{Mem}
use Rattle.ttm_base.specs.declared.Mem.TheVariants.{Tt, Vram}
use Rattle.ttm_base.specs.declared.Span.{Span}
use Rattle.ttm_base.specs.declared.Usage.TheVariants.{Read}
use Rattle.ttm_base.specs.Reach.{same_mem}
use Rattle.fence_core.specs.declared.fence_set.Latest.{Latest}
use Rattle.fence_core.specs.Fences.{nothing_kept, all_added}
use Rattle.lru_bulk.specs.declared.nodes.Listing.{Listing}
use Rattle.lru_bulk.specs.Lists.{Order, listing_of, removed}
use Rattle.bo_table.specs.declared.bo.Bo.{Bo}
use Rattle.journal_model.specs.declared.state.Course.{Course}
use Rattle.journal_model.specs.rules.ApplyCommands.{has_made}
use Rattle.journal_model.specs.rules.Places.{frame_of}
use Rattle.journal_model.specs.rules.State.{without_buffer}
use Rattle.room_representation.specs.declared.parts.Ghost.{Ghost}

-- the spans of the memory type `mem`, as `mine` sees them: none where it is another one
abbrev pub spans_if : Mem → Mem → List Span → List Span
spans_if mem mine spans = if same_mem mem mine then spans else []

-- all jobs of the set, in a new one
abbrev pub all_jobs : List Latest → List Latest
all_jobs set = all_added Read (replicate (length set) nothing_kept) set

-- the ghost number `g` of a buffer, with its spans, its frames and all its jobs
abbrev pub ghost_of : Bo → ℕ → Ghost
ghost_of bo g =
    record {
      num = g;
      vram = spans_if bo.mem Vram bo.spans;
      tt = spans_if bo.mem Tt bo.spans;
      frames = filter_map frame_of bo.table;
      jobs = all_jobs bo.resv.fences;
    }

-- the lists without buffer `b`, which stands on one if a listing is given
abbrev pub off_list_as : Order → BufId → Option Listing → Order
off_list_as o b None = o
off_list_as o b (Some x) = removed o b

-- the lists without buffer `b`
abbrev pub off_list : Order → BufId → Order
off_list o b = off_list_as o b (listing_of o b)

-- the course once the thread has freed the buffer, and holds it no more
abbrev pub freeing : BufId → Course → Course
freeing b c = has_made (record c { held = without_buffer c.held b })
