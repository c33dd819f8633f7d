-- What C asks for, in the terms of the managers.
use Rattle.std.specs.Prelude.{ℕ, ◌==◌, ◌%◌, ◌/◌, ◌&&◌, Bool, nat_lt, List, Option, Some, None, max, map, take, if◌then◌else◌}
use Rattle.ttm_base.specs.declared.Span.{Span}
use Rattle.ttm_base.specs.declared.Mode.{Mode}
use Rattle.ttm_base.specs.declared.Mode.TheVariants.{Best, Low, High}
use Rattle.ttm_base.specs.Holes.{holes, is_free_beside}
use Rattle.ttm_base.specs.RangeChoice.{range_choice}
use Rattle.ttm_base.specs.BuddyChoice.{buddy_choice}
use Rattle.mm_c.specs.declared.blocks.BlockRequest.{BlockRequest}
use Rattle.mm_c.specs.declared.page_span.PageSpan.{PageSpan}
use Rattle.mm_c.specs.States.{State}

abbrev pub span_of : PageSpan → Span
span_of s = record { start = s.start; end = s.end }

abbrev pub first_spans : ℕ → List PageSpan → List Span
first_spans n spans = map span_of (take n spans)

-- a mode by its number
abbrev pub mode_of : ℕ → Option Mode
mode_of n = if n == 0 then Some Best else if n == 1 then Some Low else if n == 2 then Some High else None

-- the pages that an insert takes; an align of 0 asks for no alignment
abbrev pub range_for : State → ℕ → ℕ → ℕ → Span → Option Span
range_for m mode pages align range = elim (mode_of mode) [
  | Some md ↦ range_choice md (holes (is_free_beside m.held) m.size) pages (max 1 align) range
  | None ↦ None
]

-- the flags: 1 is topdown, 2 is contiguous
abbrev pub is_topdown : ℕ → Bool
is_topdown flags = flags % 2 == 1

abbrev pub is_contiguous : ℕ → Bool
is_contiguous flags = flags / 2 % 2 == 1

-- the request is for pages, with known flags
abbrev pub is_block_request : BlockRequest → Bool
is_block_request r = nat_lt 0 r.pages && nat_lt r.flags 4

-- the blocks that an alloc takes
abbrev pub blocks_for : State → BlockRequest → Option (List Span)
blocks_for m r = buddy_choice (is_free_beside m.held) m.size (record { start = r.first; end = r.last }) (is_topdown r.flags) (is_contiguous r.flags) r.pages
