-- The frames at pages of TT: those of live buffers, and those of ghosts.
use Rattle.std.specs.Prelude.{ℕ, List, [], Option, None, Some, ◌==◌, ◌-◌, filter_map, find, option_map, option_and_then, slice_get, zip, if◌then◌else◌}
use Rattle.ttm_base.specs.declared.Span.{Span}
use Rattle.ttm_base.specs.declared.Loc.{Loc}
use Rattle.ttm_base.specs.Holes.{has_page}
use Rattle.journal_model.specs.declared.state.Buffer.{Buffer}
use Rattle.journal_model.specs.declared.state.Ghost.{Ghost}
use Rattle.journal_model.specs.rules.Places.{pages_of, mapped_frame, mapped_in}

-- the frame that stands beside a page
abbrev pub frame_beside : ℕ → List (ℕ × ℕ) → Option ℕ
frame_beside page mapped = option_map (λ e. e.1) (find (λ e. e.0 == page) mapped)

-- the frame at a page of these spans, by a page table
abbrev pub frame_in_table : List Span → List Loc → ℕ → Option ℕ
frame_in_table spans table page = frame_beside page (filter_map mapped_frame (zip (pages_of spans) table))

-- the frame at a page of these spans, by a list of frames
abbrev pub frame_in_frames : List Span → List ℕ → ℕ → Option ℕ
frame_in_frames spans frames page = frame_beside page (zip (pages_of spans) frames)

-- the frame at a page, if the span has it
abbrev pub at_span : {X : Type 0} → (X → Option ℕ) → Span → List X → ℕ → Option ℕ
at_span frame s table page = if has_page page s then option_and_then frame (slice_get table (page - s.start)) else None

-- the pages of TT with their frames that a declared buffer has
abbrev pub live_mapped : Option Buffer → List (ℕ × ℕ)
live_mapped None = []
live_mapped (Some x) = mapped_in x.mem x

-- the pages of TT with their frames that a ghost has
abbrev pub ghost_mapped : Ghost → List (ℕ × ℕ)
ghost_mapped g = zip (pages_of g.tt) g.frames
