-- Where the pages of buffers stand, how packets name them, and the aperture of TT.
use Rattle.std.specs.Prelude.{ℕ, Bool, List, [], Option, Some, None, ◌++◌, ◌==◌, unwrap_or, option_map, slice_get, filter_map, flat_map, find, zip, is_some}
use Rattle.journal_model.specs.Types.{BufId, Buffer, Core, Loc, Mem, PagePlace, Span}
use Rattle.ttm_base.specs.declared.Mem.TheVariants.{System, Tt, Vram}
use Rattle.ttm_base.specs.declared.Loc.TheVariants as loc
use Rattle.ttm_base.specs.declared.PagePlace.TheVariants as place
use Rattle.ttm_base.specs.ListWords.{count_from}
use Rattle.ttm_base.specs.Reach.{length_of}
use Rattle.ttm_base.specs.Pages.{Page, nowhere, vram, frame, slot, Aperture}
use Rattle.journal_model.specs.rules.State.{buffer_in}

-- ---- pages of spans and of tables (ttm_resource, ttm_tt)

-- the pages of a span
abbrev pub pages_of_span : Span → List ℕ
pages_of_span s = count_from 1 (length_of s) s.start

-- the pages of spans, in order
abbrev pub pages_of : List Span → List ℕ
pages_of spans = flat_map pages_of_span spans

-- the page of the spans at a position
abbrev pub page_of_spans : List Span → ℕ → ℕ
page_of_spans spans i = unwrap_or (slice_get (pages_of spans) i) 0

-- what a page table says of a page
abbrev pub loc_of : Buffer → ℕ → Loc
loc_of x i = unwrap_or (slice_get x.table i) loc.Zero

-- the frame, if it is one
abbrev pub frame_of : Loc → Option ℕ
frame_of (loc.Frame f) = Some f
frame_of (loc.Slot k) = None
frame_of loc.Zero = None

-- it is a frame
abbrev pub is_frame : Loc → Bool
is_frame l = is_some (frame_of l)

-- the slot, if it is one
abbrev pub slot_of : Loc → Option ℕ
slot_of (loc.Slot k) = Some k
slot_of (loc.Frame f) = None
slot_of loc.Zero = None

-- the frames of a buffer
abbrev pub frames_of : Buffer → List ℕ
frames_of x = filter_map frame_of x.table

-- the slots of a buffer
abbrev pub slots_of : Buffer → List ℕ
slots_of x = filter_map slot_of x.table

-- ---- the place of a page

-- a page of VRAM, or nowhere
abbrev pub page_in_vram : Option ℕ → Page
page_in_vram None = nowhere
page_in_vram (Some p) = vram p

-- what the table says
abbrev pub page_in_table : Loc → Page
page_in_table (loc.Frame f) = frame f
page_in_table (loc.Slot k) = slot k
page_in_table loc.Zero = nowhere

-- by memory type
abbrev pub page_in : Mem → Buffer → ℕ → Page
page_in Vram x i = page_in_vram (slice_get (pages_of x.spans) i)
page_in Tt x i = page_in_table (loc_of x i)
page_in System x i = page_in_table (loc_of x i)

-- page i of a buffer: in VRAM the page of its spans, else what its table says; a page that is Zero stands nowhere
abbrev pub page_at : Buffer → ℕ → Page
page_at x i = page_in x.mem x i

-- the same by number; a buffer that isn't live has no page
abbrev pub place_of : Core → BufId → ℕ → Page
place_of c b i = page_at (buffer_in c b) i

-- ---- how packets name it

-- the i-th page of spans
abbrev pub name_in_spans : Mem → List Span → ℕ → PagePlace
name_in_spans Vram spans i = place.Vram (page_of_spans spans i)
name_in_spans Tt spans i = place.Aper (page_of_spans spans i)
name_in_spans System spans i = place.Frame 0

-- the frame in the table
abbrev pub name_in_table : Buffer → ℕ → PagePlace
name_in_table x i = place.Frame (unwrap_or (frame_of (loc_of x i)) 0)

-- by memory type
abbrev pub name_in : Mem → Buffer → ℕ → PagePlace
name_in Vram x i = name_in_spans Vram x.spans i
name_in Tt x i = name_in_spans Tt x.spans i
name_in System x i = name_in_table x i

-- a packet names a page of VRAM, the aperture page of a buffer in TT, or the frame of a buffer in SYSTEM
abbrev pub packet_place : Buffer → ℕ → PagePlace
packet_place x i = name_in x.mem x i

-- ---- the aperture

-- a page of TT with its frame
abbrev pub mapped_frame : ℕ × Loc → Option (ℕ × ℕ)
mapped_frame e = option_map (λ f. (e.0, f)) (frame_of e.1)

-- the pages of a buffer in TT
abbrev pub mapped_in : Mem → Buffer → List (ℕ × ℕ)
mapped_in Tt x = filter_map mapped_frame (zip (pages_of x.spans) x.table)
mapped_in Vram x = []
mapped_in System x = []

-- each page of TT with its frame: those of live buffers in TT, and those of ghosts
abbrev pub mapped_pages : Core → List (ℕ × ℕ)
mapped_pages c =
    flat_map (λ x. mapped_in x.mem x) (filter_map (λ x. x) c.buffers) ++ flat_map (λ g. zip (pages_of g.tt) g.frames) c.ghosts

-- of each page of TT the frame to which it is mapped
abbrev pub aperture : Core → Aperture
aperture c = λ page. option_map (λ e. e.1) (find (λ e. e.0 == page) (mapped_pages c))
