-- The bytes of stores by page and offset, and the pages that they have.
use Rattle.std.specs.Prelude.{ℕ, ◌+◌, ◌*◌, ◌≤◌, List, length, nat_lt, slice_index, if◌then◌else◌}
use Rattle.ttm_base.specs.Pages.{Page, nowhere, vram, frame, slot, PageBytes, Aperture}
use Rattle.aperture_table.specs.Translation.{frame_at}
use Rattle.copy_packet.specs.declared.stores.Stores.{Stores}

-- the byte of a page at an offset, among the bytes of pages one after the other; past the end of a page there are zeros
abbrev pub byte_at : List ℕ → ℕ → ℕ → ℕ
byte_at bytes page off = if nat_lt off 4096 then slice_index bytes (4096 * page + off) else 0

-- the bytes of all pages; engines reach no swap slot
abbrev pub bytes_of : Stores → PageBytes
bytes_of s nowhere off = 0
bytes_of s (vram p) off = byte_at s.vram p off
bytes_of s (frame f) off = byte_at s.frames f off
bytes_of s (slot k) off = 0

-- the aperture as a function
abbrev pub aperture_of : Stores → Aperture
aperture_of s page = frame_at s.aper page

-- a list of bytes has the page
abbrev pub HasPage : List ℕ → ℕ → Type 0
HasPage bytes page = 4096 * page + 4096 ≤ length bytes

-- the stores have the page
abbrev pub IsThere : Stores → Page → Type 0
IsThere s nowhere = ⊥
IsThere s (vram p) = HasPage s.vram p
IsThere s (frame f) = HasPage s.frames f
IsThere s (slot k) = ⊥
