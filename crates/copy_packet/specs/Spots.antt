-- Bytes of stores by their position in VRAM, or in frames.
use Rattle.std.specs.Prelude.{ℕ, ◌+◌, ◌*◌, ◌%◌, ◌≤◌, List, length}
use Rattle.ttm_base.specs.Pages.{Page, nowhere, vram, frame, slot}
use Rattle.byte_store.specs.Parts.{overwritten, part}
use Rattle.copy_packet.specs.declared.stores.Stores.{Stores}
use Rattle.copy_packet.specs.declared.stores.Spot.{Spot}
use Rattle.copy_packet.specs.declared.stores.Spot.TheVariants as spot

-- the position of a byte of a page that has bytes
abbrev pub spot_at : Page → ℕ → Spot
spot_at nowhere off = spot.Frames off
spot_at (vram p) off = spot.Vram (4096 * p + off)
spot_at (frame f) off = spot.Frames (4096 * f + off)
spot_at (slot k) off = spot.Frames off

-- the stores have this number of bytes from a position on
abbrev pub Fits : Stores → Spot → ℕ → Type 0
Fits s (spot.Vram at) len = at + len ≤ length s.vram
Fits s (spot.Frames at) len = at + len ≤ length s.frames

-- this number of bytes from a position on lie on one page
abbrev pub IsOnPage : Spot → ℕ → Type 0
IsOnPage (spot.Vram at) len = at % 4096 + len ≤ 4096
IsOnPage (spot.Frames at) len = at % 4096 + len ≤ 4096

-- the len bytes from a position on
abbrev pub part_at : Stores → Spot → ℕ → List ℕ
part_at s (spot.Vram at) len = part s.vram at len
part_at s (spot.Frames at) len = part s.frames at len

-- the stores after other bytes were written from a position on
abbrev pub after_write : Stores → Spot → List ℕ → Stores
after_write s (spot.Vram at) bytes = record s { vram = overwritten s.vram at bytes }
after_write s (spot.Frames at) bytes = record s { frames = overwritten s.frames at bytes }
