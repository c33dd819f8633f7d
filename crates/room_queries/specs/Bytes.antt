-- The bytes of a page, as the parts have them.
use Rattle.std.specs.Prelude.{ℕ, ◌<◌, List, [], map, length, replicate}
use Rattle.ttm_base.specs.ListWords.{count_from}
use Rattle.ttm_base.specs.Pages.{Page, nowhere, vram, frame, slot, PageBytes}
use Rattle.copy_packet.specs.StoreBytes.{byte_at, HasPage}
use Rattle.bo_table.specs.declared.bo.Bo.{Bo}
use Rattle.journal_model.specs.declared.state.Buffer.{Buffer}
use Rattle.journal_model.specs.rules.Places.{page_at}
use Rattle.room_representation.specs.declared.parts.Parts.{Parts}
use Rattle.room_queries.specs.declared.bytes.Standing.{Standing}
use Rattle.room_queries.specs.declared.bytes.Standing.TheVariants.{Nowhere, Vram, Frame, Slot}

-- the page as the definitions name it
abbrev pub page_of : Standing → Page
page_of Nowhere = nowhere
page_of (Vram p) = vram p
page_of (Frame f) = frame f
page_of (Slot k) = slot k

-- the buffer that the table lends, without its fences
abbrev pub standing : Bo → Buffer
standing bo = record { mem = bo.mem; spans = bo.spans; table = bo.table; targets = bo.targets; fences = [] }

-- where page `i` of the buffer stands
abbrev pub page_of_bo : Bo → ℕ → Page
page_of_bo bo i = page_at (standing bo) i

-- `len` zeros
abbrev pub zeros : ℕ → List ℕ
zeros len = replicate len 0

-- the byte of a page at an offset
abbrev pub byte_in : Parts → PageBytes
byte_in p nowhere off = 0
byte_in p (vram n) off = byte_at p.stores.vram n off
byte_in p (frame f) off = byte_at p.stores.frames f off
byte_in p (slot k) off = byte_at p.swap.bytes k off

-- `len` bytes of a page from `off` on
abbrev pub bytes_in : Parts → Page → ℕ → ℕ → List ℕ
bytes_in p page off len = map (byte_in p page) (count_from 1 len off)

-- the parts have the page, if it stands anywhere
abbrev pub HasPart : Parts → Page → Type 0
HasPart p nowhere = Unit {0}
HasPart p (vram n) = HasPage p.stores.vram n
HasPart p (frame f) = HasPage p.stores.frames f
HasPart p (slot k) = k < length p.swap.held
