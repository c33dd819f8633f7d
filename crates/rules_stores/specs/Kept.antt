-- The bytes that are kept of VRAM, of frames and of swap slots.
use Rattle.std.specs.Prelude.{◌≡◌, ℕ, ◌*◌, Bool, false, List, length, ◌&&◌, nat_lt, if◌then◌else◌}
use Rattle.journal_model.specs.declared.script.Sizes.{Sizes}
use Rattle.ttm_base.specs.Pages.{Page, nowhere, vram, frame, slot, PageBytes}
use Rattle.journal_model.specs.rules.Stores.{is_there}
use Rattle.rules_stores.specs.StoredPages.{stored_byte}

-- the new bytes where there are pages; elsewhere the old ones
abbrev pub within : Sizes → PageBytes → PageBytes → PageBytes
within sizes bytes old = λ page o. if is_there sizes page && nat_lt o 4096 then bytes page o else old page o

-- the bytes of three lists
abbrev pub bytes_in : (vram_bytes frame_bytes slot_bytes : List ℕ) → PageBytes
bytes_in v f s nowhere o = 0
bytes_in v f s (vram p) o = stored_byte v p o
bytes_in v f s (frame p) o = stored_byte f p o
bytes_in v f s (slot p) o = stored_byte s p o

-- the lists have the pages, frames and slots of the sizes
pub record HasSizes (sizes : Sizes) (v f s : List ℕ) : Type 0 where
  pub vram_len : length v ≡ 4096 * sizes.vram
  pub frames_len : length f ≡ 4096 * sizes.frames
  pub slots_len : length s ≡ 4096 * sizes.swap

-- three lists of bytes, for the pages, frames and slots of the sizes
pub record KeptBytes : Type 0 where
  pub sizes : Sizes
  pub vram : List ℕ
  pub frames : List ℕ
  pub slots : List ℕ

-- the bytes that are kept, by page and offset
abbrev pub bytes_of : KeptBytes → PageBytes
bytes_of k = bytes_in k.vram k.frames k.slots

-- the sizes stay, and the bytes of all pages that there are become these; elsewhere nothing changes
pub record BecomesBytes (old new : KeptBytes) (bytes : PageBytes) : Type 0 where
  pub same_sizes : new.sizes ≡ old.sizes
  pub bytes_are : bytes_of new ≡ within old.sizes bytes (bytes_of old)
