-- Frames, slots, bytes and the aperture, as the state and its journal's bytes tell them.
use Rattle.std.specs.Prelude.{◌≡◌, ℕ, ◌*◌, ◌<◌, Bool, true, false, ◌&&◌, nat_lt, List, map, length}
use Rattle.ttm_base.specs.ListWords.{count_from}
use Rattle.ttm_base.specs.Pages.{Page, vram, frame, slot, PageBytes, Aperture}
use Rattle.copy_packet.specs.declared.stores.Stores.{Stores}
use Rattle.copy_packet.specs.StoreBytes.{bytes_of, byte_at, aperture_of}
use Rattle.swap_store.specs.Slots.{SwapSlots}
use Rattle.journal_model.specs.declared.script.Sizes.{Sizes}
use Rattle.journal_model.specs.rules.Holds.{has_number}
use Rattle.journal_model.specs.rules.Stores.{is_there}

-- which of the numbers below the size are held
abbrev pub marks : List ℕ → ℕ → List Bool
marks held size = map (has_number held) (count_from 1 size 0)

-- a pool holds the frames that are held in the state
pub record ArePooled (size : ℕ) (held : List ℕ) (pool : List Bool) : Type 0 where
  pub held_are : pool ≡ marks held size

-- a swap store holds the slots that tables name, and each of its slots, held or free, has the bytes of the journal
pub record AreSlots (size : ℕ) (named : List ℕ) (bytes : PageBytes) (s : SwapSlots) : Type 0 where
  pub held_are : s.held ≡ marks named size
  pub bytes_are : (k o : ℕ) → k < size → byte_at s.bytes k o ≡ bytes (slot k) o

-- the stores have the bytes of the journal, and the aperture is the state's
pub record AreStores (sizes : Sizes) (aper : Aperture) (bytes : PageBytes) (s : Stores) : Type 0 where
  pub vram_size : length s.vram ≡ 4096 * sizes.vram
  pub frame_size : length s.frames ≡ 4096 * sizes.frames
  pub aper_size : length s.aper ≡ sizes.tt
  pub in_vram : (p o : ℕ) → bytes_of s (vram p) o ≡ bytes (vram p) o
  pub in_frames : (f o : ℕ) → bytes_of s (frame f) o ≡ bytes (frame f) o
  pub mapped : (p : ℕ) → aperture_of s p ≡ aper p

-- there are no bytes beyond the pages that there are
abbrev pub HasNoMore : Sizes → PageBytes → Type 0
HasNoMore sizes bytes = (page : Page) (o : ℕ) → (is_there sizes page && nat_lt o 4096) ≡ false → bytes page o ≡ 0
