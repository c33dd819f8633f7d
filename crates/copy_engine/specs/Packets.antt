-- What a packet does to stores, and which bytes it shows.
use Rattle.std.specs.Prelude.{◌≡◌, ℕ, List, length}
use Rattle.ttm_base.specs.declared.Packet.{Packet}
use Rattle.ttm_base.specs.Pages.{Page}
use Rattle.ttm_base.specs.Packets.{after_packet, probe_piece}
use Rattle.copy_packet.specs.declared.stores.Stores.{Stores}
use Rattle.copy_packet.specs.StoreBytes.{aperture_of, bytes_of}

-- the stores after a packet has run
pub record HasRun (packet : Packet) (old new : Stores) : Type 0 where
  pub bytes : (page : Page) (off : ℕ) → bytes_of new page off ≡ after_packet (aperture_of old) (bytes_of old) packet page off
  pub vram : length new.vram ≡ length old.vram
  pub frames : length new.frames ≡ length old.frames
  pub aper : new.aper ≡ old.aper

-- the bytes that a packet shows
abbrev pub shown_by : Packet → Stores → List ℕ
shown_by packet stores = probe_piece (aperture_of stores) (bytes_of stores) packet
