-- What a packet needs to run.
use Rattle.std.specs.Prelude.{ℕ, ◌+◌, ◌≤◌}
use Rattle.ttm_base.specs.declared.Packet.{Packet}
use Rattle.ttm_base.specs.declared.Packet.TheVariants as packet
use Rattle.ttm_base.specs.declared.PagePlace.{PagePlace}
use Rattle.ttm_base.specs.Pages.{translated}
use Rattle.copy_packet.specs.declared.stores.Stores.{Stores}
use Rattle.copy_packet.specs.StoreBytes.{IsThere, aperture_of}

-- the stores have the page, and the range is in it; an aperture page is mapped to a frame that the stores have
abbrev pub IsPart : Stores → PagePlace → ℕ → ℕ → Type 0
IsPart s place off len = IsThere s (translated (aperture_of s) place) × (off + len ≤ 4096)

-- all parts of the packet are there, and a probe shows at most 256 bytes
abbrev pub CanRun : Stores → Packet → Type 0
CanRun s (packet.Fill to off len byte) = IsPart s to off len
CanRun s (packet.Copy to toff from foff len) = IsPart s to toff len × IsPart s from foff len
CanRun s (packet.Xor to toff from foff len) = IsPart s to toff len × IsPart s from foff len
CanRun s (packet.Probe from off len) = IsPart s from off len × (len ≤ 256)
