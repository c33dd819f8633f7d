-- What operations need, so that all their packets can run.
use Rattle.std.specs.Prelude.{ℕ, ◌<◌, ◌≤◌, List, [], ◌∷◌}
use Rattle.ttm_base.specs.declared.BufId.{BufId}
use Rattle.ttm_base.specs.declared.Op.{Op}
use Rattle.ttm_base.specs.declared.Op.TheVariants as op
use Rattle.ttm_base.specs.Cutting.{PageMap}
use Rattle.ttm_base.specs.Pages.{translated}
use Rattle.copy_packet.specs.declared.stores.Stores.{Stores}
use Rattle.copy_packet.specs.StoreBytes.{IsThere, aperture_of}

-- the stores have the page that each page of each buffer means
abbrev pub AreThere : Stores → PageMap → (ℕ → ℕ) → Type 0
AreThere s names pages = (b : BufId) (i : ℕ) → i < pages b.0 → IsThere s (translated (aperture_of s) (names b i))

-- a probe shows at most 256 bytes
abbrev pub IsShort : Op → Type 0
IsShort (op.Probe src off len) = len ≤ 256
IsShort (op.Fill dst off len byte) = Unit {0}
IsShort (op.Copy dst doff src soff len) = Unit {0}
IsShort (op.Xor dst doff src soff len) = Unit {0}

-- each probe shows at most 256 bytes
abbrev pub AllShort : List Op → Type 0
AllShort [] = Unit {0}
AllShort (o ∷ ops) = IsShort o × AllShort ops
