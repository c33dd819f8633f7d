-- The stores after the bytes of a write.
use Rattle.std.specs.Prelude.{◌≡◌, ℕ, ◌+◌, ◌*◌, ◌<◌, ◌^◌, List, Some, length}
use Rattle.ttm_base.specs.declared.BufId.{BufId}
use Rattle.ttm_base.specs.Pages.{PageBytes, Aperture}
use Rattle.bo_table.specs.Seen.{Bos}
use Rattle.copy_packet.specs.declared.stores.Stores.{Stores}
use Rattle.copy_packet.specs.StoreBytes.{IsThere}
use Rattle.journal_model.specs.declared.script.Sizes.{Sizes}
use Rattle.journal_model.specs.declared.script.Command.{Command}
use Rattle.journal_model.specs.declared.script.Command.TheVariants as command
use Rattle.journal_model.specs.declared.state.Buffer.{Buffer}
use Rattle.journal_model.specs.rules.State.{live_in}
use Rattle.journal_model.specs.rules.Places.{page_at}
use Rattle.journal_model.specs.rules.Stores.{put_bytes}
use Rattle.room_representation.specs.Pages.{AreStores}
use Rattle.room_jobs.specs.Bodies.{body_at}

-- the stores have each page of a buffer before the end of a range
abbrev pub HavePages : Stores → Buffer → ℕ → Type 0
HavePages st x end = (i : ℕ) → 4096 * i < end → IsThere st (page_at x i)

-- the bytes `values` are written to a buffer: where the stores had the bytes of a journal, they have those with `values` put
abbrev pub HasPut : Buffer → ℕ → List ℕ → Stores → Stores → Type 0
HasPut x off values old new =
    (sizes : Sizes) (aper : Aperture) (bytes : PageBytes) → AreStores sizes aper bytes old → AreStores sizes aper (put_bytes x off values bytes) new

-- the bytes of a write can be written
pub record CanWrite (bos : Bos) (st : Stores) (b : BufId) (off : ℕ) (values : List ℕ) : Type 0 where
  pub live : live_in bos.buffers b ≡ Some (body_at bos b)
  pub below : b.0 < length bos.reservations
  pub short : off + length values < 2 ^ 32
  pub pages : HavePages st (body_at bos b) (off + length values)

-- a write writes its bytes; any other command leaves the stores as they are
abbrev pub HasWritten : Bos → Command → Stores → Stores → Type 0
HasWritten bos (command.Write b off values) old new = HasPut (body_at bos b) off values old new
HasWritten bos cmd old new = new ≡ old
