-- The places that packets name, and whether they are there (drm_gpu_scheduler's jobs on a GART).
use Rattle.std.specs.Prelude.{◌≡◌, ℕ, ◌+◌, ◌<◌, ◌≤◌, Some, slice_get}
use Rattle.ttm_base.specs.declared.Packet.{Packet}
use Rattle.ttm_base.specs.declared.Packet.TheVariants as packet
use Rattle.ttm_base.specs.declared.PagePlace.{PagePlace}
use Rattle.ttm_base.specs.declared.PagePlace.TheVariants as place
use Rattle.journal_model.specs.declared.script.Script.{Script}
use Rattle.journal_model.specs.declared.state.Core.{Core}
use Rattle.journal_model.specs.declared.state.Job.{Job}
use Rattle.journal_model.specs.rules.Places.{aperture}
use Rattle.journal_model.specs.statements.Spares.{remaining}

-- an aperture page of TT, mapped to a frame that there is
pub record IsMapped (script : Script) (c : Core) (page : ℕ) : Type 0 where
  pub inside : page < script.sizes.tt
  pub frame : ℕ
  pub maps : aperture c page ≡ Some frame
  pub there : frame < script.sizes.frames

-- the place is there
abbrev pub IsThere : Script → Core → PagePlace → Type 0
IsThere script c (place.Vram p) = p < script.sizes.vram
IsThere script c (place.Frame f) = f < script.sizes.frames
IsThere script c (place.Aper p) = IsMapped script c p

-- len bytes from an offset on lie in a page that is there
pub record IsPart (script : Script) (c : Core) (place : PagePlace) (off len : ℕ) : Type 0 where
  pub page : IsThere script c place
  pub range : off + len ≤ 4096

-- the packet's parts are there, and a probe shows at most 256 bytes
abbrev pub IsRunnable : Script → Core → Packet → Type 0
IsRunnable script c (packet.Fill to off len byte) = IsPart script c to off len
IsRunnable script c (packet.Copy to toff from foff len) = IsPart script c to toff len × IsPart script c from foff len
IsRunnable script c (packet.Xor to toff from foff len) = IsPart script c to toff len × IsPart script c from foff len
IsRunnable script c (packet.Probe from off len) = IsPart script c from off len × (len ≤ 256)

-- each packet that hasn't run, of each job, can run
abbrev pub NameWhatIsThere : Script → Core → Type 0
NameWhatIsThere script c = (i k : ℕ) (j : Job) (p : Packet) → slice_get c.jobs i ≡ Some j → slice_get (remaining j) k ≡ Some p → IsRunnable script c p
