-- The frame to which each page of TT is mapped, as buffers and ghosts tell it.
use Rattle.std.specs.Prelude.{◌≡◌, ℕ, Some, slice_get, ◌⊎◌}
use Rattle.ttm_base.specs.declared.BufId.{BufId}
use Rattle.ttm_base.specs.declared.Mem.TheVariants.{Tt}
use Rattle.ttm_base.specs.declared.Loc.TheVariants as loc
use Rattle.journal_model.specs.declared.state.Core.{Core}
use Rattle.journal_model.specs.declared.state.Buffer.{Buffer}
use Rattle.journal_model.specs.declared.state.Ghost.{Ghost}
use Rattle.journal_model.specs.rules.State.{live_in}
use Rattle.journal_model.specs.rules.Places.{pages_of}

-- a page of a live buffer in TT, and the frame at the same place of its table
pub record BufferMaps (c : Core) (page frame : ℕ) : Type 0 where
  pub b : BufId
  pub buffer : Buffer
  pub live : live_in c.buffers b ≡ Some buffer
  pub mem : buffer.mem ≡ Tt
  pub at : ℕ
  pub here : slice_get (pages_of buffer.spans) at ≡ Some page
  pub there : slice_get buffer.table at ≡ Some (loc.Frame frame)

-- a page of a ghost, and its frame at the same place
pub record GhostMaps (c : Core) (page frame : ℕ) : Type 0 where
  pub place : ℕ
  pub ghost : Ghost
  pub is : slice_get c.ghosts place ≡ Some ghost
  pub at : ℕ
  pub here : slice_get (pages_of ghost.tt) at ≡ Some page
  pub there : slice_get ghost.frames at ≡ Some frame

-- the page is mapped to the frame
abbrev pub Maps : Core → ℕ → ℕ → Type 0
Maps c page frame = BufferMaps c page frame ⊎ GhostMaps c page frame
