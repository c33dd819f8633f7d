-- No page, frame or slot stands in two holds, and all that is held is there.
use Rattle.std.specs.Prelude.{◌≡◌, ℕ, true, List, nat_lt}
use Rattle.std.specs.List.{list_all}
use Rattle.ttm_base.specs.declared.Mem.TheVariants.{Tt, Vram}
use Rattle.journal_model.specs.declared.script.Script.{Script}
use Rattle.journal_model.specs.declared.state.Core.{Core}
use Rattle.journal_model.specs.rules.Places.{pages_of}
use Rattle.journal_model.specs.rules.Holds.{held_spans, held_frames, held_slots}
use Rattle.journal_model.specs.statements.Account.{are_distinct}

-- no number stands twice, and each is below the size
pub record AreOwned (size : ℕ) (held : List ℕ) : Type 0 where
  pub distinct : are_distinct held ≡ true
  pub within : list_all (λ n. nat_lt n size) held ≡ true

-- no page of buffers, targets and ghosts is held twice or past its size, nor is a frame or slot of tables and ghosts
pub record HaveOneOwner (script : Script) (c : Core) : Type 0 where
  pub vram : AreOwned script.sizes.vram (pages_of (held_spans Vram c))
  pub tt : AreOwned script.sizes.tt (pages_of (held_spans Tt c))
  pub frames : AreOwned script.sizes.frames (held_frames c)
  pub slots : AreOwned script.sizes.swap (held_slots c)
