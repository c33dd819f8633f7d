-- The managers of VRAM and TT: what owners hold, by which rule VRAM is taken, and the move fence (ttm_resource_manager).
use Rattle.std.specs.Prelude.{◌≡◌, ℕ, List, Option}
use Rattle.ttm_base.specs.declared.JobId.{JobId}
use Rattle.ttm_base.specs.declared.Mem.TheVariants.{Tt, Vram}
use Rattle.resource_core.specs.Resources.{Resources}
use Rattle.resource_core.specs.Vram as room
use Rattle.journal_model.specs.declared.script.Sizes.{Sizes}
use Rattle.journal_model.specs.declared.state.Buffer.{Buffer}
use Rattle.journal_model.specs.declared.state.Ghost.{Ghost}
use Rattle.room_representation.specs.lemma_spans.Owned.{HoldsAsOwned, kind_of}
use Rattle.room_representation.specs.MoveFences.{IsMoveFence}

-- the manager of VRAM takes pages by the rule that the script names, has them held as in the state, and keeps the move fence
pub record IsVram (sizes : Sizes) (last : List ℕ) (buffers : List (Option Buffer)) (ghosts : List Ghost) (move : Option JobId) (v : room.Vram) : Type 0 where
  pub rule : room.spans_of_kind v.kind ≡ room.spans_of_kind (kind_of sizes.buddy)
  pub held_as : HoldsAsOwned sizes.vram Vram buffers ghosts v.resources
  pub fence : IsMoveFence last move v.resources.move_fence

-- the manager of TT has its pages held as in the state
abbrev pub IsTt : Sizes → List (Option Buffer) → List Ghost → Resources → Type 0
IsTt sizes buffers ghosts r = HoldsAsOwned sizes.tt Tt buffers ghosts r
