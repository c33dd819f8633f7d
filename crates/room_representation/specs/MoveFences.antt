-- The last job that moved a victim out of VRAM (the manager's move fence, man->move).
use Rattle.std.specs.Prelude.{◌≡◌, ℕ, true, List, Option, Some}
use Rattle.ttm_base.specs.declared.JobId.{JobId}
use Rattle.room_representation.specs.Fences.{is_emitted}

-- the manager keeps the state's move fence, which was emitted
pub record IsMoveFence (last : List ℕ) (move kept : Option JobId) : Type 0 where
  pub kept_is : kept ≡ move
  pub known : (i : JobId) → move ≡ Some i → is_emitted last i ≡ true
