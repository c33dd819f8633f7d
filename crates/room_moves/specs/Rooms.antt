-- What managers ask and keep where a buffer moves.
use Rattle.std.specs.Prelude.{◌≡◌, false, Some}
use Rattle.ttm_base.specs.declared.BufId.{BufId}
use Rattle.ttm_base.specs.declared.JobId.{JobId}
use Rattle.ttm_base.specs.declared.Owner.TheVariants as owner
use Rattle.journal_model.specs.declared.entry.Left.{Left}
use Rattle.journal_model.specs.declared.entry.Left.TheVariants as left
use Rattle.resource_core.specs.Resources.{Resources, holds}
use Rattle.room_representation.specs.lemma_spans.Calls.{left_by}

-- the ghost that gets what is left holds nothing yet
abbrev pub CanLeave : Left → Resources → Type 0
CanLeave left.Now r = Unit {0}
CanLeave (left.Ghost g) r = holds (owner.Ghost g) r.held ≡ false

-- neither the ghost nor, once it has left its spans, the buffer holds anything
pub record CanCarry (b : BufId) (l : Left) (r : Resources) : Type 0 where
  pub leaves : CanLeave l r
  pub arrives : holds (owner.Live b) (left_by b l r).held ≡ false

-- the resources, with the job as the move fence where pages are free at once
abbrev pub with_fence_left : JobId → Left → Resources → Resources
with_fence_left job left.Now r = record r { move_fence = Some job }
with_fence_left job (left.Ghost g) r = r
