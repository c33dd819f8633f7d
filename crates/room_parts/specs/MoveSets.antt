-- The jobs of buffers where a target in VRAM brings the move fence.
use Rattle.std.specs.Prelude.{◌<◌, List, Option, Some, None, length, slice_get, if◌then◌else◌}
use Rattle.std.specs.Option.{ForSome}
use Rattle.ttm_base.specs.declared.BufId.{BufId}
use Rattle.ttm_base.specs.declared.JobId.{JobId}
use Rattle.ttm_base.specs.declared.Mem.{Mem}
use Rattle.ttm_base.specs.declared.Mem.TheVariants.{System, Tt, Vram}
use Rattle.ttm_base.specs.declared.Usage.TheVariants.{Kernel}
use Rattle.fence_core.specs.declared.fence_set.Latest.{Latest}
use Rattle.fence_core.specs.declared.timeline.Progress.{Progress}
use Rattle.fence_core.specs.Timelines.{is_signalled}
use Rattle.room_representation.specs.Fences.{with_use_in}

-- the sets of jobs, where a target in VRAM adds a move fence that isn't signalled to the buffer's
abbrev pub with_move_fence : Mem → List Progress → Option JobId → List (List Latest) → BufId → List (List Latest)
with_move_fence Vram timeline (Some i) sets b = if is_signalled timeline i then sets else with_use_in i Kernel sets b
with_move_fence Vram timeline None sets b = sets
with_move_fence Tt timeline kept sets b = sets
with_move_fence System timeline kept sets b = sets

-- the job can be asked for on a timeline, and can join the jobs of a buffer
pub record CanJoin (timeline : List Progress) (sets : List (List Latest)) (b : BufId) (i : JobId) : Type 0 where
  pub in_line : i.ctx < length timeline
  pub in_set : ForSome (slice_get sets b.0) (λ set. i.ctx < length set)
  pub num : 0 < i.num
