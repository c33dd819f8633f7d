-- What holds of the fields of a timeline. No public clause cites this module.
use Rattle.std.specs.Prelude.{ℕ, ◌<◌, ◌≤◌, ◌^◌, List, length}
use Rattle.fence_core.specs.declared.timeline.Progress.{Progress}
use Rattle.fence_core.specs.Timelines.{progress_of}

-- no job is done before it is emitted, and the numbers of jobs and of contexts are within bounds
pub record InOrder (timeline : List Progress) : Type 0 where
  pub done : (ctx : ℕ) → (progress_of timeline ctx).done ≤ (progress_of timeline ctx).emitted
  pub few : (ctx : ℕ) → (progress_of timeline ctx).emitted ≤ 2 ^ 63
  pub contexts : length timeline < 2 ^ 32
