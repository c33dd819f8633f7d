-- Numbers below which no job is unfinished, by context, and a look for unfinished jobs that keeps them.
use Rattle.std.specs.Prelude.{◌≡◌, ◌<◌, ℕ, Bool, false, List, Some, ◌||◌, length, nat_le, slice_index_or}
use Rattle.ttm_base.specs.declared.JobId.{JobId}
use Rattle.journal_model.specs.declared.state.Core.{Core}
use Rattle.journal_model.specs.declared.state.Job.{Job}
use Rattle.journal_model.specs.rules.Waits.{is_unfinished}
use Rattle.rules_holds.specs.declared.least.Least.{Least}
use Rattle.rules_holds.specs.declared.least.Look.{Look}

-- the job's number is no less than the one that is kept for its context, if one is
abbrev pub is_from : List ℕ → JobId → Bool
is_from least i = nat_le (length least) i.ctx || nat_le (slice_index_or least i.ctx 0) i.num

-- the job is done, or its number is no less than the one that is kept for its context, if one is
abbrev pub is_counted : List ℕ → Job → Bool
is_counted least j = j.finished || is_from least j.id

-- a job with a lesser number than the one that is kept for its context isn't unfinished
abbrev pub AreLeast : Core → List ℕ → Type 0
AreLeast c least = (i : JobId) → is_from least i ≡ false → is_unfinished c i ≡ false

-- no job of the context with a lesser number is unfinished
abbrev pub IsLeast : Core → ℕ → ℕ → Type 0
IsLeast c ctx least = (num : ℕ) → num < least → is_unfinished c (record { ctx = ctx; num = num }) ≡ false

-- the least numbers of a look, if it has them, are such that no job with a lesser number is unfinished
abbrev pub IsLook : Core → Look → Type 0
IsLook c look = (least : Least) → look.least ≡ Some least → AreLeast c least.by_context
