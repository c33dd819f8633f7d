-- How far the jobs of each context are (the contexts and sequence numbers of dma_fence).
use Rattle.std.specs.Prelude.{◌≡◌, ℕ, ◌<◌, List, length}
use Rattle.fence_core.specs.declared.timeline.Progress.{Progress}
use Rattle.fence_core.specs.Timelines.{progress_of}
use Rattle.journal_model.specs.declared.state.Job.{Job}
use Rattle.laws.specs.law_state.GoodState.{last_number}
use Rattle.laws.specs.law_jobs.JobLines.{IsLine, done_of}

-- of each context as many jobs were emitted as the last number says, and as many are done as jobs say
pub record IsTimeline (jobs : List Job) (last : List ℕ) (timeline : List Progress) : Type 0 where
  pub contexts : length timeline ≡ length last
  pub each : (ctx : ℕ) → ctx < length last → progress_of timeline ctx ≡ record { emitted = last_number last ctx; done = done_of ctx jobs }

-- the jobs of each context are numbered one after another and done in order, as `jobs_are_in_line` says of each legal journal
abbrev pub AreInLine : List ℕ → List Job → Type 0
AreInLine last jobs = (ctx : ℕ) → IsLine ctx (last_number last ctx) (done_of ctx jobs) jobs
