-- Jobs of one context whose numbers follow one another, and fences of such jobs, kept as a run.
use Rattle.std.specs.Prelude.{ℕ, ◌+◌, ◌-◌, ◌^◌, ◌==◌, Bool, List, ◌&&◌, if◌then◌else◌, map, nat_le, nat_lt}
use Rattle.ttm_base.specs.ListWords.{count_from}
use Rattle.ttm_base.specs.declared.JobId.{JobId}
use Rattle.ttm_base.specs.declared.Fence.{Fence}
use Rattle.journal_model.specs.declared.job_ids.JobRun.{JobRun}
use Rattle.journal_model.specs.declared.fences.FenceRun.{FenceRun}

-- a run's jobs, by rising number
abbrev pub jobs_of_run : JobRun → List JobId
jobs_of_run r = map (λ n. record { ctx = r.ctx; num = n }) (count_from 1 r.count r.first)

-- the job is one of the run's
abbrev pub is_in : JobId → JobRun → Bool
is_in i r = (i.ctx == r.ctx) && (nat_le r.first i.num && nat_lt i.num (r.first + r.count))

-- how many of the run's jobs come up to this one, itself too; none, where it isn't one of them
abbrev pub up_to : JobId → JobRun → ℕ
up_to i r = if is_in i r then i.num - r.first + 1 else 0

-- the run without its first jobs, so many
abbrev pub behind : ℕ → JobRun → JobRun
behind n r = record { ctx = r.ctx; first = r.first + n; count = r.count - n }

-- each number of the run fits into 64 bits
abbrev pub fits : JobRun → Bool
fits r = nat_le (r.first + r.count) (2 ^ 64)

-- a run's fences
abbrev pub fences_of_run : FenceRun → List Fence
fences_of_run r = map (λ i. record { job = i; usage = r.usage }) (jobs_of_run r.jobs)

-- the run has a fence, and each of its numbers fits
abbrev pub is_whole : FenceRun → Bool
is_whole r = nat_lt 0 r.jobs.count && fits r.jobs
