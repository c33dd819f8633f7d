-- How many jobs of each context were emitted, and how many of them are done.
use Rattle.std.specs.Prelude.{ℕ, ◌+◌, Bool, List, nat_le, slice_index_or, slice_set}
use Rattle.ttm_base.specs.declared.JobId.{JobId}
use Rattle.fence_core.specs.declared.timeline.Progress.{Progress}

-- a context from which no job was emitted
abbrev pub no_jobs : Progress
no_jobs = record { emitted = 0; done = 0 }

-- how far a context is
abbrev pub progress_of : List Progress → ℕ → Progress
progress_of timeline ctx = slice_index_or timeline ctx no_jobs

-- the contexts after one more job was emitted in a context
abbrev pub with_emitted : List Progress → ℕ → List Progress
with_emitted timeline ctx = slice_set timeline ctx (record (progress_of timeline ctx) { emitted = (progress_of timeline ctx).emitted + 1 })

-- the contexts after one more job is done in a context
abbrev pub with_done : List Progress → ℕ → List Progress
with_done timeline ctx = slice_set timeline ctx (record (progress_of timeline ctx) { done = (progress_of timeline ctx).done + 1 })

-- whether the job is done
abbrev pub is_signalled : List Progress → JobId → Bool
is_signalled timeline job = nat_le job.num (progress_of timeline job.ctx).done
