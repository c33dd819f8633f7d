-- Jobs that are done and that nobody looks for: those at the front of the list, as far as they share no name with a later one.
use Rattle.std.specs.Prelude.{◌≡◌, ℕ, ◌+◌, ◌-◌, ◌^◌, ◌<◌, ◌≤◌, ◌++◌, ◌||◌, ◌&&◌, Bool, true, false, List, [], ◌∷◌, IsTrue, length, map, take, drop, not, nat_lt, nat_le, slice_index_or}
use Rattle.std.specs.List.{list_all, list_any}
use Rattle.ttm_base.specs.declared.JobId.{JobId}
use Rattle.journal_model.specs.declared.state.Job.{Job}
use Rattle.journal_model.specs.rules.JobNames.{same_job}
use Rattle.journal_model.specs.declared.job_ids.JobRun.{JobRun}
use Rattle.journal_model.specs.code.JobRuns.{jobs_of_run, fits}

-- the pending jobs are the last of all, and all before them are done
pub record ArePending (jobs pending : List Job) : Type 0 where
  pub closed : List Job
  pub joined : jobs ≡ closed ++ pending
  pub done : IsTrue (list_all (λ j. j.finished) closed)

-- the job is another, or the number of its packets that have run is still one of 32 bits after one more
abbrev pub has_packets_left : JobId → Job → Bool
has_packets_left i j = not (same_job i j.id) || nat_lt (j.ran + 1) (2 ^ 32)

-- the closed jobs are done, and share no name with a pending one
pub record AreClosed (closed pending : List Job) : Type 0 where
  pub done : IsTrue (list_all (λ j. j.finished) closed)
  pub apart : IsTrue (list_all (λ j. not (list_any (λ k. same_job j.id k.id) pending)) closed)

-- the first `count` jobs are closed
pub record IsSplit (jobs : List Job) (count : ℕ) : Type 0 where
  pub within : count ≤ length jobs
  pub parts : AreClosed (take count jobs) (drop count jobs)

-- the job's number is no greater than the one that is kept for its context, if one is
abbrev pub is_bounded : List ℕ → JobId → Bool
is_bounded greatest i = nat_le (length greatest) i.ctx || nat_le i.num (slice_index_or greatest i.ctx 0)

-- it is greater
abbrev pub is_past : List ℕ → JobId → Bool
is_past greatest i = nat_lt i.ctx (length greatest) && nat_lt (slice_index_or greatest i.ctx 0) i.num

-- no job's number is greater than the one that is kept for its context
pub record AreBounded (greatest : List ℕ) (jobs : List Job) : Type 0 where
  pub all : IsTrue (list_all (λ j. is_bounded greatest j.id) jobs)

-- the last jobs are those of the run, and none of them is done
pub record IsRow (jobs : List Job) (row : JobRun) : Type 0 where
  pub before : List Job
  pub last : List Job
  pub joined : jobs ≡ before ++ last
  pub names : map (λ j. j.id) last ≡ jobs_of_run row
  pub pending : IsTrue (list_all (λ j. not j.finished) last)
  pub fit : IsTrue (fits row)

-- there is a last job, and it isn't done
abbrev pub ends_open : List Job → Bool
ends_open jobs = list_any (λ j. not j.finished) (drop (length jobs - 1) jobs)

-- what is kept of the jobs: how many are closed, greatest numbers, and the last of them
pub record AreKept (jobs : List Job) (closed : ℕ) (greatest : List ℕ) (row : JobRun) : Type 0 where
  pub split : IsSplit jobs closed
  pub bounded : AreBounded greatest jobs
  pub end : IsRow jobs row
  pub some : ends_open jobs ≡ true → 0 < row.count

-- the first of these jobs can be closed: it is done, and no later one has its name
abbrev pub closes : List Job → Bool
closes [] = false
closes (j ∷ js) = j.finished && not (list_any (λ k. same_job j.id k.id) js)
