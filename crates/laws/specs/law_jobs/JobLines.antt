-- The jobs of a context as a line of numbers (dma_fence's context and seqno, drm_sched's rings).
use Rattle.std.specs.Prelude.{◌≡◌, ℕ, ◌+◌, ◌-◌, ◌<◌, ◌≤◌, List, Some, ◌==◌, ◌&&◌, not, nat_le, filter, map, count_by, slice_get}
use Rattle.ttm_base.specs.ListWords.{count_from}
use Rattle.journal_model.specs.declared.state.Job.{Job}

-- the jobs of a context, in the order of emission
abbrev pub jobs_of : ℕ → List Job → List Job
jobs_of ctx jobs = filter (λ j. j.id.ctx == ctx) jobs

-- the jobs of a context that aren't done: the head of the context first
abbrev pub unfinished_of : ℕ → List Job → List Job
unfinished_of ctx jobs = filter (λ j. (j.id.ctx == ctx) && not j.finished) jobs

-- the number of jobs of a context that are done
abbrev pub done_of : ℕ → List Job → ℕ
done_of ctx jobs = count_by (λ j. (j.id.ctx == ctx) && j.finished) jobs

-- the numbers of jobs
abbrev pub numbers_of : List Job → List ℕ
numbers_of jobs = map (λ j. j.id.num) jobs

-- the list has a job of this context and number
pub record HasJob (ctx num : ℕ) (jobs : List Job) : Type 0 where
  pub at : ℕ
  pub job : Job
  pub here : slice_get jobs at ≡ Some job
  pub context : job.id.ctx ≡ ctx
  pub number : job.id.num ≡ num

-- the jobs of the context have the numbers from 1 to emitted, in their order, and those up to done are done
pub record IsLine (ctx emitted done : ℕ) (jobs : List Job) : Type 0 where
  pub within : done ≤ emitted
  pub numbers : numbers_of (jobs_of ctx jobs) ≡ count_from 1 emitted 1
  pub unfinished : numbers_of (unfinished_of ctx jobs) ≡ count_from 1 (emitted - done) (done + 1)
  pub each : (num : ℕ) → 1 ≤ num → num ≤ emitted → HasJob ctx num jobs
  pub drawn : (i : ℕ) (j : Job) → slice_get jobs i ≡ Some j → j.id.ctx ≡ ctx → (1 ≤ j.id.num) × (j.id.num ≤ emitted)
  pub finished : (i : ℕ) (j : Job) → slice_get jobs i ≡ Some j → j.id.ctx ≡ ctx → j.finished ≡ nat_le j.id.num done
  pub rises : (i k : ℕ) (x y : Job) → i < k → slice_get jobs i ≡ Some x → slice_get jobs k ≡ Some y → x.id.ctx ≡ ctx → y.id.ctx ≡ ctx → x.id.num < y.id.num
