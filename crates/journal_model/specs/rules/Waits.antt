-- What must be done first: which jobs are waited for, by usage (dma_resv).
use Rattle.std.specs.Prelude.{Bool, true, false, List, [], Option, ◌&&◌, not, filter, map, is_none, option_to_list, if◌then◌else◌}
use Rattle.std.specs.List.{list_any}
use Rattle.journal_model.specs.Types.{BufId, Buffer, Core, Fence, JobId, Mem, Op, Usage}
use Rattle.ttm_base.specs.Fences.{named_job}
use Rattle.ttm_base.specs.declared.Usage.TheVariants as usage
use Rattle.ttm_base.specs.declared.Mem.TheVariants.{System, Tt, Vram}
use Rattle.journal_model.specs.rules.State.{buffer_in}
use Rattle.journal_model.specs.rules.Commands.{writes}
pub use Rattle.journal_model.specs.rules.JobNames.{same_job}

-- the job isn't done
abbrev pub is_unfinished : Core → JobId → Bool
is_unfinished c i = list_any (λ j. same_job i j.id && not j.finished) c.jobs

-- those that aren't done
abbrev pub unfinished : Core → List JobId → List JobId
unfinished c is = filter (is_unfinished c) is

-- the unfinished job to wait for among these
abbrev pub waited_for : Core → List JobId → Option JobId
waited_for c is = named_job (unfinished c is)

-- jobs that read alone don't keep others from reading
abbrev pub changes : Fence → Bool
changes f = elim f.usage [ usage.Kernel ↦ true | usage.Write ↦ true | usage.Read ↦ false ]

-- the jobs that must be done before the buffer is written, or moved
abbrev pub jobs_before_write : Buffer → List JobId
jobs_before_write x = map (λ f. f.job) x.fences

-- the jobs that must be done before it is read
abbrev pub jobs_before_read : Buffer → List JobId
jobs_before_read x = map (λ f. f.job) (filter changes x.fences)

-- all jobs of the buffer are done
abbrev pub is_idle : Core → Buffer → Bool
is_idle c x = is_none (waited_for c (jobs_before_write x))

-- a target in VRAM waits for the job that moved the last victim out (the manager's move fence)
abbrev pub jobs_before_target : Core → Mem → List JobId
jobs_before_target c Vram = unfinished c (option_to_list c.move_fence)
jobs_before_target c Tt = []
jobs_before_target c System = []

-- ---- a job with operations

-- an operation of the job writes the buffer
abbrev pub is_written : List Op → BufId → Bool
is_written ops b = list_any (writes b) ops

-- how the job joins the fences of a buffer
abbrev pub use_of : List Op → BufId → Usage
use_of ops b = if is_written ops b then usage.Write else usage.Read

-- it waits for all jobs of a buffer that it writes, and for those that change one that it only reads
abbrev pub jobs_before_use : Core → List Op → BufId → List JobId
jobs_before_use c ops b =
    unfinished c (if is_written ops b then jobs_before_write (buffer_in c b) else jobs_before_read (buffer_in c b))
