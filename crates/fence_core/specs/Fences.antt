-- The latest job of each context and usage in a set, and which of them is waited for.
use Rattle.std.specs.Prelude.{ℕ, max, Bool, not, List, [], ◌∷◌, Option, length, slice_index_or, slice_set, find, option_map}
use Rattle.std.specs.List.{range_with_len}
use Rattle.ttm_base.specs.declared.JobId.{JobId}
use Rattle.ttm_base.specs.declared.Usage.{Usage}
use Rattle.ttm_base.specs.declared.Usage.TheVariants.{Kernel, Write, Read}
use Rattle.fence_core.specs.declared.timeline.Progress.{Progress}
use Rattle.fence_core.specs.declared.fence_set.Latest.{Latest}
use Rattle.fence_core.specs.Timelines.{is_signalled}

-- no job
abbrev pub nothing_kept : Latest
nothing_kept = record { kernel = 0; write = 0; read = 0 }

-- the latest jobs that a set keeps of a context
abbrev pub kept_of : List Latest → ℕ → Latest
kept_of set ctx = slice_index_or set ctx nothing_kept

-- the jobs of that usage and the lower ones
abbrev pub up_to : Usage → Latest → Latest
up_to Kernel kept = record { kernel = kept.kernel; write = 0; read = 0 }
up_to Write kept = record { kernel = kept.kernel; write = kept.write; read = 0 }
up_to Read kept = kept

-- one job, with its usage
abbrev pub only : Usage → ℕ → Latest
only Kernel num = record { kernel = num; write = 0; read = 0 }
only Write num = record { kernel = 0; write = num; read = 0 }
only Read num = record { kernel = 0; write = 0; read = num }

-- the later job of each usage
abbrev pub later : Latest → Latest → Latest
later one other = record { kernel = max one.kernel other.kernel; write = max one.write other.write; read = max one.read other.read }

-- the latest job of any usage
abbrev pub latest_num : Latest → ℕ
latest_num kept = max kept.kernel (max kept.write kept.read)

-- ---- sets

-- the set with one more job
abbrev pub added : List Latest → JobId → Usage → List Latest
added set job how = slice_set set job.ctx (later (kept_of set job.ctx) (only how job.num))

-- the set with the jobs that another set keeps with that usage or a lower one
abbrev pub all_added : Usage → List Latest → List Latest → List Latest
all_added how [] others = []
all_added how (kept ∷ set) [] = []
all_added how (kept ∷ set) (other ∷ others) = later kept (up_to how other) ∷ all_added how set others

-- the latest job of a context that a set keeps with that usage or a lower one
abbrev pub latest_job : Usage → List Latest → ℕ → JobId
latest_job how set ctx = record { ctx = ctx; num = latest_num (up_to how (kept_of set ctx)) }

-- whether such a job isn't signalled, which is so exactly where the latest one isn't
abbrev pub is_open : Usage → List Progress → List Latest → ℕ → Bool
is_open how timeline set ctx = not (is_signalled timeline (latest_job how set ctx))

-- the job to wait for: the latest one of the first context that has a job which isn't signalled
abbrev pub needed : Usage → List Progress → List Latest → Option JobId
needed how timeline set = option_map (latest_job how set) (find (is_open how timeline set) (range_with_len 0 (length set)))
