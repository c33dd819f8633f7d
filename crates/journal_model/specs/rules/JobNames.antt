-- The names of jobs.
use Rattle.std.specs.Prelude.{Bool, ◌==◌, ◌&&◌}
use Rattle.ttm_base.specs.declared.JobId.{JobId}

-- the jobs are one
abbrev pub same_job : JobId → JobId → Bool
same_job i j = (i.ctx == j.ctx) && (i.num == j.num)
