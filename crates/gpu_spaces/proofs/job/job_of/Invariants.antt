use Rattle.std.proofs.Common.{◌≡◌, Some, drop}
use Rattle.journal_model.specs.marks.ByName.{job_by_name, joined}
use Rattle.gpu_spaces.specs.Kept.{regions_in}
use Rattle.gpu_spaces.proofs.job.job_of.Given as goal

abbrev pub invariant-loop-op : goal.invariant-loop-op
invariant-loop-op l = job_by_name (regions_in l.mappings) l.ops ≡ joined (Some l.job) (job_by_name (regions_in l.mappings) (drop l.op-index l.ops))
