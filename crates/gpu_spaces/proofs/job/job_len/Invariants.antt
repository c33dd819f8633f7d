use Rattle.std.proofs.Common.{◌≡◌, ◌+◌, ◌≤◌, min, drop, length, All}
use Rattle.std.specs.Prelude.{option_map}
use Rattle.journal_model.specs.marks.ByName.{job_by_name}
use Rattle.journal_model.specs.marks.Spaces.{regions_space}
use Rattle.gpu_spaces.specs.Kept.{regions_in}
use Rattle.gpu_spaces.specs.Meaning.{IsMappedSpan}
use Rattle.gpu_spaces.proofs.job.job_len.Given as goal

abbrev pub invariant-loop-op : goal.invariant-loop-op
invariant-loop-op l = record {
  runs : All (IsMappedSpan (regions_space (regions_in l.mappings))) l.runs;
  few : l.count ≤ l.most;
  made : option_map (λ job. min (length job) l.most) (job_by_name (regions_in l.mappings) l.ops) ≡ option_map (λ job. min (l.count + length job) l.most) (job_by_name (regions_in l.mappings) (drop l.op-index l.ops));
}
