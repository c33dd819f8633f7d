use Rattle.std.proofs.Common.{◌≡◌, ◌-◌, ◌+◌, ◌≤◌, min, length}
use Rattle.std.specs.Prelude.{option_map}
use Rattle.journal_model.specs.marks.ByName.{op_in_names, ops_from}
use Rattle.gpu_spaces.specs.Kept.{regions_in}
use Rattle.gpu_spaces.proofs.job.count_ops.Given as goal

abbrev pub invariant-loop-at : goal.invariant-loop-at
invariant-loop-at l = record {
  inside : l.at ≤ l.len;
  few : l.count ≤ l.most;
  made : option_map (λ ops. min (l.before + length ops) l.most) (op_in_names (regions_in l.mappings) l.op) ≡ option_map (λ ops. min (l.count + length ops) l.most) (ops_from (regions_in l.mappings) l.op l.at (l.len - l.at) (l.len - l.at));
}

abbrev pub decreases-loop-at : goal.decreases-loop-at
decreases-loop-at l = l.len - l.at
