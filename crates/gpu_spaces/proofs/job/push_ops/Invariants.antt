use Rattle.std.proofs.Common.{◌≡◌, ◌-◌, ◌≤◌, ◌++◌}
use Rattle.std.specs.Prelude.{option_map}
use Rattle.journal_model.specs.marks.ByName.{op_in_names, ops_from}
use Rattle.gpu_spaces.specs.Kept.{regions_in}
use Rattle.gpu_spaces.proofs.job.push_ops.Given as goal

abbrev pub invariant-loop-at : goal.invariant-loop-at
invariant-loop-at l = record {
  inside : l.at ≤ l.len;
  made : option_map (λ ops. l.initial.job ++ ops) (op_in_names (regions_in l.mappings) l.op) ≡ option_map (λ ops. l.job ++ ops) (ops_from (regions_in l.mappings) l.op l.at (l.len - l.at) (l.len - l.at));
}

abbrev pub decreases-loop-at : goal.decreases-loop-at
decreases-loop-at l = l.len - l.at
