use Rattle.std.proofs.Common.{◌≡◌, ◌++◌}
use Rattle.std.specs.Prelude.{map, filter}
use Rattle.journal_model.specs.marks.Spaces.{does_meet, step_at}
use Rattle.gpu_spaces.specs.Kept.{regions_in, region_at}
use Rattle.gpu_spaces.proofs.steps.push_steps.Given as goal

abbrev pub invariant-loop-start : goal.invariant-loop-start
invariant-loop-start l =
    l.out ++ map (λ e. step_at l.range (region_at e)) l.start-iterator ≡ l.initial.out ++ map (step_at l.range) (filter (does_meet l.range) (regions_in l.mappings))
