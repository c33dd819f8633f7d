use Rattle.std.proofs.Common.{◌≡◌, ◌++◌}
use Rattle.std.specs.Prelude.{map, filter}
use Rattle.journal_model.specs.marks.Spaces.{does_meet}
use Rattle.gpu_spaces.specs.Kept.{regions_in}
use Rattle.gpu_spaces.proofs.apart.push_buffers.Given as goal

abbrev pub invariant-loop-rest : goal.invariant-loop-rest
invariant-loop-rest l =
    l.out ++ map (λ e. e.1.b) l.rest-iterator ≡ l.initial.out ++ map (λ r. r.b) (filter (does_meet l.fn.range) (regions_in l.mappings))
