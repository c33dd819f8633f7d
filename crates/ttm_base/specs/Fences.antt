-- Which of several jobs is named as the one to wait for.
use Rattle.std.specs.Prelude.{Bool, ◌==◌, ◌&&◌, ◌||◌, nat_lt, List, [], ◌∷◌, Option, Some, None, if◌then◌else◌}
use Rattle.ttm_base.specs.declared.JobId.{JobId}

-- whether a job is named before another: the one of the least context, and there the one with the greatest number
abbrev pub is_named_before : JobId → JobId → Bool
is_named_before i j = nat_lt i.ctx j.ctx || ((i.ctx == j.ctx) && nat_lt j.num i.num)

-- the one of two jobs that is named
abbrev pub named_first : JobId → Option JobId → JobId
named_first i None = i
named_first i (Some j) = if is_named_before j i then j else i

-- the one of several jobs that is named
abbrev pub named_job : List JobId → Option JobId
named_job [] = None
named_job (i ∷ is) = Some (named_first i (named_job is))
