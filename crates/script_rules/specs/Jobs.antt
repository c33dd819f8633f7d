-- The rules on the job by name of operations with addresses, by the mappings at its line.
use Rattle.std.specs.Prelude.{Bool, List, [], Option, Some, None, false, ◌||◌, not, nat_lt, length, map, flat_map}
use Rattle.std.specs.List.{list_any}
use Rattle.ttm_base.specs.declared.Op.{Op}
use Rattle.journal_model.specs.declared.space.VOp.{VOp}
use Rattle.journal_model.specs.declared.line.VOpWord.{VOpWord}
use Rattle.journal_model.specs.rules.Commands.{buffers_of_op, first_mentions}
use Rattle.journal_model.specs.marks.Spaces.{Region}
use Rattle.journal_model.specs.marks.ByName.{job_by_name}
use Rattle.journal_model.specs.scripts.MarkRules.{has_apart_ranges}
use Rattle.journal_model.specs.scripts.LineRules.{vop_in, is_big_named_job}

-- the job has more than 16 buffers
abbrev pub names_many : Option (List Op) → Bool
names_many (Some ops) = nat_lt 16 (length (first_mentions [] (flat_map buffers_of_op ops)))
names_many None = false

-- the job by name has more than 16 buffers
abbrev pub has_many : List Region → List VOp → Bool
has_many regions ops = names_many (job_by_name regions ops)

-- a buffer stands in both ranges of an operation, or the job by name is too big
abbrev pub breaks_job_at : List Region → List VOpWord → Bool
breaks_job_at regions words =
    list_any (λ w. not (has_apart_ranges regions (vop_in w))) words || is_big_named_job (job_by_name regions (map vop_in words))
