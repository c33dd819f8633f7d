-- The job that is named among several, as a look from the front finds it.
use Rattle.std.specs.Prelude.{Bool, List, Option, Some, None, ◌&&◌, not, if◌then◌else◌}
use Rattle.std.specs.List.{list_any}
use Rattle.journal_model.specs.rules.JobNames.{same_job}
use Rattle.journal_model.specs.declared.state.Job.{Job}
use Rattle.ttm_base.specs.declared.JobId.{JobId}
use Rattle.ttm_base.specs.Fences.{is_named_before}

-- the job to name of the one named before and this one: in the lesser context, or of one context the greater number
abbrev pub named_last : Option JobId → JobId → JobId
named_last None i = i
named_last (Some j) i = if is_named_before i j then i else j

-- the job to name of the one named among earlier jobs and the one named among these, where there is one
abbrev pub named_of : Option JobId → Option JobId → Option JobId
named_of named None = named
named_of named (Some i) = Some (named_last named i)

-- one of the jobs has the name and isn't done
abbrev pub is_open : List Job → JobId → Bool
is_open jobs i = list_any (λ j. same_job i j.id && not j.finished) jobs
