-- The jobs that must be done before a buffer is written or read.
use Rattle.std.specs.Prelude.{Bool, true, false, List, map, filter}
use Rattle.ttm_base.specs.declared.JobId.{JobId}
use Rattle.ttm_base.specs.declared.Fence.{Fence}
use Rattle.rules_holds.specs.declared.waits.Before.{Before}
use Rattle.rules_holds.specs.declared.waits.Before.TheVariants.{Write, Read}
use Rattle.ttm_base.specs.declared.Usage.{Usage}
use Rattle.ttm_base.specs.declared.Usage.TheVariants as usage

-- jobs of this usage must be done before
abbrev pub counts_by : Before → Usage → Bool
counts_by Write u = true
counts_by Read u = elim u [ usage.Kernel ↦ true | usage.Write ↦ true | usage.Read ↦ false ]

-- the jobs of these fences that must be done before
abbrev pub jobs_before : Before → List Fence → List JobId
jobs_before before fences = map (λ f. f.job) (filter (λ f. counts_by before f.usage) fences)
