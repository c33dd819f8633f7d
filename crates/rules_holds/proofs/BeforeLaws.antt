-- The jobs of a buffer's fences that must be done, by runs.
use Rattle.std.proofs.Common.{◌≡◌, ℕ, ◌+◌, ◌<◌, List, [], ◌∷◌, ◌++◌, true, false, length, take, get_or, refl, ap, arith}
use Rattle.std.specs.Prelude.{map, flat_map}
use Rattle.std.proofs.lemmas.Grind.{common_steps}
use Rattle.std.proofs.lemmas.List.{take_more}
use Rattle.ttm_base.specs.declared.JobId.{JobId}
use Rattle.ttm_base.specs.declared.Fence.{Fence}
use Rattle.ttm_base.specs.declared.Usage.{Usage}
use Rattle.journal_model.specs.declared.fences.FenceRun.{FenceRun}
use Rattle.journal_model.specs.declared.state.Buffer.{Buffer}
use Rattle.journal_model.specs.code.JobRuns.{fences_of_run}
use Rattle.journal_model.specs.rules.Waits.{jobs_before_write, jobs_before_read}
use Rattle.rules_holds.specs.declared.waits.Before.{Before}
use Rattle.rules_holds.specs.declared.waits.Before.TheVariants.{Write, Read}
use Rattle.rules_holds.specs.Before.{counts_by, jobs_before}

all_count : (fences : List Fence) → jobs_before Write fences ≡ map (λ f. f.job) fences
all_count [] = refl
all_count (f ∷ fences) = ap (λ jobs. f.job ∷ jobs) (all_count fences)

pub write_is : (x : Buffer) → jobs_before Write x.fences ≡ jobs_before_write x
write_is x = all_count x.fences

pub read_is : (x : Buffer) → jobs_before Read x.fences ≡ jobs_before_read x
read_is x = refl

before-append : (before : Before) (xs ys : List Fence) → jobs_before before (xs ++ ys) ≡ jobs_before before xs ++ jobs_before before ys
before-append before xs ys = grind (arith, common_steps)

-- one run more
pub fences_more : (before : Before) (runs : List FenceRun) (k : ℕ) (d : FenceRun) → k < length runs
    → jobs_before before (flat_map fences_of_run (take (k + 1) runs)) ≡ jobs_before before (flat_map fences_of_run (take k runs)) ++ jobs_before before (fences_of_run (get_or runs k d))
fences_more before runs k d l =
    let e = take_more runs k d l in
    let f = before-append before (flat_map fences_of_run (take k runs)) (fences_of_run (get_or runs k d)) in
    grind (arith, common_steps)

-- a run whose jobs all must be done
pub all_of_run : (before : Before) (usage : Usage) (jobs : List JobId) → counts_by before usage ≡ true → jobs_before before (map (λ i. record { job = i; usage = usage }) jobs) ≡ jobs
all_of_run before usage [] h = refl
all_of_run before usage (i ∷ jobs) h = let e = all_of_run before usage jobs h in grind (arith, common_steps)

-- a run of which none must be
pub none_of_run : (before : Before) (usage : Usage) (jobs : List JobId) → counts_by before usage ≡ false → jobs_before before (map (λ i. record { job = i; usage = usage }) jobs) ≡ []
none_of_run before usage [] h = refl
none_of_run before usage (i ∷ jobs) h = let e = none_of_run before usage jobs h in grind (arith, common_steps)
