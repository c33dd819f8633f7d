-- The job that is named among those of a run, and among those of several runs.
use Rattle.std.proofs.Common.{◌≡◌, ◌∙◌, ℕ, zero, suc, ◌+◌, ◌-◌, ◌<◌, ◌≤◌, Bool, List, [], ◌∷◌, ◌++◌, Option, Some, None, true, false, length, take, get_or, refl, sym, subst, ap, ap₂, arith, if◌then◌else◌}
use Rattle.std.specs.Prelude.{filter, flat_map}
use Rattle.std.specs.List.{list_all}
use Rattle.std.proofs.lemmas.Grind.{common_steps}
use Rattle.std.proofs.lemmas.Bool.Decides.{nat_tests}
use Rattle.std.proofs.lemmas.List.{take_more}
use Rattle.std.proofs.lemmas.List.Elements.{filter-append}
use Rattle.ttm_base.specs.declared.JobId.{JobId}
use Rattle.ttm_base.specs.Fences.{named_job, named_first}
use Rattle.journal_model.specs.declared.job_ids.JobRun.{JobRun}
use Rattle.journal_model.specs.declared.state.Core.{Core}
use Rattle.journal_model.specs.declared.fences.FenceRun.{FenceRun}
use Rattle.journal_model.specs.code.JobRuns.{jobs_of_run, fences_of_run, behind}
use Rattle.journal_model.specs.rules.Waits.{waited_for, unfinished, is_unfinished}
use Rattle.journal_model.proofs.JobRunLaws.{joined_jobs}
use Rattle.rules_holds.specs.Named.{named_last, named_of}
use Rattle.rules_holds.specs.Least.{IsLeast}
use Rattle.rules_holds.proofs.NamedJobs.{named_first-last}
use Rattle.rules_holds.specs.declared.waits.Before.{Before}
use Rattle.rules_holds.specs.Before.{jobs_before}
use Rattle.rules_holds.proofs.BeforeLaws.{fences_more}

-- ---- of one run

-- a job in front of one that is named isn't
passed_first : (p : JobId → Bool) (ctx first num : ℕ) (jobs : List JobId) → first < num → named_job (filter p jobs) ≡ Some (record { ctx = ctx; num = num })
    → named_job (filter p (record { ctx = ctx; num = first } ∷ jobs)) ≡ Some (record { ctx = ctx; num = num })
passed_first p ctx first num jobs l h = grind (arith, common_steps, nat_tests)

-- the last one, if it passes
pub last_named : (p : JobId → Bool) (ctx first n : ℕ) → p (record { ctx = ctx; num = first + n }) ≡ true
    → named_job (filter p (jobs_of_run (record { ctx = ctx; first = first; count = n + 1 }))) ≡ Some (record { ctx = ctx; num = first + n })
last_named p ctx first zero h = grind (arith, common_steps)
last_named p ctx first (suc n) h =
    let sum : suc n + 1 ≡ suc (n + 1) = omega arith in
    let from : first + suc n ≡ (1 + first) + n = omega arith in
    let rest = last_named p ctx (1 + first) n (subst (λ k. p (record { ctx = ctx; num = k }) ≡ true) from h) in
    rw (sum, from) (passed_first p ctx first ((1 + first) + n) (jobs_of_run (record { ctx = ctx; first = 1 + first; count = n + 1 })) (omega arith) rest)

-- else one before it
pub last_passed_over : (p : JobId → Bool) (ctx first n : ℕ) → p (record { ctx = ctx; num = first + n }) ≡ false
    → filter p (jobs_of_run (record { ctx = ctx; first = first; count = n + 1 })) ≡ filter p (jobs_of_run (record { ctx = ctx; first = first; count = n }))
last_passed_over p ctx first n h =
    let e = joined_jobs ctx first n 1 in
    grind (arith, common_steps)

-- none of those whose numbers are below the least
pub none_open : (c : Core) (least ctx first n : ℕ) → IsLeast c ctx least → n ≤ least - first
    → unfinished c (jobs_of_run (record { ctx = ctx; first = first; count = n })) ≡ []
none_open c least ctx first zero h l = refl
none_open c least ctx first (suc n) h l =
    let here = h first (omega arith) in
    let rest = none_open c least ctx (1 + first) n h (omega arith) in
    grind (arith, common_steps)

-- so the others are those after them
pub open_behind : (c : Core) (least : ℕ) (run : JobRun) → IsLeast c run.ctx least → least - run.first ≤ run.count
    → unfinished c (jobs_of_run (behind (least - run.first) run)) ≡ unfinished c (jobs_of_run run)
open_behind c least run h l =
    let sum : run.count ≡ (least - run.first) + (run.count - (least - run.first)) = omega arith in
    let parts = joined_jobs run.ctx run.first (least - run.first) (run.count - (least - run.first)) in
    let none = none_open c least run.ctx run.first (least - run.first) h (omega arith) in
    sym (ap (λ n. unfinished c (jobs_of_run (record run { count = n }))) sum ∙ ap (unfinished c) parts
    ∙ filter-append (is_unfinished c) (jobs_of_run (record { ctx = run.ctx; first = run.first; count = least - run.first })) (jobs_of_run (behind (least - run.first) run))
    ∙ ap (λ jobs. jobs ++ unfinished c (jobs_of_run (behind (least - run.first) run))) none)

-- all of those of a run of which none is done
all_open : (p : JobId → Bool) (jobs : List JobId) → list_all p jobs ≡ true → filter p jobs ≡ jobs
all_open p [] h = refl
all_open p (i ∷ jobs) h = let e = all_open p jobs (grind (arith, common_steps)) in grind (arith, common_steps)

pub all_within : (c : Core) (run row : JobRun) → run.ctx ≡ row.ctx → row.first ≤ run.first → run.first + run.count ≤ row.first + row.count
    → list_all (is_unfinished c) (jobs_of_run row) ≡ true → unfinished c (jobs_of_run run) ≡ jobs_of_run run
all_within c run row e l m h =
    let start = run.first - row.first in
    let rest = row.count - start - run.count in
    let first : run.first ≡ row.first + start = omega arith in
    let count : row.count ≡ start + (run.count + rest) = omega arith in
    let one = joined_jobs row.ctx row.first start (run.count + rest) in
    let two = joined_jobs row.ctx (row.first + start) run.count rest in
    let all : list_all (is_unfinished c) (jobs_of_run (record { ctx = row.ctx; first = row.first; count = start }) ++ (jobs_of_run (record { ctx = row.ctx; first = row.first + start; count = run.count }) ++ jobs_of_run (record { ctx = row.ctx; first = row.first + start + run.count; count = rest }))) ≡ true =
    subst (λ jobs. list_all (is_unfinished c) jobs ≡ true) (ap (λ n. jobs_of_run (record row { count = n })) count ∙ one ∙ ap (λ jobs. jobs_of_run (record { ctx = row.ctx; first = row.first; count = start }) ++ jobs) two) h
    in
    let mid = all_middle (is_unfinished c) (jobs_of_run (record { ctx = row.ctx; first = row.first; count = start })) (jobs_of_run (record { ctx = row.ctx; first = row.first + start; count = run.count })) (jobs_of_run (record { ctx = row.ctx; first = row.first + start + run.count; count = rest })) all in
    all_open (is_unfinished c) (jobs_of_run run) (ap₂ (λ ctx first. list_all (is_unfinished c) (jobs_of_run (record { ctx = ctx; first = first; count = run.count }))) e first ∙ mid)
  where
    all_middle : (p : JobId → Bool) (xs ys zs : List JobId) → list_all p (xs ++ (ys ++ zs)) ≡ true → list_all p ys ≡ true
    all_middle p xs ys zs h = grind (arith, common_steps)

-- the last one, where it isn't done
pub last_named_behind : (c : Core) (run : JobRun) → 0 < run.count → unfinished c (jobs_of_run (behind (run.count - 1) run)) ≡ jobs_of_run (behind (run.count - 1) run)
    → waited_for c (jobs_of_run run) ≡ Some (record { ctx = run.ctx; num = run.first + (run.count - 1) })
last_named_behind c run l h =
    let sum : run.count ≡ run.count - 1 + 1 = omega arith in
    let one : run.count - (run.count - 1) ≡ 1 = omega arith in
    let alone = subst (λ n. unfinished c (jobs_of_run (record { ctx = run.ctx; first = run.first + (run.count - 1); count = n })) ≡ jobs_of_run (record { ctx = run.ctx; first = run.first + (run.count - 1); count = n })) one h in
    let is-open = passes (is_unfinished c) (record { ctx = run.ctx; num = run.first + (run.count - 1) }) alone in
    ap (λ n. waited_for c (jobs_of_run (record run { count = n }))) sum ∙ last_named (is_unfinished c) run.ctx run.first (run.count - 1) is-open
  where
    passes : (p : JobId → Bool) (i : JobId) → filter p (i ∷ []) ≡ i ∷ [] → p i ≡ true
    passes p i h = by (p i) refl
      where
        by : (b : Bool) → p i ≡ b → p i ≡ true
        by true e = e
        by false e = grind (arith, common_steps)

-- ---- of several

named-append_none : (jobs more : List JobId) → named_job more ≡ None → named_job (jobs ++ more) ≡ named_job jobs
named-append_none [] more h = h
named-append_none (j ∷ jobs) more h = ap (λ m. Some (named_first j m)) (named-append_none jobs more h)

named-append_some : (jobs more : List JobId) (i : JobId) → named_job more ≡ Some i → named_job (jobs ++ more) ≡ Some (named_last (named_job jobs) i)
named-append_some [] more i h = h
named-append_some (j ∷ jobs) more i h = ap (λ m. Some (named_first j m)) (named-append_some jobs more i h) ∙ ap Some (named_first-last j (named_job jobs) i)

named-append : (jobs more : List JobId) (named : Option JobId) → named_job more ≡ named → named_job (jobs ++ more) ≡ named_of (named_job jobs) named
named-append jobs more None h = named-append_none jobs more h
named-append jobs more (Some i) h = named-append_some jobs more i h

waited-append : (c : Core) (jobs more : List JobId) → waited_for c (jobs ++ more) ≡ named_of (waited_for c jobs) (waited_for c more)
waited-append c jobs more =
    ap named_job (filter-append (is_unfinished c) jobs more) ∙ named-append (filter (is_unfinished c) jobs) (filter (is_unfinished c) more) (waited_for c more) refl

-- one run more
pub runs_more : (c : Core) (runs : List JobRun) (k : ℕ) (d : JobRun) → k < length runs
    → waited_for c (flat_map jobs_of_run (take (k + 1) runs)) ≡ named_of (waited_for c (flat_map jobs_of_run (take k runs))) (waited_for c (jobs_of_run (get_or runs k d)))
runs_more c runs k d l =
    let e = take_more runs k d l in
    let f = waited-append c (flat_map jobs_of_run (take k runs)) (jobs_of_run (get_or runs k d)) in
    grind (arith, common_steps)

-- one run of fences more
pub waited_fences_more : (c : Core) (before : Before) (runs : List FenceRun) (k : ℕ) (d : FenceRun) → k < length runs
    → waited_for c (jobs_before before (flat_map fences_of_run (take (k + 1) runs)))
    ≡ named_of (waited_for c (jobs_before before (flat_map fences_of_run (take k runs)))) (waited_for c (jobs_before before (fences_of_run (get_or runs k d))))
waited_fences_more c before runs k d l =
    ap (waited_for c) (fences_more before runs k d l)
    ∙ waited-append c (jobs_before before (flat_map fences_of_run (take k runs))) (jobs_before before (fences_of_run (get_or runs k d)))

pub unfinished_fences_more : (c : Core) (before : Before) (runs : List FenceRun) (k : ℕ) (d : FenceRun) → k < length runs
    → unfinished c (jobs_before before (flat_map fences_of_run (take (k + 1) runs)))
    ≡ unfinished c (jobs_before before (flat_map fences_of_run (take k runs))) ++ unfinished c (jobs_before before (fences_of_run (get_or runs k d)))
unfinished_fences_more c before runs k d l =
    ap (unfinished c) (fences_more before runs k d l)
    ∙ filter-append (is_unfinished c) (jobs_before before (flat_map fences_of_run (take k runs))) (jobs_before before (fences_of_run (get_or runs k d)))

-- one job of a run more
pub run_more : (c : Core) (ctx first n : ℕ) → unfinished c (jobs_of_run (record { ctx = ctx; first = first; count = n + 1 }))
    ≡ (if is_unfinished c (record { ctx = ctx; num = first + n }) then unfinished c (jobs_of_run (record { ctx = ctx; first = first; count = n })) ++ record { ctx = ctx; num = first + n } ∷ []
    else unfinished c (jobs_of_run (record { ctx = ctx; first = first; count = n })))
run_more c ctx first n =
    let e = joined_jobs ctx first n 1 in
    grind (arith, common_steps)
