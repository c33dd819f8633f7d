-- Runs of jobs: two of which the second goes on from the first. Runs of fences: one less.
use Rattle.std.proofs.Common.{◌≡◌, ◌∙◌, ℕ, zero, suc, ◌+◌, ◌-◌, ◌<◌, ◌≤◌, take, List, [], ◌∷◌, ◌++◌, Some, true, length, get_or, refl, sym, ap, arith}
use Rattle.std.specs.Prelude.{flat_map, map, slice_set, slice_get, remove}
use Rattle.std.proofs.lemmas.List.{get_or_append_left, get_or-append-add, length-append}
use Rattle.std.proofs.lemmas.Grind.{common_steps}
use Rattle.std.proofs.lemmas.Bool.Decides.{nat_tests}
use Rattle.ttm_base.specs.ListWords.{count_from}
use Rattle.ttm_base.specs.declared.Usage.{Usage}
use Rattle.ttm_base.specs.declared.Usage.TheVariants.{Read}
use Rattle.ttm_base.specs.declared.JobId.{JobId}
use Rattle.ttm_base.specs.declared.Fence.{Fence}
use Rattle.journal_model.specs.declared.job_ids.JobRun.{JobRun}
use Rattle.journal_model.specs.declared.fences.FenceRun.{FenceRun}
use Rattle.journal_model.specs.code.JobRuns.{jobs_of_run, fences_of_run, is_whole}
use Rattle.journal_model.proofs.RunsLaws.{last_shorter, last_goes}

-- numbers counted on
counted_on : (m n start : ℕ) → count_from 1 (m + n) start ≡ count_from 1 m start ++ count_from 1 n (start + m)
counted_on zero n start =
    let sum : zero + n ≡ n = omega arith in
    let from : start ≡ start + zero = omega arith in
    ap (λ k. count_from 1 k start) sum ∙ ap (λ k. count_from 1 n k) from
counted_on (suc m) n start =
    let sum : suc m + n ≡ suc (m + n) = omega arith in
    let from : (1 + start) + m ≡ start + suc m = omega arith in
    ap (λ k. count_from 1 k start) sum ∙ ap (λ ns. start ∷ ns) (counted_on m n (1 + start)) ∙ ap (λ k. count_from 1 (suc m) start ++ count_from 1 n k) from

-- a run that goes on from another
pub joined_jobs : (ctx first m n : ℕ) → jobs_of_run (record { ctx = ctx; first = first; count = m + n })
    ≡ jobs_of_run (record { ctx = ctx; first = first; count = m }) ++ jobs_of_run (record { ctx = ctx; first = first + m; count = n })
joined_jobs ctx first m n = let e = counted_on m n first in grind (arith, common_steps)

-- ---- fences

without_end : (xs : List Fence) (x : Fence) (all : List Fence) → all ≡ xs ++ x ∷ [] → xs ≡ take (length all - 1) all
without_end xs x all e = grind (arith, common_steps)

less_one : (usage : Usage) (ctx first n m : ℕ) → m ≡ n + 1 → fences_of_run (record { jobs = record { ctx = ctx; first = first; count = m }; usage = usage })
    ≡ fences_of_run (record { jobs = record { ctx = ctx; first = first; count = n }; usage = usage }) ++ record { job = record { ctx = ctx; num = first + n }; usage = usage } ∷ []
less_one usage ctx first n m s = let e = joined_jobs ctx first n 1 in grind (arith, common_steps)

-- the last run of fences has one less
pub last_less : (runs : List FenceRun) (at : ℕ) (run : FenceRun) → 1 < run.jobs.count → at + 1 ≡ length runs → slice_get runs at ≡ Some run
    → flat_map fences_of_run (slice_set runs at (record run { jobs = record run.jobs { count = run.jobs.count - 1 } })) ≡ take (length (flat_map fences_of_run runs) - 1) (flat_map fences_of_run runs)
last_less runs at run h l g = without_end _ _ _ (last_shorter fences_of_run runs at run (record run { jobs = record run.jobs { count = run.jobs.count - 1 } }) _ l g
    (less_one run.usage run.jobs.ctx run.jobs.first (run.jobs.count - 1) run.jobs.count (omega arith)))

single : (run : FenceRun) → run.jobs.count ≡ 1 → fences_of_run run ≡ record { job = record { ctx = run.jobs.ctx; num = run.jobs.first }; usage = run.usage } ∷ []
single run c = grind (arith, common_steps)

-- the last run of fences, of one alone, goes
pub last_gone : (runs : List FenceRun) (at : ℕ) (run : FenceRun) → is_whole run ≡ true → run.jobs.count ≤ 1 → at + 1 ≡ length runs → slice_get runs at ≡ Some run
    → flat_map fences_of_run (remove runs at) ≡ take (length (flat_map fences_of_run runs) - 1) (flat_map fences_of_run runs)
last_gone runs at run w h l g =
    let one : run.jobs.count ≡ 1 = grind (arith, nat_tests) in
    without_end _ _ _ (last_goes fences_of_run runs at run l g ∙ ap (λ fences. flat_map fences_of_run (remove runs at) ++ fences) (single run one))

-- ---- when one run has the jobs of two

nobody : JobId
nobody = record { ctx = 0; num = 0 }

-- the job at a place of a run
job_at : (ctx n first k : ℕ) → k < n → get_or (jobs_of_run (record { ctx = ctx; first = first; count = n })) k nobody ≡ record { ctx = ctx; num = first + k }
job_at ctx zero first k l = absurd (omega (arith, l))
job_at ctx (suc n) first zero l = let e : first ≡ first + 0 = omega arith in ap (λ m. record { ctx = ctx; num = m }) e
job_at ctx (suc n) first (suc k) l =
    let e : (1 + first) + k ≡ first + suc k = omega arith in
    job_at ctx n (1 + first) k (omega (arith, l)) ∙ ap (λ m. record { ctx = ctx; num = m }) e

length-count : (n start : ℕ) → length (count_from 1 n start) ≡ n
length-count zero start = refl
length-count (suc n) start = ap suc (length-count n (1 + start))

length-map : {X Y : Type 0} (f : X → Y) (xs : List X) → length (map f xs) ≡ length xs
length-map f [] = refl
length-map f (x ∷ xs) = ap suc (length-map f xs)

pub length-run : (r : JobRun) → length (jobs_of_run r) ≡ r.count
length-run r = length-map (λ n. record { ctx = r.ctx; num = n }) (count_from 1 r.count r.first) ∙ length-count r.count r.first

pub length-fences : (r : FenceRun) → length (fences_of_run r) ≡ r.jobs.count
length-fences r = length-map (λ i. record { job = i; usage = r.usage }) (jobs_of_run r.jobs) ∙ length-run r.jobs

-- the second goes on from the first
pub record GoesOn (one next both : JobRun) : Type 0 where
  pub ctx : next.ctx ≡ one.ctx
  pub first : next.first ≡ one.first + one.count
  pub count : both.count ≡ one.count + next.count

pub goes_on : (one next both : JobRun) → 0 < one.count → 0 < next.count → jobs_of_run both ≡ jobs_of_run one ++ jobs_of_run next → GoesOn one next both
goes_on one next both a b e =
    let l : length (jobs_of_run both) ≡ length (jobs_of_run one) + length (jobs_of_run next) = ap length e ∙ length-append (jobs_of_run one) (jobs_of_run next) in
    let n : both.count ≡ one.count + next.count = grind (arith, l, length-run both, length-run one, length-run next) in
    let here : get_or (jobs_of_run both) 0 nobody ≡ get_or (jobs_of_run one) 0 nobody = ap (λ js. get_or js 0 nobody) e ∙ get_or_append_left (jobs_of_run one) (jobs_of_run next) nobody 0 (omega (arith, a, length-run one)) in
    let there : get_or (jobs_of_run both) one.count nobody ≡ get_or (jobs_of_run next) 0 nobody =
    ap (λ js. get_or js one.count nobody) e ∙ ap (λ k. get_or (jobs_of_run one ++ jobs_of_run next) k nobody) (let z : one.count ≡ length (jobs_of_run one) + 0 = omega (arith, length-run one) in z)
    ∙ get_or-append-add (jobs_of_run one) (jobs_of_run next) 0 nobody in
    let b0 = job_at both.ctx both.count both.first 0 (omega (arith, n, a)) in
    let o0 = job_at one.ctx one.count one.first 0 a in
    let n0 = job_at next.ctx next.count next.first 0 b in
    let bk = job_at both.ctx both.count both.first one.count (omega (arith, n, b)) in
    let heads : Path JobId (record { ctx = both.ctx; num = both.first + 0 }) (record { ctx = one.ctx; num = one.first + 0 }) = sym b0 ∙ here ∙ o0 in
    let later : Path JobId (record { ctx = both.ctx; num = both.first + one.count }) (record { ctx = next.ctx; num = next.first + 0 }) = sym bk ∙ there ∙ n0 in
    let c1 = ap (λ (j : JobId). j.ctx) heads in
    let c2 = ap (λ (j : JobId). j.ctx) later in
    let f1 = ap (λ (j : JobId). j.num) heads in
    let f2 = ap (λ (j : JobId). j.num) later in
    record { ctx = sym c2 ∙ c1; first = omega (arith, f1, f2); count = n }

-- two runs of fences
nothing : Fence
nothing = record { job = nobody; usage = Read }

usage_at : (u : Usage) (js : List JobId) (k : ℕ) → k < length js → (get_or (map (λ i. record { job = i; usage = u }) js) k nothing).usage ≡ u
usage_at u [] k l = absurd (omega (arith, l))
usage_at u (j ∷ js) zero l = refl
usage_at u (j ∷ js) (suc k) l = usage_at u js k (omega (arith, l))

jobs_of : (u : Usage) (js : List JobId) → map (λ (f : Fence). f.job) (map (λ i. record { job = i; usage = u }) js) ≡ js
jobs_of u [] = refl
jobs_of u (j ∷ js) = ap (λ ks. j ∷ ks) (jobs_of u js)

job_lists : (xs ys : List Fence) → map (λ (f : Fence). f.job) (xs ++ ys) ≡ map (λ (f : Fence). f.job) xs ++ map (λ (f : Fence). f.job) ys
job_lists [] ys = refl
job_lists (x ∷ xs) ys = ap (λ js. x.job ∷ js) (job_lists xs ys)

-- the second run of fences goes on from the first
pub record FencesGoOn (one next both : FenceRun) : Type 0 where
  pub usage : next.usage ≡ one.usage
  pub jobs : jobs_of_run both.jobs ≡ jobs_of_run one.jobs ++ jobs_of_run next.jobs

pub fences_go_on : (one next both : FenceRun) → 0 < one.jobs.count → 0 < next.jobs.count → fences_of_run both ≡ fences_of_run one ++ fences_of_run next → FencesGoOn one next both
fences_go_on one next both a b e =
    let l : length (fences_of_run both) ≡ length (fences_of_run one) + length (fences_of_run next) = ap length e ∙ length-append (fences_of_run one) (fences_of_run next) in
    let n : both.jobs.count ≡ one.jobs.count + next.jobs.count = omega (arith, l, length-fences both, length-fences one, length-fences next) in
    let here : get_or (fences_of_run both) 0 nothing ≡ get_or (fences_of_run one) 0 nothing = ap (λ fs. get_or fs 0 nothing) e ∙ get_or_append_left (fences_of_run one) (fences_of_run next) nothing 0 (omega (arith, a, length-fences one)) in
    let there : get_or (fences_of_run both) one.jobs.count nothing ≡ get_or (fences_of_run next) 0 nothing =
    ap (λ fs. get_or fs one.jobs.count nothing) e ∙ ap (λ k. get_or (fences_of_run one ++ fences_of_run next) k nothing) (let z : one.jobs.count ≡ length (fences_of_run one) + 0 = omega (arith, length-fences one) in z)
    ∙ get_or-append-add (fences_of_run one) (fences_of_run next) 0 nothing in
    let b0 = usage_at both.usage (jobs_of_run both.jobs) 0 (omega (arith, n, a, length-run both.jobs)) in
    let o0 = usage_at one.usage (jobs_of_run one.jobs) 0 (omega (arith, a, length-run one.jobs)) in
    let n0 = usage_at next.usage (jobs_of_run next.jobs) 0 (omega (arith, b, length-run next.jobs)) in
    let bk = usage_at both.usage (jobs_of_run both.jobs) one.jobs.count (omega (arith, n, b, length-run both.jobs)) in
    record {
      usage = sym n0 ∙ sym (ap (λ (f : Fence). f.usage) there) ∙ bk ∙ sym b0 ∙ ap (λ (f : Fence). f.usage) here ∙ o0;
      jobs =
          sym (jobs_of both.usage (jobs_of_run both.jobs)) ∙ ap (map (λ (f : Fence). f.job)) e ∙ job_lists (fences_of_run one) (fences_of_run next)
          ∙ ap (λ js. js ++ map (λ (f : Fence). f.job) (fences_of_run next)) (jobs_of one.usage (jobs_of_run one.jobs)) ∙ ap (λ js. jobs_of_run one.jobs ++ js) (jobs_of next.usage (jobs_of_run next.jobs));
    }
