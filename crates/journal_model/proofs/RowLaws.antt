-- The last jobs, of which none is done and whose numbers follow one another.
use Rattle.std.proofs.Common.{◌≡◌, ◌∙◌, ℕ, zero, suc, ◌+◌, ◌-◌, ◌<◌, ◌≤◌, Bool, true, false, List, [], ◌∷◌, ◌++◌, length, take, drop, get_or, refl, sym, subst, ap, arith, if◌then◌else◌}
use Rattle.std.specs.Prelude.{IsTrue, map, not, ◌&&◌}
use Rattle.std.specs.List.{list_all, list_any, slice_range}
use Rattle.std.proofs.lemmas.List.Folds.{drop_split}
use Rattle.std.proofs.lemmas.Grind.{common_steps}
use Rattle.std.proofs.lemmas.Bool.Decides.{nat_tests}
use Rattle.ttm_base.specs.declared.JobId.{JobId}
use Rattle.journal_model.specs.declared.state.Job.{Job}
use Rattle.journal_model.specs.declared.job_ids.JobRun.{JobRun}
use Rattle.journal_model.specs.rules.JobNames.{same_job}
use Rattle.journal_model.specs.code.JobRuns.{jobs_of_run, is_in, behind, fits, up_to}
use Rattle.journal_model.specs.code.Jobs.{IsRow, closes, ends_open, has_packets_left}
use Rattle.journal_model.specs.rules.ApplyJobs.{changed_job}
use Rattle.journal_model.proofs.JobRunLaws.{joined_jobs, length-run}
use Rattle.journal_model.proofs.SplitJobs.{others_same, others_left, left_behind, drop-map, any_of_rest}

-- ---- a run's jobs

-- a job that isn't one of them has another name
pub none_in : (i : JobId) (ctx n first : ℕ) → is_in i (record { ctx = ctx; first = first; count = n }) ≡ false → list_any (same_job i) (jobs_of_run (record { ctx = ctx; first = first; count = n })) ≡ false
none_in i ctx zero first h = refl
none_in i ctx (suc n) first h =
    let here : same_job i (record { ctx = ctx; num = first }) ≡ false = grind (arith, nat_tests) in
    let rest = none_in i ctx n (1 + first) (grind (arith, nat_tests)) in
    grind (arith, common_steps)

drop-front : {X : Type 0} (xs ys : List X) → drop (length xs) (xs ++ ys) ≡ ys
drop-front [] ys = refl
drop-front (x ∷ xs) ys = drop-front xs ys

drop-more : {X : Type 0} (xs ys : List X) (k : ℕ) → drop (length xs + k) (xs ++ ys) ≡ drop k ys
drop-more [] ys k = ap (λ n. drop n ys) (let e : zero + k ≡ k = omega arith in e)
drop-more (x ∷ xs) ys k = ap (λ n. drop n ((x ∷ xs) ++ ys)) (let e : suc (length xs) + k ≡ suc (length xs + k) = omega arith in e) ∙ drop-more xs ys k

-- those after the first k of a run
run_behind : (ctx first k n : ℕ) → drop k (jobs_of_run (record { ctx = ctx; first = first; count = k + n })) ≡ jobs_of_run (record { ctx = ctx; first = first + k; count = n })
run_behind ctx first k n =
    ap (drop k) (joined_jobs ctx first k n)
    ∙ subst (λ m. drop m (jobs_of_run (record { ctx = ctx; first = first; count = k }) ++ jobs_of_run (record { ctx = ctx; first = first + k; count = n })) ≡ jobs_of_run (record { ctx = ctx; first = first + k; count = n }))
    (length-run (record { ctx = ctx; first = first; count = k }))
    (drop-front (jobs_of_run (record { ctx = ctx; first = first; count = k })) (jobs_of_run (record { ctx = ctx; first = first + k; count = n })))

-- ---- rows

pub no_row : (jobs : List Job) → IsRow jobs (record { ctx = 0; first = 0; count = 0 })
no_row jobs = record { before = jobs; last = []; joined = grind (arith, common_steps); names = refl; pending = refl; fit = refl }

pub row_alone : (jobs : List Job) (job : Job) (id : JobId) → job.id ≡ id → job.finished ≡ false → IsTrue (fits (record { ctx = id.ctx; first = id.num; count = 1 })) → IsRow (jobs ++ job ∷ []) (record { ctx = id.ctx; first = id.num; count = 1 })
row_alone jobs job id e h f = record { before = jobs; last = job ∷ []; joined = refl; names = ap (λ i. i ∷ []) e; pending = grind (arith, common_steps); fit = f }

-- one job more goes on with the row
pub row_pushed : (jobs : List Job) (job : Job) (row both : JobRun) → job.finished ≡ false → IsTrue (fits both)
    → jobs_of_run both ≡ jobs_of_run row ++ jobs_of_run (record { ctx = job.id.ctx; first = job.id.num; count = 1 }) → IsRow jobs row → IsRow (jobs ++ job ∷ []) both
row_pushed jobs job row both h f e r =
    let joined = r.joined in
    let names = r.names in
    let pending = r.pending in
    record {
      before = r.before;
      last = r.last ++ job ∷ [];
      joined = grind (arith, common_steps);
      names = grind (arith, common_steps);
      pending = grind (arith, common_steps);
      fit = f;
    }

length-names : (jobs : List Job) → length (map (λ j. j.id) jobs) ≡ length jobs
length-names [] = refl
length-names (j ∷ jobs) = ap suc (length-names jobs)

length-last : (jobs : List Job) (row : JobRun) (r : IsRow jobs row) → length r.last ≡ row.count
length-last jobs row r = sym (length-names r.last) ∙ ap length r.names ∙ length-run row

names-last : (jobs : List Job) (row : JobRun) (k : ℕ) (r : IsRow jobs row) → k ≤ row.count → map (λ j. j.id) (drop k r.last) ≡ jobs_of_run (record { ctx = row.ctx; first = row.first + k; count = row.count - k })
names-last jobs row k r l =
    let sum : row.count ≡ k + (row.count - k) = omega arith in
    sym (drop-map (λ j. j.id) r.last k) ∙ ap (drop k) r.names ∙ ap (λ n. drop k (jobs_of_run (record row { count = n }))) sum ∙ run_behind row.ctx row.first k (row.count - k)

pub row_within : (jobs : List Job) (row : JobRun) → IsRow jobs row → row.count ≤ length jobs
row_within jobs row r =
    let joined = r.joined in
    let last = length-last jobs row r in
    grind (arith, common_steps)

-- the row without its first jobs
pub row_cut : (jobs : List Job) (row : JobRun) (k : ℕ) → k ≤ row.count → IsRow jobs row → IsRow jobs (behind k row)
row_cut jobs row k l r =
    let joined = r.joined in
    let pending = r.pending in
    let fit = r.fit in
    let parts : r.last ≡ take k r.last ++ drop k r.last = grind (arith, common_steps) in
    let all = subst (λ xs. list_all (λ j. not j.finished) xs ≡ true) parts pending in
    record {
      before = r.before ++ take k r.last;
      last = drop k r.last;
      joined = grind (arith, common_steps);
      names = names-last jobs row k r l;
      pending = grind (arith, common_steps);
      fit = grind (arith, nat_tests);
    }

any_names : (i : JobId) (jobs : List Job) → list_any (λ j. same_job i j.id) jobs ≡ list_any (same_job i) (map (λ j. j.id) jobs)
any_names i [] = refl
any_names i (j ∷ jobs) = let e = any_names i jobs in grind (arith, common_steps)

-- another job is done, or counts a packet more: the row stays
pub row_kept : (f : Job → Job) (jobs : List Job) (row : JobRun) (id : JobId) → list_any (same_job id) (jobs_of_run row) ≡ false → IsRow jobs row → IsRow (changed_job f id jobs) row
row_kept f jobs row id h r =
    let none : list_any (λ j. same_job id j.id) r.last ≡ false = any_names id r.last ∙ ap (list_any (same_job id)) r.names ∙ h in
    let same = others_same f r.last id none in
    let joined : changed_job f id jobs ≡ changed_job f id r.before ++ r.last = ap (changed_job f id) r.joined ∙ changed-append f id r.before r.last ∙ ap (λ xs. changed_job f id r.before ++ xs) same in
    record { before = changed_job f id r.before; last = r.last; joined = joined; names = r.names; pending = r.pending; fit = r.fit }
  where
    changed-append : (f : Job → Job) (id : JobId) (xs ys : List Job) → changed_job f id (xs ++ ys) ≡ changed_job f id xs ++ changed_job f id ys
    changed-append f id [] ys = refl
    changed-append f id (x ∷ xs) ys = ap (λ zs. (if same_job id x.id then f x else x) ∷ zs) (changed-append f id xs ys)

module _ (g : Job → Job) (named : (j : Job) → (g j).id ≡ j.id) (ends : (j : Job) → (g j).finished ≡ j.finished) where
  names_after : (jobs : List Job) → map (λ j. j.id) (map g jobs) ≡ map (λ j. j.id) jobs
  names_after [] = refl
  names_after (j ∷ jobs) = let e = named j in let f = names_after jobs in grind (arith, common_steps)

  pending_after : (jobs : List Job) → list_all (λ j. not j.finished) (map g jobs) ≡ list_all (λ j. not j.finished) jobs
  pending_after [] = refl
  pending_after (j ∷ jobs) = let e = ends j in let f = pending_after jobs in grind (arith, common_steps)

  row_after : (jobs : List Job) (row : JobRun) → IsRow jobs row → IsRow (map g jobs) row
  row_after jobs row r =
      let joined = r.joined in
      record { before = map g r.before; last = map g r.last; joined = grind (arith, common_steps); names = names_after r.last ∙ r.names; pending = pending_after r.last ∙ r.pending; fit = r.fit }

-- a packet more of a job
pub row_counted : (jobs : List Job) (row : JobRun) (id : JobId) → IsRow jobs row → IsRow (changed_job (λ j. record j { ran = j.ran + 1 }) id jobs) row
row_counted jobs row id r = row_after (λ j. if same_job id j.id then record j { ran = j.ran + 1 } else j) (λ j. grind (arith, common_steps)) (λ j. grind (arith, common_steps)) jobs row r

-- ---- where a job can stand

any_later : (p : Job → Bool) (jobs : List Job) (n k : ℕ) → list_any p (drop n jobs) ≡ false → list_any p (drop (n + k) jobs) ≡ false
any_later p jobs n zero h = subst (λ m. list_any p (drop m jobs) ≡ false) (let e : n ≡ n + zero = omega arith in e) h
any_later p jobs n (suc k) h = subst (λ m. list_any p (drop m jobs) ≡ false) (let e : suc (n + k) ≡ n + suc k = omega arith in e) (any_of_rest p jobs (n + k) (any_later p jobs n k h))

-- none of those after the first k of the row has the name
pub none_behind : (jobs : List Job) (row : JobRun) (id : JobId) (k end : ℕ) → IsRow jobs row → k ≤ row.count → length jobs - (row.count - k) ≤ end
    → is_in id (behind k row) ≡ false → list_any (λ j. same_job id j.id) (drop end jobs) ≡ false
none_behind jobs row id k end r l m h =
    let joined = r.joined in
    let last = length-last jobs row r in
    let all : length jobs ≡ length r.before + row.count = grind (arith, common_steps) in
    let sum : end ≡ length r.before + k + (end - (length r.before + k)) = omega arith in
    let none = none_in id row.ctx (row.count - k) (row.first + k) h in
    let here : list_any (λ j. same_job id j.id) (drop k r.last) ≡ false = any_names id (drop k r.last) ∙ ap (list_any (same_job id)) (names-last jobs row k r l) ∙ none in
    let there : list_any (λ j. same_job id j.id) (drop (length r.before + k) jobs) ≡ false = subst (λ xs. list_any (λ j. same_job id j.id) (drop (length r.before + k) xs) ≡ false) (sym joined) (ap (list_any (λ j. same_job id j.id)) (drop-more r.before r.last k) ∙ here) in
    subst (λ n. list_any (λ j. same_job id j.id) (drop n jobs) ≡ false) (sym sum) (any_later (λ j. same_job id j.id) jobs (length r.before + k) (end - (length r.before + k)) there)

-- the row once a job is done
pub row_done : (f : Job → Job) (jobs : List Job) (row : JobRun) (id : JobId) (k : ℕ) → k ≤ row.count → is_in id (behind k row) ≡ false → IsRow jobs row → IsRow (changed_job f id jobs) (behind k row)
row_done f jobs row id k l h r = row_kept f jobs (behind k row) id (none_in id row.ctx (row.count - k) (row.first + k) h) (row_cut jobs row k l r)

-- ---- jobs between two positions

-- a look may leave out those after, of which none passes
any_between : (p : Job → Bool) (jobs : List Job) (n m : ℕ) → n ≤ m → list_any p (drop m jobs) ≡ false → list_any p (slice_range jobs n m) ≡ list_any p (drop n jobs)
any_between p jobs n m l h = let e = drop_split jobs n m l in grind (arith, common_steps)

pub closes_between : (jobs : List Job) (at end : ℕ) (j : Job) → get_or jobs at j ≡ j → at < length jobs → at + 1 ≤ end → list_any (λ k. same_job j.id k.id) (drop end jobs) ≡ false
    → closes (drop at jobs) ≡ (j.finished && not (list_any (λ k. same_job j.id k.id) (slice_range jobs (at + 1) end)))
closes_between jobs at end j e w l h =
    let cons : drop at jobs ≡ j ∷ drop (at + 1) jobs = grind (arith, common_steps) in
    let any = any_between (λ k. same_job j.id k.id) jobs (at + 1) end l h in
    ap closes cons ∙ ap (λ b. j.finished && not b) (sym any)

pub left_between : (jobs : List Job) (id : JobId) (n m : ℕ) → n ≤ m → list_any (λ j. same_job id j.id) (take n jobs) ≡ false → list_any (λ j. same_job id j.id) (drop m jobs) ≡ false
    → list_all (has_packets_left id) (slice_range jobs n m) ≡ list_all (has_packets_left id) jobs
left_between jobs id n m l before after =
    let e = drop_split jobs n m l in
    let rest = others_left (drop m jobs) id after in
    let all : list_all (has_packets_left id) (slice_range jobs n m) ≡ list_all (has_packets_left id) (drop n jobs) = grind (arith, common_steps) in
    all ∙ left_behind jobs n id before

pub changed_parts : (f : Job → Job) (id : JobId) (jobs : List Job) (n : ℕ) → changed_job f id (drop n jobs) ≡ drop n jobs → changed_job f id (take n jobs) ++ drop n jobs ≡ changed_job f id jobs
changed_parts f id jobs zero h = sym h
changed_parts f id [] (suc n) h = refl
changed_parts f id (j ∷ jobs) (suc n) h = ap (λ xs. (if same_job id j.id then f j else j) ∷ xs) (changed_parts f id jobs n h)

-- ---- the row's jobs aren't done

open_in : (before last : List Job) → list_all (λ j. not j.finished) last ≡ true → list_all (λ i. list_any (λ j. same_job i j.id && not j.finished) (before ++ last)) (map (λ j. j.id) last) ≡ true
open_in before [] h = refl
open_in before (j ∷ last) h =
    let more : (before ++ j ∷ []) ++ last ≡ before ++ j ∷ last = grind (arith, common_steps) in
    let rest = subst (λ jobs. list_all (λ i. list_any (λ j. same_job i j.id && not j.finished) jobs) (map (λ j. j.id) last) ≡ true) more (open_in (before ++ j ∷ []) last (grind (arith, common_steps))) in
    let here : list_any (λ k. same_job j.id k.id && not k.finished) (before ++ j ∷ last) ≡ true = grind (arith, common_steps, nat_tests) in
    grind (arith, common_steps)

pub row_open : (jobs : List Job) (row : JobRun) → IsRow jobs row → IsTrue (list_all (λ i. list_any (λ j. same_job i j.id && not j.finished) jobs) (jobs_of_run row))
row_open jobs row r = subst (λ all. list_all (λ i. list_any (λ j. same_job i j.id && not j.finished) all) (jobs_of_run row) ≡ true) (sym r.joined)
    (subst (λ names. list_all (λ i. list_any (λ j. same_job i j.id && not j.finished) (r.before ++ r.last)) names ≡ true) r.names (open_in r.before r.last r.pending))

-- ---- a last job that isn't done

pub open_pushed : (jobs : List Job) (job : Job) → ends_open (jobs ++ job ∷ []) ≡ not job.finished
open_pushed jobs job =
    let n : length (jobs ++ job ∷ []) - 1 ≡ length jobs = grind (arith, common_steps) in
    ap (λ k. list_any (λ j. not j.finished) (drop k (jobs ++ job ∷ []))) n ∙ ap (list_any (λ j. not j.finished)) (drop-front jobs (job ∷ [])) ∙ one job
  where
    one : (j : Job) → list_any (λ j. not j.finished) (j ∷ []) ≡ not j.finished
    one j = grind (arith, common_steps)

length-changed : (f : Job → Job) (id : JobId) (jobs : List Job) → length (changed_job f id jobs) ≡ length jobs
length-changed f id [] = refl
length-changed f id (j ∷ jobs) = ap suc (length-changed f id jobs)

drop-changed : (f : Job → Job) (id : JobId) (n : ℕ) (jobs : List Job) → drop n (changed_job f id jobs) ≡ changed_job f id (drop n jobs)
drop-changed f id zero jobs = refl
drop-changed f id (suc n) [] = refl
drop-changed f id (suc n) (j ∷ jobs) = drop-changed f id n jobs

-- the job that is left open was open, and has another name
open_before : (id : JobId) (jobs : List Job) → list_any (λ j. not j.finished) (changed_job (λ j. record j { finished = true }) id jobs) ≡ true → list_any (λ j. not j.finished) jobs ≡ true
open_before id [] h = h
open_before id (j ∷ jobs) h = let rest = open_before id jobs in grind (arith, common_steps)

open_other : (id : JobId) (jobs : List Job) → list_any (λ j. not j.finished) (changed_job (λ j. record j { finished = true }) id jobs) ≡ true → list_any (λ i. not (same_job id i)) (map (λ j. j.id) jobs) ≡ true
open_other id [] h = h
open_other id (j ∷ jobs) h = let rest = open_other id jobs in grind (arith, common_steps)

pub open_counted : (id : JobId) (jobs : List Job) → ends_open (changed_job (λ j. record j { ran = j.ran + 1 }) id jobs) ≡ true → ends_open jobs ≡ true
open_counted id jobs h =
    same (drop (length jobs - 1) jobs)
    (sym (ap (list_any (λ j. not j.finished)) (ap (λ n. drop (n - 1) (changed_job (λ j. record j { ran = j.ran + 1 }) id jobs)) (length-changed (λ j. record j { ran = j.ran + 1 }) id jobs) ∙ drop-changed (λ j. record j { ran = j.ran + 1 }) id (length jobs - 1) jobs)) ∙ h)
  where
    same : (xs : List Job) → list_any (λ j. not j.finished) (changed_job (λ j. record j { ran = j.ran + 1 }) id xs) ≡ true → list_any (λ j. not j.finished) xs ≡ true
    same [] h = h
    same (x ∷ xs) h = let rest = same xs in grind (arith, common_steps)

-- the last of the row has another name, so some of the row are left
left_open : (id : JobId) (ctx first n : ℕ) → list_any (λ i. not (same_job id i)) (jobs_of_run (record { ctx = ctx; first = first + n; count = 1 })) ≡ true
    → 0 < suc n - up_to id (record { ctx = ctx; first = first; count = suc n })
left_open id ctx first n h =
    let other : same_job id (record { ctx = ctx; num = first + n }) ≡ false = grind (arith, common_steps) in
    grind (arith, nat_tests)

pub open_finished : (jobs : List Job) (row : JobRun) (id : JobId) → IsRow jobs row → (ends_open jobs ≡ true → 0 < row.count)
    → ends_open (changed_job (λ j. record j { finished = true }) id jobs) ≡ true → 0 < row.count - up_to id row
open_finished jobs row id r some h =
    let end : list_any (λ j. not j.finished) (changed_job (λ j. record j { finished = true }) id (drop (length jobs - 1) jobs)) ≡ true =
    sym (ap (list_any (λ j. not j.finished)) (ap (λ n. drop (n - 1) (changed_job (λ j. record j { finished = true }) id jobs)) (length-changed (λ j. record j { finished = true }) id jobs) ∙ drop-changed (λ j. record j { finished = true }) id (length jobs - 1) jobs)) ∙ h in
    by row.count (some (open_before id (drop (length jobs - 1) jobs) end)) refl (open_other id (drop (length jobs - 1) jobs) end)
  where
    by : (count : ℕ) → 0 < count → row.count ≡ count → list_any (λ i. not (same_job id i)) (map (λ j. j.id) (drop (length jobs - 1) jobs)) ≡ true → 0 < row.count - up_to id row
    by zero l e other = absurd (omega (arith, l))
    by (suc n) l e other =
        let last = length-last jobs row r in
        let joined = r.joined in
        let all : length jobs ≡ length r.before + row.count = grind (arith, common_steps) in
        let at : length jobs - 1 ≡ length r.before + n = omega (arith, all, e) in
        let here : drop (length jobs - 1) jobs ≡ drop n r.last = ap (λ k. drop k jobs) at ∙ ap (drop (length r.before + n)) joined ∙ drop-more r.before r.last n in
        let few : n ≤ row.count = omega (arith, e) in
        let one : row.count - n ≡ 1 = omega (arith, e) in
        let names = ap (map (λ j. j.id)) here ∙ names-last jobs row n r few ∙ ap (λ m. jobs_of_run (record { ctx = row.ctx; first = row.first + n; count = m })) one in
        let left = left_open id row.ctx row.first n (sym (ap (list_any (λ i. not (same_job id i))) names) ∙ other) in
        subst (λ m. 0 < m - up_to id (record row { count = m })) (sym e) left
