-- Closed jobs stay closed, and what is looked for after them.
use Rattle.std.proofs.Common.{◌≡◌, ℕ, zero, suc, ◌+◌, ◌<◌, ◌≤◌, Bool, true, false, List, [], ◌∷◌, ◌++◌, length, take, drop, ◌-◌, Some, None, refl, ap, ap₂, sym, subst, arith, ◌∙◌}
use Rattle.std.proofs.lemmas.Grind.{common_steps}
use Rattle.std.proofs.lemmas.Bool.Decides.{nat_tests}
use Rattle.std.specs.Prelude.{find, map, remove, not, if◌then◌else◌}
use Rattle.std.specs.List.{list_all, list_any}
use Rattle.ttm_base.specs.declared.JobId.{JobId}
use Rattle.journal_model.specs.declared.state.Job.{Job}
use Rattle.journal_model.specs.rules.Waits.{same_job}
use Rattle.journal_model.specs.rules.ApplyJobs.{changed_job}
use Rattle.journal_model.specs.code.Jobs.{ArePending, AreClosed, IsSplit, AreBounded, closes, is_bounded, is_past, has_packets_left}

-- ---- names

same_is : (i j : JobId) → same_job i j ≡ true → i ≡ j
same_is i j h =
    let c : i.ctx ≡ j.ctx = grind (arith, nat_tests) in
    let n : i.num ≡ j.num = grind (arith, nat_tests) in
    ap₂ (λ ctx num. record { ctx = ctx; num = num }) c n

same_swapped : (i j : JobId) → same_job i j ≡ same_job j i
same_swapped i j = grind (arith, nat_tests)

-- ---- parts of lists

pub any_of_rest : {X : Type 0} (p : X → Bool) (xs : List X) (n : ℕ) → list_any p (drop n xs) ≡ false → list_any p (drop (suc n) xs) ≡ false
any_of_rest p [] n h = refl
any_of_rest p (x ∷ xs) zero h = grind (arith, common_steps)
any_of_rest p (x ∷ xs) (suc n) h = any_of_rest p xs n h

any_of_front : {X : Type 0} (p : X → Bool) (xs : List X) (n m : ℕ) → list_any p (drop n xs) ≡ false → list_any p (drop n (take m xs)) ≡ false
any_of_front p xs zero zero h = refl
any_of_front p [] zero (suc m) h = refl
any_of_front p (x ∷ xs) zero (suc m) h =
    let rest : list_any p (take m xs) ≡ false = any_of_front p xs zero m (grind (arith, common_steps)) in
    grind (arith, common_steps)
any_of_front p xs (suc n) zero h = refl
any_of_front p [] (suc n) (suc m) h = refl
any_of_front p (x ∷ xs) (suc n) (suc m) h = any_of_front p xs n m h

take-map : {X Y : Type 0} (f : X → Y) (xs : List X) (n : ℕ) → take n (map f xs) ≡ map f (take n xs)
take-map f xs zero = refl
take-map f [] (suc n) = refl
take-map f (x ∷ xs) (suc n) = ap (λ ys. f x ∷ ys) (take-map f xs n)

pub drop-map : {X Y : Type 0} (f : X → Y) (xs : List X) (n : ℕ) → drop n (map f xs) ≡ map f (drop n xs)
drop-map f xs zero = refl
drop-map f [] (suc n) = refl
drop-map f (x ∷ xs) (suc n) = drop-map f xs n

find_behind : {X : Type 0} (p : X → Bool) (xs ys : List X) → list_any p xs ≡ false → find p (xs ++ ys) ≡ find p ys
find_behind p [] ys h = refl
find_behind p (x ∷ xs) ys h =
    let rest : find p (xs ++ ys) ≡ find p ys = find_behind p xs ys (grind (arith, common_steps)) in
    grind (arith, common_steps)

find_before : {X : Type 0} (p : X → Bool) (xs ys : List X) → find p ys ≡ None → find p (xs ++ ys) ≡ find p xs
find_before p [] ys h = h
find_before p (x ∷ xs) ys h =
    let rest : find p (xs ++ ys) ≡ find p xs = find_before p xs ys h in
    grind (arith, common_steps)

any_found : {X : Type 0} (p : X → Bool) (xs : List X) (x : X) → find p xs ≡ Some x → list_any p xs ≡ true
any_found p [] x h = cc
any_found p (y ∷ xs) x h = by (p y) refl (λ r. any_found p xs x r)
  where
    by : (b : Bool) → p y ≡ b → (find p xs ≡ Some x → list_any p xs ≡ true) → list_any p (y ∷ xs) ≡ true
    by true e f = grind (arith, common_steps)
    by false e f = let rest = f (grind (arith, common_steps)) in grind (arith, common_steps)

-- ---- what is closed

-- at first nothing is
pub split_first : (jobs : List Job) → IsSplit jobs 0
split_first jobs = record { within = omega arith; parts = record { done = refl; apart = refl } }

more : (jobs : List Job) (n : ℕ) → AreClosed (take n jobs) (drop n jobs) → closes (drop n jobs) ≡ true → AreClosed (take (suc n) jobs) (drop (suc n) jobs)
more [] zero c h = cc
more [] (suc n) c h = cc
more (j ∷ js) zero c h = record { done = grind (arith, common_steps); apart = grind (arith, common_steps) }
more (j ∷ js) (suc n) c h =
    let inner : AreClosed (take (suc n) js) (drop (suc n) js) = more js n (record { done = grind (arith, common_steps, c.done); apart = grind (arith, common_steps, c.apart) }) h in
    let far : list_any (λ k. same_job j.id k.id) (drop (suc n) js) ≡ false = any_of_rest (λ k. same_job j.id k.id) js n (grind (arith, common_steps, c.apart)) in
    record { done = grind (arith, common_steps, c.done, inner.done); apart = grind (arith, common_steps, far, inner.apart) }

-- one job more is closed
pub split_more : (jobs : List Job) (n : ℕ) → IsSplit jobs n → n < length jobs → closes (drop n jobs) ≡ true → IsSplit jobs (n + 1)
split_more jobs n s l h =
    let next : suc n ≡ n + 1 = omega arith in
    let within : suc n ≤ length jobs = omega arith in
    subst (λ m. IsSplit jobs m) next (record { within = within; parts = more jobs n s.parts h })

apart_pushed : (closed pending : List Job) (job : Job) → list_any (λ j. same_job job.id j.id) closed ≡ false → list_all (λ j. not (list_any (λ k. same_job j.id k.id) pending)) closed ≡ true → list_all (λ j. not (list_any (λ k. same_job j.id k.id) (pending ++ job ∷ []))) closed ≡ true
apart_pushed [] pending job n h = refl
apart_pushed (j ∷ js) pending job n h =
    let rest = apart_pushed js pending job (grind (arith, common_steps)) (grind (arith, common_steps)) in
    let swapped = same_swapped j.id job.id in
    grind (arith, common_steps)

-- a job with a name of its own follows them
pub split_pushed : (jobs : List Job) (n : ℕ) (job : Job) → IsSplit jobs n → list_any (λ j. same_job job.id j.id) (take n jobs) ≡ false → IsSplit (jobs ++ job ∷ []) n
split_pushed jobs n job s h =
    let within = s.within in
    let front : take n (jobs ++ job ∷ []) ≡ take n jobs = grind (arith, common_steps) in
    let back : drop n (jobs ++ job ∷ []) ≡ drop n jobs ++ job ∷ [] = grind (arith, common_steps) in
    record {
      within = grind (arith, common_steps);
      parts = rw (front, back) (record { done = s.parts.done; apart = apart_pushed (take n jobs) (drop n jobs) job h s.parts.apart });
    }

apart_front : (closed jobs : List Job) (n m : ℕ) → list_all (λ j. not (list_any (λ k. same_job j.id k.id) (drop n jobs))) closed ≡ true → list_all (λ j. not (list_any (λ k. same_job j.id k.id) (drop n (take m jobs)))) closed ≡ true
apart_front [] jobs n m h = refl
apart_front (j ∷ js) jobs n m h =
    let rest = apart_front js jobs n m (grind (arith, common_steps)) in
    let here = any_of_front (λ k. same_job j.id k.id) jobs n m (grind (arith, common_steps)) in
    grind (arith, common_steps)

-- jobs after them are taken out
pub split_front : (jobs : List Job) (n m : ℕ) → IsSplit jobs n → n ≤ m → IsSplit (take m jobs) n
split_front jobs n m s l =
    let within = s.within in
    let front : take n (take m jobs) ≡ take n jobs = grind (arith, common_steps) in
    record {
      within = grind (arith, common_steps);
      parts = record { done = rw front s.parts.done; apart = rw front (apart_front (take n jobs) jobs n m s.parts.apart) };
    }

module _ (g : Job → Job) (named : (j : Job) → (g j).id ≡ j.id) (ends : (j : Job) → j.finished ≡ true → (g j).finished ≡ true) where
  done_after : (xs : List Job) → list_all (λ j. j.finished) xs ≡ true → list_all (λ j. j.finished) (map g xs) ≡ true
  done_after [] h = refl
  done_after (x ∷ xs) h =
      let rest = done_after xs (grind (arith, common_steps)) in
      let here = ends x (grind (arith, common_steps)) in
      grind (arith, common_steps)

  any_after : (i : JobId) (xs : List Job) → list_any (λ k. same_job i k.id) (map g xs) ≡ list_any (λ k. same_job i k.id) xs
  any_after i [] = refl
  any_after i (x ∷ xs) = rw (named x, any_after i xs) refl

  apart_after : (closed pending : List Job) → list_all (λ j. not (list_any (λ k. same_job j.id k.id) pending)) closed ≡ true → list_all (λ j. not (list_any (λ k. same_job j.id k.id) (map g pending))) (map g closed) ≡ true
  apart_after [] pending h = refl
  apart_after (x ∷ xs) pending h =
      let rest = apart_after xs pending (grind (arith, common_steps)) in
      let here : list_any (λ k. same_job (g x).id k.id) (map g pending) ≡ false = rw (named x, any_after x.id pending) (grind (arith, common_steps)) in
      grind (arith, common_steps)

  -- jobs keep their names and their ends
  pub split_after : (jobs : List Job) (n : ℕ) → IsSplit jobs n → IsSplit (map g jobs) n
  split_after jobs n s =
      let within = s.within in
      record {
        within = grind (arith, common_steps);
        parts = rw (take-map g jobs n, drop-map g jobs n) (record { done = done_after (take n jobs) s.parts.done; apart = apart_after (take n jobs) (drop n jobs) s.parts.apart });
      }

-- ---- changes of one job

abbrev finish_if : JobId → Job → Job
finish_if id j = if same_job id j.id then record j { finished = true } else j

abbrev count_if : JobId → Job → Job
count_if id j = if same_job id j.id then record j { ran = j.ran + 1 } else j

finish_named : (id : JobId) (j : Job) → (finish_if id j).id ≡ j.id
finish_named id j = grind (arith, common_steps)

finish_ends : (id : JobId) (j : Job) → j.finished ≡ true → (finish_if id j).finished ≡ true
finish_ends id j h = grind (arith, common_steps)

count_named : (id : JobId) (j : Job) → (count_if id j).id ≡ j.id
count_named id j = grind (arith, common_steps)

count_ends : (id : JobId) (j : Job) → j.finished ≡ true → (count_if id j).finished ≡ true
count_ends id j h = grind (arith, common_steps)

pub split_finished : (jobs : List Job) (n : ℕ) (id : JobId) → IsSplit jobs n → IsSplit (changed_job (λ j. record j { finished = true }) id jobs) n
split_finished jobs n id s = split_after (finish_if id) (finish_named id) (finish_ends id) jobs n s

pub split_counted : (jobs : List Job) (n : ℕ) (id : JobId) → IsSplit jobs n → IsSplit (changed_job (λ j. record j { ran = j.ran + 1 }) id jobs) n
split_counted jobs n id s = split_after (count_if id) (count_named id) (count_ends id) jobs n s

-- jobs that are done stay as they are when one is done
pub finished_same : (jobs : List Job) (id : JobId) → list_all (λ j. j.finished) jobs ≡ true → changed_job (λ j. record j { finished = true }) id jobs ≡ jobs
finished_same [] id h = refl
finished_same (j ∷ js) id h = ap₂ (λ x xs. x ∷ xs) (by (same_job id j.id) refl (grind (arith, common_steps))) (finished_same js id (grind (arith, common_steps)))
  where
    by : (b : Bool) → same_job id j.id ≡ b → j.finished ≡ true → (if same_job id j.id then record j { finished = true } else j) ≡ j
    by true e f = rw e (ap (λ (b : Bool). record j { finished = b }) (sym f))
    by false e f = rw e refl

-- others than the one stay as they are
pub others_same : (f : Job → Job) (jobs : List Job) (id : JobId) → list_any (λ j. same_job id j.id) jobs ≡ false → changed_job f id jobs ≡ jobs
others_same f [] id h = refl
others_same f (j ∷ js) id h =
    let other : same_job id j.id ≡ false = grind (arith, common_steps) in
    rw other (ap (λ xs. j ∷ xs) (others_same f js id (grind (arith, common_steps))))

apart_of : (pending : List Job) (id : JobId) (j : Job) → list_any (λ k. same_job id k.id) pending ≡ true → list_any (λ k. same_job j.id k.id) pending ≡ false → same_job id j.id ≡ false
apart_of pending id j h n = by (same_job id j.id) refl
  where
    by : (b : Bool) → same_job id j.id ≡ b → same_job id j.id ≡ false
    by false e = e
    by true e =
        let same : list_any (λ k. same_job j.id k.id) pending ≡ true = subst (λ i. list_any (λ k. same_job i k.id) pending ≡ true) (same_is id j.id e) h in
        absurd (grind (arith, common_steps))

none_named : (pending closed : List Job) (id : JobId) → list_any (λ k. same_job id k.id) pending ≡ true → list_all (λ j. not (list_any (λ k. same_job j.id k.id) pending)) closed ≡ true → list_any (λ j. same_job id j.id) closed ≡ false
none_named pending [] id h a = refl
none_named pending (x ∷ xs) id h a =
    let rest = none_named pending xs id h (grind (arith, common_steps)) in
    let here = apart_of pending id x h (grind (arith, common_steps)) in
    grind (arith, common_steps)

-- a pending job's name is no closed one's
pub pending_apart : (closed pending : List Job) (id : JobId) → AreClosed closed pending → list_any (λ j. same_job id j.id) pending ≡ true → list_any (λ j. same_job id j.id) closed ≡ false
pending_apart closed pending id c h = none_named pending closed id h c.apart

-- a job that is found among the pending ones is the first of its name
pub named_pending : (jobs : List Job) (n : ℕ) (id : JobId) (j : Job) → IsSplit jobs n → find (λ j. same_job id j.id) (drop n jobs) ≡ Some j → find (λ j. same_job id j.id) jobs ≡ Some j
named_pending jobs n id j s e =
    let joined : jobs ≡ take n jobs ++ drop n jobs = grind (arith, common_steps) in
    let none = pending_apart (take n jobs) (drop n jobs) id s.parts (any_found (λ j. same_job id j.id) (drop n jobs) j e) in
    subst (λ all. find (λ j. same_job id j.id) all ≡ Some j) (sym joined) (find_behind (λ j. same_job id j.id) (take n jobs) (drop n jobs) none ∙ e)

-- else it is among the closed ones
pub named_closed : (jobs : List Job) (n : ℕ) (id : JobId) → find (λ j. same_job id j.id) (drop n jobs) ≡ None → find (λ j. same_job id j.id) jobs ≡ find (λ j. same_job id j.id) (take n jobs)
named_closed jobs n id e =
    let joined : jobs ≡ take n jobs ++ drop n jobs = grind (arith, common_steps) in
    subst (λ all. find (λ j. same_job id j.id) all ≡ find (λ j. same_job id j.id) (take n jobs)) (sym joined) (find_before (λ j. same_job id j.id) (take n jobs) (drop n jobs) e)

-- the jobs after the closed ones are the pending ones
pub pending_of : (jobs : List Job) (n : ℕ) → IsSplit jobs n → ArePending jobs (drop n jobs)
pending_of jobs n s = record { closed = take n jobs; joined = grind (arith, common_steps); done = s.parts.done }

remove_at_end : {X : Type 0} (xs : List X) (n : ℕ) → length xs ≡ suc n → remove xs n ≡ take n xs
remove_at_end [] n h = cc
remove_at_end (x ∷ []) zero h = refl
remove_at_end (x ∷ y ∷ xs) zero h = absurd (omega (arith, h))
remove_at_end (x ∷ xs) (suc n) h = ap (λ ys. x ∷ ys) (remove_at_end xs n (omega (arith, h)))

-- the last job is taken out
pub split_dropped : (jobs : List Job) (n : ℕ) → 0 < length jobs → IsSplit jobs n → n ≤ length jobs - 1 → IsSplit (remove jobs (length jobs - 1)) n
split_dropped jobs n l s h =
    let last : length jobs ≡ suc (length jobs - 1) = omega arith in
    subst (λ xs. IsSplit xs n) (sym (remove_at_end jobs (length jobs - 1) last)) (split_front jobs n (length jobs - 1) s h)

-- ---- the greatest numbers

past_apart : (greatest : List ℕ) (id : JobId) (j : Job) → is_past greatest id ≡ true → is_bounded greatest j.id ≡ true → same_job id j.id ≡ false
past_apart greatest id j p b = by (same_job id j.id) refl
  where
    by : (same : Bool) → same_job id j.id ≡ same → same ≡ false
    by false e = refl
    by true e =
        let one : is_bounded greatest id ≡ true = subst (λ i. is_bounded greatest i ≡ true) (sym (same_is id j.id e)) b in
        grind (arith, nat_tests)

none_past : (greatest : List ℕ) (id : JobId) (jobs : List Job) (n : ℕ) → is_past greatest id ≡ true → list_all (λ j. is_bounded greatest j.id) jobs ≡ true → list_any (λ j. same_job id j.id) (take n jobs) ≡ false
none_past greatest id jobs zero p b = refl
none_past greatest id [] (suc n) p b = refl
none_past greatest id (j ∷ js) (suc n) p b =
    let bound : is_bounded greatest j.id ≡ true = grind (arith, common_steps) in
    let here = past_apart greatest id j p bound in
    let rest = none_past greatest id js n p (grind (arith, common_steps)) in
    grind (arith, common_steps)

-- a job with a greater number has a name of its own
pub past_named_apart : (greatest : List ℕ) (id : JobId) (jobs : List Job) (n : ℕ) → is_past greatest id ≡ true → AreBounded greatest jobs → list_any (λ j. same_job id j.id) (take n jobs) ≡ false
past_named_apart greatest id jobs n p b = none_past greatest id jobs n p b.all

bounded_then : (old new : List ℕ) (jobs : List Job) (job : Job) → ((i : JobId) → is_bounded old i ≡ true → is_bounded new i ≡ true) → is_bounded new job.id ≡ true → list_all (λ j. is_bounded old j.id) jobs ≡ true → list_all (λ j. is_bounded new j.id) (jobs ++ job ∷ []) ≡ true
bounded_then old new [] job others own b = grind (arith, common_steps)
bounded_then old new (j ∷ js) job others own b =
    let here = others j.id (grind (arith, common_steps)) in
    let rest = bounded_then old new js job others own (grind (arith, common_steps)) in
    grind (arith, common_steps)

-- a job follows them
pub bounded_pushed : (old new : List ℕ) (jobs : List Job) (job : Job) → ((i : JobId) → is_bounded old i ≡ true → is_bounded new i ≡ true) → is_bounded new job.id ≡ true → AreBounded old jobs → AreBounded new (jobs ++ job ∷ [])
bounded_pushed old new jobs job others own b = record { all = bounded_then old new jobs job others own b.all }

bounded_take : (greatest : List ℕ) (jobs : List Job) (n : ℕ) → list_all (λ j. is_bounded greatest j.id) jobs ≡ true → list_all (λ j. is_bounded greatest j.id) (take n jobs) ≡ true
bounded_take greatest jobs zero b = refl
bounded_take greatest [] (suc n) b = refl
bounded_take greatest (j ∷ js) (suc n) b =
    let rest = bounded_take greatest js n (grind (arith, common_steps)) in
    grind (arith, common_steps)

-- the last job is taken out
pub bounded_dropped : (greatest : List ℕ) (jobs : List Job) → 0 < length jobs → AreBounded greatest jobs → AreBounded greatest (remove jobs (length jobs - 1))
bounded_dropped greatest jobs l b =
    let last : length jobs ≡ suc (length jobs - 1) = omega arith in
    subst (λ xs. AreBounded greatest xs) (sym (remove_at_end jobs (length jobs - 1) last)) (record { all = bounded_take greatest jobs (length jobs - 1) b.all })

module _ (g : Job → Job) (named : (j : Job) → (g j).id ≡ j.id) where
  all_bounded_after : (greatest : List ℕ) (jobs : List Job) → list_all (λ j. is_bounded greatest j.id) jobs ≡ true → list_all (λ j. is_bounded greatest j.id) (map g jobs) ≡ true
  all_bounded_after greatest [] b = refl
  all_bounded_after greatest (j ∷ js) b =
      let here : is_bounded greatest (g j).id ≡ true = subst (λ i. is_bounded greatest i ≡ true) (sym (named j)) (grind (arith, common_steps)) in
      let rest = all_bounded_after greatest js (grind (arith, common_steps)) in
      grind (arith, common_steps)

  bounded_after : (greatest : List ℕ) (jobs : List Job) → AreBounded greatest jobs → AreBounded greatest (map g jobs)
  bounded_after greatest jobs b = record { all = all_bounded_after greatest jobs b.all }

pub bounded_finished : (jobs : List Job) (greatest : List ℕ) (id : JobId) → AreBounded greatest jobs → AreBounded greatest (changed_job (λ j. record j { finished = true }) id jobs)
bounded_finished jobs greatest id b = bounded_after (finish_if id) (finish_named id) greatest jobs b

pub bounded_counted : (jobs : List Job) (greatest : List ℕ) (id : JobId) → AreBounded greatest jobs → AreBounded greatest (changed_job (λ j. record j { ran = j.ran + 1 }) id jobs)
bounded_counted jobs greatest id b = bounded_after (count_if id) (count_named id) greatest jobs b

-- ---- counts of packets

-- others than the one stand at nothing
pub others_left : (jobs : List Job) (id : JobId) → list_any (λ j. same_job id j.id) jobs ≡ false → list_all (has_packets_left id) jobs ≡ true
others_left [] id h = refl
others_left (j ∷ js) id h =
    let other : same_job id j.id ≡ false = grind (arith, common_steps) in
    let rest = others_left js id (grind (arith, common_steps)) in
    grind (arith, common_steps)

all_behind : {X : Type 0} (p : X → Bool) (xs : List X) (n : ℕ) → list_all p (take n xs) ≡ true → list_all p (drop n xs) ≡ list_all p xs
all_behind p xs zero h = refl
all_behind p [] (suc n) h = refl
all_behind p (x ∷ xs) (suc n) h =
    let rest = all_behind p xs n (grind (arith, common_steps)) in
    grind (arith, common_steps)

-- so one more packet can be counted where it can among those after
pub left_behind : (jobs : List Job) (n : ℕ) (id : JobId) → list_any (λ j. same_job id j.id) (take n jobs) ≡ false → list_all (has_packets_left id) (drop n jobs) ≡ list_all (has_packets_left id) jobs
left_behind jobs n id h = all_behind (has_packets_left id) jobs n (others_left (take n jobs) id h)
