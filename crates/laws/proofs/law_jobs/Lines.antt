-- The line of a context: what an emission, a packet and the end of a job make of it.
use Rattle.std.proofs.Common.{◌≡◌, ℕ, ◌+◌, ◌-◌, ◌<◌, zero, suc, Bool, true, false, List, [], ◌∷◌, ◌++◌, length, Some, refl, sym, ◌∙◌, ap, ap₂, subst, arith, ◌⊎◌, inl, inr, ⊎_elim}
use Rattle.std.specs.Prelude.{slice_get, filter, find, not, nat_le, ◌==◌, ◌&&◌, if◌then◌else◌}
use Rattle.std.proofs.lemmas.Bool.{cases_Bool, cases_eq, eq-eqb, ne_eqb, eqb-true, lt-leb, and_parts, true≢false}
use Rattle.std.proofs.lemmas.Bool.Decides.{nat_tests}
use Rattle.ttm_base.specs.ListWords.{count_from}
use Rattle.ttm_base.specs.declared.JobId.{JobId}
use Rattle.journal_model.specs.declared.state.Job.{Job}
use Rattle.journal_model.specs.rules.Waits.{same_job}
use Rattle.journal_model.specs.rules.ApplyJobs.{changed_job}
use Rattle.laws.specs.law_state.GoodState.{last_number, GoodJobs}
use Rattle.laws.specs.law_jobs.JobLines.{done_of, HasJob, IsLine}
use Rattle.laws.proofs.law_jobs.Lists.{count_more, count_without, length-count, passing, here_passes, here_fails, more_passing, more_failing, kept_passing, found_first, inside, rises, Passes, each, counted}

abbrev pub is_of : ℕ → Job → Bool
is_of ctx j = j.id.ctx == ctx

abbrev pub is_open : ℕ → Job → Bool
is_open ctx j = (j.id.ctx == ctx) && not j.finished

-- the numbers drawn, and those that are left to be done
pub record Line (ctx emitted : ℕ) (jobs : List Job) : Type 0 where
  pub done : ℕ
  pub left : ℕ
  pub all : done + left ≡ emitted
  pub numbers : passing (is_of ctx) jobs ≡ count_from 1 emitted 1
  pub unfinished : passing (is_open ctx) jobs ≡ count_from 1 left (done + 1)

pub no_line : (ctx : ℕ) → Line ctx 0 []
no_line ctx = record { done = 0; left = 0; all = refl; numbers = refl; unfinished = refl }

-- ---- one job more

pub line_more : (ctx emitted : ℕ) (jobs : List Job) (y : Job) → y.id.ctx ≡ ctx → y.finished ≡ false → y.id.num ≡ emitted + 1 → Line ctx emitted jobs → Line ctx (emitted + 1) (jobs ++ y ∷ [])
line_more ctx emitted jobs y e f n line =
    let is : (y.id.ctx == ctx) ≡ true = eq-eqb y.id.ctx ctx e in
    let next : y.id.num ≡ 1 + emitted = omega (arith, n) in
    let all = line.all in
    let behind : y.id.num ≡ line.done + 1 + line.left = omega (arith, n, all) in
    let one : suc emitted ≡ emitted + 1 = omega arith in
    record {
      done = line.done;
      left = suc line.left;
      all = omega (arith, all);
      numbers = more_passing (is_of ctx) jobs y is ∙ ap₂ (λ l m. l ++ m ∷ []) line.numbers next ∙ count_more emitted 1 ∙ ap (λ m. count_from 1 m 1) one;
      unfinished = more_passing (is_open ctx) jobs y (ap₂ (λ a b. a && not b) is f) ∙ ap₂ (λ l m. l ++ m ∷ []) line.unfinished behind ∙ count_more line.left (line.done + 1);
    }

pub line_other : (ctx emitted : ℕ) (jobs : List Job) (y : Job) → (y.id.ctx ≡ ctx → ⊥) → Line ctx emitted jobs → Line ctx emitted (jobs ++ y ∷ [])
line_other ctx emitted jobs y e line =
    let other : (y.id.ctx == ctx) ≡ false = ne_eqb y.id.ctx ctx e in
    record {
      done = line.done;
      left = line.left;
      all = line.all;
      numbers = more_failing (is_of ctx) jobs y other ∙ line.numbers;
      unfinished = more_failing (is_open ctx) jobs y (ap (λ a. a && not y.finished) other) ∙ line.unfinished;
    }

-- ---- a job that was changed

abbrev change_of : (Job → Job) → JobId → Job → Job
change_of f id x = if same_job id x.id then f x else x

-- a packet of it has run
pub line_ran : (ctx emitted : ℕ) (jobs : List Job) (id : JobId) → Line ctx emitted jobs → Line ctx emitted (changed_job (λ j. record j { ran = j.ran + 1 }) id jobs)
line_ran ctx emitted jobs id line =
    record {
      done = line.done;
      left = line.left;
      all = line.all;
      numbers = kept_passing (is_of ctx) (change_of (λ j. record j { ran = j.ran + 1 }) id) (λ x. of_is x (same_job id x.id)) (λ x. id_is x (same_job id x.id)) jobs ∙ line.numbers;
      unfinished = kept_passing (is_open ctx) (change_of (λ j. record j { ran = j.ran + 1 }) id) (λ x. open_is x (same_job id x.id)) (λ x. id_is x (same_job id x.id)) jobs ∙ line.unfinished;
    }
  where
    id_is : (x : Job) (q : Bool) → (if q then record x { ran = x.ran + 1 } else x).id ≡ x.id
    id_is x true = refl
    id_is x false = refl

    of_is : (x : Job) (q : Bool) → is_of ctx (if q then record x { ran = x.ran + 1 } else x) ≡ is_of ctx x
    of_is x true = refl
    of_is x false = refl

    open_is : (x : Job) (q : Bool) → is_open ctx (if q then record x { ran = x.ran + 1 } else x) ≡ is_open ctx x
    open_is x true = refl
    open_is x false = refl

abbrev ended : Job → Job
ended j = record j { finished = true }

ended_id : (x : Job) (q : Bool) → (if q then ended x else x).id ≡ x.id
ended_id x true = refl
ended_id x false = refl

ended_of : (ctx : ℕ) (x : Job) (q : Bool) → is_of ctx (if q then ended x else x) ≡ is_of ctx x
ended_of ctx x true = refl
ended_of ctx x false = refl

-- a job of another context is done
pub line_done_elsewhere : (ctx emitted : ℕ) (jobs : List Job) (id : JobId) → (id.ctx ≡ ctx → ⊥) → Line ctx emitted jobs → Line ctx emitted (changed_job (λ j. record j { finished = true }) id jobs)
line_done_elsewhere ctx emitted jobs id other line =
    record {
      done = line.done;
      left = line.left;
      all = line.all;
      numbers = kept_passing (is_of ctx) (change_of ended id) (λ x. ended_of ctx x (same_job id x.id)) (λ x. ended_id x (same_job id x.id)) jobs ∙ line.numbers;
      unfinished = kept_passing (is_open ctx) (change_of ended id) (λ x. open_is x (same_job id x.id) refl) (λ x. ended_id x (same_job id x.id)) jobs ∙ line.unfinished;
    }
  where
    open_is : (x : Job) (q : Bool) → same_job id x.id ≡ q → is_open ctx (if q then ended x else x) ≡ is_open ctx x
    open_is x true e =
        let same : id.ctx ≡ x.id.ctx = eqb-true id.ctx x.id.ctx (and_parts (id.ctx == x.id.ctx) (id.num == x.id.num) e).0 in
        let apart : (x.id.ctx == ctx) ≡ false = ne_eqb x.id.ctx ctx (λ f. other (same ∙ f)) in
        ap (λ q. q && false) apart ∙ sym (ap (λ q. q && not x.finished) apart)
    open_is x false e = refl

away : (b : Bool) → (b && false) ≡ false
away true = refl
away false = refl

module _ (ctx n : ℕ) (x : Job) (rest jobs : List Job) (same : passing (is_open ctx) rest ≡ filter (λ m. not (m == n)) (passing (is_open ctx) jobs)) where
  abbrev Dropped : Type 0
  Dropped = passing (is_open ctx) (change_of ended (record { ctx = ctx; num = n }) x ∷ rest) ≡ filter (λ m. not (m == n)) (passing (is_open ctx) (x ∷ jobs))

  -- neither it nor what it was is open
  closed : (q : Bool) → is_open ctx x ≡ false → is_open ctx (if q then ended x else x) ≡ false
  closed true h = away (x.id.ctx == ctx)
  closed false h = h

  gone : is_open ctx x ≡ false → Dropped
  gone b =
      here_fails (is_open ctx) (change_of ended (record { ctx = ctx; num = n }) x) rest (closed (same_job (record { ctx = ctx; num = n }) x.id) b)
      ∙ same ∙ sym (ap (filter (λ m. not (m == n))) (here_fails (is_open ctx) x jobs b))

  closed_now : (q : Bool) → q ≡ true → is_open ctx (if q then ended x else x) ≡ false
  closed_now true e = away (x.id.ctx == ctx)
  closed_now false e = cc

  -- the one
  ends : x.id.ctx ≡ ctx → is_open ctx x ≡ true → n ≡ x.id.num → Dropped
  ends c o it =
      let is : same_job (record { ctx = ctx; num = n }) x.id ≡ true = ap₂ (λ a b. a && b) (eq-eqb ctx x.id.ctx (sym c)) (eq-eqb n x.id.num it) in
      here_fails (is_open ctx) (change_of ended (record { ctx = ctx; num = n }) x) rest (closed_now (same_job (record { ctx = ctx; num = n }) x.id) is)
      ∙ same
      ∙ sym (ap (filter (λ m. not (m == n))) (here_passes (is_open ctx) x jobs o)
      ∙ ap (λ q. if not q then x.id.num ∷ filter (λ m. not (m == n)) (passing (is_open ctx) jobs) else filter (λ m. not (m == n)) (passing (is_open ctx) jobs)) (eq-eqb x.id.num n (sym it)))

  -- another one
  stays : is_open ctx x ≡ true → (n ≡ x.id.num → ⊥) → Dropped
  stays o other =
      let not_it : same_job (record { ctx = ctx; num = n }) x.id ≡ false = ap (λ b. (ctx == x.id.ctx) && b) (ne_eqb n x.id.num other) ∙ away (ctx == x.id.ctx) in
      let kept : change_of ended (record { ctx = ctx; num = n }) x ≡ x = ap (λ q. if q then ended x else x) not_it in
      ap (λ (z : Job). passing (is_open ctx) (z ∷ rest)) kept
      ∙ here_passes (is_open ctx) x rest o
      ∙ ap (λ l. x.id.num ∷ l) same
      ∙ sym (ap (filter (λ m. not (m == n))) (here_passes (is_open ctx) x jobs o)
      ∙ ap (λ q. if not q then x.id.num ∷ filter (λ m. not (m == n)) (passing (is_open ctx) jobs) else filter (λ m. not (m == n)) (passing (is_open ctx) jobs)) (ne_eqb x.id.num n (λ e. other (sym e))))

  one_dropped : ((x.id.ctx == ctx) ≡ true) ⊎ ((x.id.ctx == ctx) ≡ false) → (x.finished ≡ true) ⊎ (x.finished ≡ false) → (n ≡ x.id.num) ⊎ (n ≡ x.id.num → ⊥) → Dropped
  one_dropped (inr c) f m = gone (ap (λ q. q && not x.finished) c)
  one_dropped (inl c) (inl f) m = gone (ap₂ (λ q r. q && not r) c f)
  one_dropped (inl c) (inr f) (inl m) = ends (eqb-true x.id.ctx ctx c) (ap₂ (λ q r. q && not r) c f) m
  one_dropped (inl c) (inr f) (inr m) = stays (ap₂ (λ q r. q && not r) c f) m

-- the numbers that are left without one
dropped : (ctx n : ℕ) (jobs : List Job) →
    passing (is_open ctx) (changed_job (λ j. record j { finished = true }) (record { ctx = ctx; num = n }) jobs) ≡ filter (λ m. not (m == n)) (passing (is_open ctx) jobs)
dropped ctx n [] = refl
dropped ctx n (x ∷ jobs) =
    one_dropped ctx n x (changed_job (λ j. record j { finished = true }) (record { ctx = ctx; num = n }) jobs) jobs (dropped ctx n jobs) (cases_Bool (x.id.ctx == ctx)) (cases_Bool x.finished) (cases_eq n x.id.num)

-- the head of the context is done
pub line_done : (ctx emitted : ℕ) (jobs : List Job) (head : Job) → find (is_open ctx) jobs ≡ Some head → Line ctx emitted jobs →
    Line ctx emitted (changed_job (λ j. record j { finished = true }) (record { ctx = ctx; num = head.id.num }) jobs)
line_done ctx emitted jobs head h line = by line.left line.all line.unfinished
  where
    by : (left : ℕ) → line.done + left ≡ emitted → passing (is_open ctx) jobs ≡ count_from 1 left (line.done + 1) → Line ctx emitted (changed_job (λ j. record j { finished = true }) (record { ctx = ctx; num = head.id.num }) jobs)
    by zero all e = let f = found_first (is_open ctx) jobs head h in let z : head.id.num ∷ f.0 ≡ [] = sym f.1 ∙ e in cc
    by (suc left) all e =
        let f = found_first (is_open ctx) jobs head h in
        let z : head.id.num ∷ f.0 ≡ (line.done + 1) ∷ count_from 1 left (1 + (line.done + 1)) = sym f.1 ∙ e in
        let it : head.id.num ≡ line.done + 1 = cc in
        let on : 1 + (line.done + 1) ≡ line.done + 1 + 1 = omega arith in
        record {
          done = line.done + 1;
          left = left;
          all = omega (arith, all);
          numbers = kept_passing (is_of ctx) (change_of ended (record { ctx = ctx; num = head.id.num })) (λ x. ended_of ctx x (same_job (record { ctx = ctx; num = head.id.num }) x.id)) (λ x. ended_id x (same_job (record { ctx = ctx; num = head.id.num }) x.id)) jobs ∙ line.numbers;
          unfinished =
              dropped ctx head.id.num jobs
              ∙ ap₂ (λ (n : ℕ) (l : List ℕ). filter (λ m. not (m == n)) l) it e
              ∙ ap (λ q. if not q then (line.done + 1) ∷ filter (λ m. not (m == line.done + 1)) (count_from 1 left (1 + (line.done + 1))) else filter (λ m. not (m == line.done + 1)) (count_from 1 left (1 + (line.done + 1)))) (eq-eqb (line.done + 1) (line.done + 1) refl)
              ∙ count_without (line.done + 1) left (1 + (line.done + 1)) (omega arith)
              ∙ ap (count_from 1 left) on;
        }

-- ---- in plain words

module _ (engines ctx : ℕ) (last : List ℕ) (jobs : List Job) (good : GoodJobs engines last jobs) (line : Line ctx (last_number last ctx) jobs) where
  done_is : done_of ctx jobs ≡ line.done
  done_is =
      let all = counted (is_of ctx) jobs in
      let drawn : length (passing (is_of ctx) jobs) ≡ last_number last ctx = ap length line.numbers ∙ length-count (last_number last ctx) 1 in
      let waiting : length (passing (is_open ctx) jobs) ≡ line.left = ap length line.unfinished ∙ length-count line.left (line.done + 1) in
      let sum = line.all in
      omega (arith, all, drawn, waiting, sum)

  finished_is : (i : ℕ) (j : Job) → slice_get jobs i ≡ Some j → j.id.ctx ≡ ctx → (q : Bool) → j.finished ≡ q → q ≡ nat_le j.id.num line.done
  finished_is i j e c false f =
      let range = inside (is_open ctx) jobs line.left (line.done + 1) line.unfinished i j e (ap₂ (λ a b. a && not b) (eq-eqb j.id.ctx ctx c) f) in
      let low = range.0 in
      sym (lt-leb j.id.num line.done (omega (arith, low)))
  finished_is i j e c true f = ⊎_elim (λ h. sym h) (λ h. absurd (later h)) (cases_Bool (nat_le j.id.num line.done))
    where
      later : nat_le j.id.num line.done ≡ false → ⊥
      later h =
          let range = inside (is_of ctx) jobs (last_number last ctx) 1 line.numbers i j e (eq-eqb j.id.ctx ctx c) in
          let high = range.1 in
          let above : line.done < j.id.num = above_is j.id.num line.done h in
          let sum = line.all in
          let other = each (is_open ctx) jobs line.left (line.done + 1) line.unfinished j.id.num (omega (arith, above)) (omega (arith, high, sum)) in
          let parts = and_parts (other.job.id.ctx == ctx) (not other.job.finished) other.passes in
          let name : same_job j.id other.job.id ≡ true = ap₂ (λ a b. a && b) (eq-eqb j.id.ctx other.job.id.ctx (c ∙ sym (eqb-true other.job.id.ctx ctx parts.0))) (eq-eqb j.id.num other.job.id.num (sym other.number)) in
          let at : i ≡ other.at = good.names i other.at j other.job e other.here name in
          let it : Some j ≡ Some other.job = sym e ∙ ap (slice_get jobs) at ∙ other.here in
          let same : j ≡ other.job = cc in
          true≢false (sym f ∙ ap (λ (z : Job). z.finished) same ∙ unfinished_is other.job.finished parts.1)
        where
          unfinished_is : (q : Bool) → not q ≡ true → q ≡ false
          unfinished_is true r = cc
          unfinished_is false r = refl

          above_is : (a b : ℕ) → nat_le a b ≡ false → b < a
          above_is a b r = grind (arith, nat_tests)

  pub is_line : IsLine ctx (last_number last ctx) (done_of ctx jobs) jobs
  is_line = subst (λ d. IsLine ctx (last_number last ctx) d jobs) (sym done_is) told
    where
      told : IsLine ctx (last_number last ctx) line.done jobs
      told =
          let sum = line.all in
          let left : line.left ≡ last_number last ctx - line.done = omega (arith, sum) in
          record {
            within = omega (arith, sum);
            numbers = line.numbers;
            unfinished = line.unfinished ∙ ap (λ n. count_from 1 n (line.done + 1)) left;
            each = λ num low high. has num (each (is_of ctx) jobs (last_number last ctx) 1 line.numbers num low (omega (arith, high)));
            drawn = λ i j e c. (let r = inside (is_of ctx) jobs (last_number last ctx) 1 line.numbers i j e (eq-eqb j.id.ctx ctx c) in let high = r.1 in (r.0, omega (arith, high)));
            finished = λ i j e c. finished_is i j e c j.finished refl;
            rises = λ i k x y l e f c d. rises (is_of ctx) jobs (last_number last ctx) 1 line.numbers i k x y l e f (eq-eqb x.id.ctx ctx c) (eq-eqb y.id.ctx ctx d);
          }
        where
          has : (num : ℕ) → Passes (is_of ctx) num jobs → HasJob ctx num jobs
          has num h = record { at = h.at; job = h.job; here = h.here; context = eqb-true h.job.id.ctx ctx h.passes; number = h.number }
