-- The numbers of jobs that pass a test, where jobs are pushed, changed or looked up.
use Rattle.std.proofs.Common.{◌≡◌, ℕ, ◌+◌, ◌<◌, ◌≤◌, zero, suc, Bool, true, false, cond, List, [], ◌∷◌, ◌++◌, length, Some, refl, sym, ◌∙◌, ap, ap₂, arith, ⊎_elim}
use Rattle.std.specs.Prelude.{slice_get, filter, find, map, not, ◌==◌, ◌&&◌, count_by, if◌then◌else◌}
use Rattle.std.proofs.lemmas.Bool.{cases_Bool, cases_eq, ne_eqb}
use Rattle.std.proofs.lemmas.List.Sums.{sum_by-cons}
use Rattle.ttm_base.specs.ListWords.{count_from}
use Rattle.journal_model.specs.declared.state.Job.{Job}
use Rattle.laws.specs.law_jobs.JobLines.{numbers_of}

-- ---- numbers from a start on

-- one more at the end
pub count_more : (n start : ℕ) → count_from 1 n start ++ (start + n) ∷ [] ≡ count_from 1 (suc n) start
count_more zero start = let e : start + 0 ≡ start = omega arith in ap (λ m. m ∷ []) e
count_more (suc n) start =
    let e : start + suc n ≡ 1 + start + n = omega arith in
    ap (λ l. start ∷ l) (ap (λ m. count_from 1 n (1 + start) ++ m ∷ []) e ∙ count_more n (1 + start))

-- without a number that stands before all
pub count_without : (m n start : ℕ) → m < start → filter (λ k. not (k == m)) (count_from 1 n start) ≡ count_from 1 n start
count_without m zero start l = refl
count_without m (suc n) start l =
    ap (λ q. if not q then start ∷ filter (λ k. not (k == m)) (count_from 1 n (1 + start)) else filter (λ k. not (k == m)) (count_from 1 n (1 + start))) (ne_eqb start m (λ e. absurd (omega (arith, e, l))))
    ∙ ap (λ ks. start ∷ ks) (count_without m n (1 + start) (omega arith))

pub length-count : (n start : ℕ) → length (count_from 1 n start) ≡ n
length-count zero start = refl
length-count (suc n) start = ap suc (length-count n (1 + start))

-- ---- the jobs that pass

module _ (p : Job → Bool) where
  abbrev pub passing : List Job → List ℕ
  passing jobs = numbers_of (filter p jobs)

  pub here_passes : (x : Job) (xs : List Job) → p x ≡ true → passing (x ∷ xs) ≡ x.id.num ∷ passing xs
  here_passes x xs e = ap (λ q. numbers_of (if q then x ∷ filter p xs else filter p xs)) e

  pub here_fails : (x : Job) (xs : List Job) → p x ≡ false → passing (x ∷ xs) ≡ passing xs
  here_fails x xs e = ap (λ q. numbers_of (if q then x ∷ filter p xs else filter p xs)) e

  -- one more that passes
  pub more_passing : (xs : List Job) (y : Job) → p y ≡ true → passing (xs ++ y ∷ []) ≡ passing xs ++ y.id.num ∷ []
  more_passing [] y e = here_passes y [] e
  more_passing (x ∷ xs) y e =
      ⊎_elim
      (λ h. here_passes x (xs ++ y ∷ []) h ∙ ap (λ l. x.id.num ∷ l) (more_passing xs y e) ∙ ap (λ l. l ++ y.id.num ∷ []) (sym (here_passes x xs h)))
      (λ h. here_fails x (xs ++ y ∷ []) h ∙ more_passing xs y e ∙ ap (λ l. l ++ y.id.num ∷ []) (sym (here_fails x xs h)))
      (cases_Bool (p x))

  -- one more that doesn't
  pub more_failing : (xs : List Job) (y : Job) → p y ≡ false → passing (xs ++ y ∷ []) ≡ passing xs
  more_failing [] y e = here_fails y [] e
  more_failing (x ∷ xs) y e =
      ⊎_elim
      (λ h. here_passes x (xs ++ y ∷ []) h ∙ ap (λ l. x.id.num ∷ l) (more_failing xs y e) ∙ sym (here_passes x xs h))
      (λ h. here_fails x (xs ++ y ∷ []) h ∙ more_failing xs y e ∙ sym (here_fails x xs h))
      (cases_Bool (p x))

  -- jobs that were changed, but not in what the test sees
  pub kept_passing : (g : Job → Job) → ((x : Job) → p (g x) ≡ p x) → ((x : Job) → (g x).id ≡ x.id) → (xs : List Job) → passing (map g xs) ≡ passing xs
  kept_passing g same id [] = refl
  kept_passing g same id (x ∷ xs) =
      ⊎_elim
      (λ h. here_passes (g x) (map g xs) (same x ∙ h) ∙ ap₂ (λ n l. n ∷ l) (ap (λ i. i.num) (id x)) (kept_passing g same id xs) ∙ sym (here_passes x xs h))
      (λ h. here_fails (g x) (map g xs) (same x ∙ h) ∙ kept_passing g same id xs ∙ sym (here_fails x xs h))
      (cases_Bool (p x))

  -- the first that passes
  pub found_first : (xs : List Job) (x : Job) → find p xs ≡ Some x → (rest : List ℕ) × (passing xs ≡ x.id.num ∷ rest)
  found_first [] x h = cc
  found_first (y ∷ xs) x h =
      ⊎_elim
      (λ e. let f : Some y ≡ Some x = sym (ap (λ q. if q then Some y else find p xs) e) ∙ h in let same : y ≡ x = cc in (passing xs, here_passes y xs e ∙ ap (λ (z : Job). z.id.num ∷ passing xs) same))
      (λ e. let f : find p xs ≡ Some x = sym (ap (λ q. if q then Some y else find p xs) e) ∙ h in let r = found_first xs x f in (r.0, here_fails y xs e ∙ r.1))
      (cases_Bool (p y))

  -- ---- where their numbers are those from a start on

  -- a tail's numbers, after one that passes
  tail_numbers : (x : Job) (xs : List Job) (n start : ℕ) → p x ≡ true → passing (x ∷ xs) ≡ count_from 1 n start → (m : ℕ) × (n ≡ suc m) × (x.id.num ≡ start) × (passing xs ≡ count_from 1 m (1 + start))
  tail_numbers x xs zero start e h = let z : x.id.num ∷ passing xs ≡ [] = sym (here_passes x xs e) ∙ h in cc
  tail_numbers x xs (suc m) start e h = let z : x.id.num ∷ passing xs ≡ start ∷ count_from 1 m (1 + start) = sym (here_passes x xs e) ∙ h in (m, refl, cc, cc)

  pub inside : (xs : List Job) (n start : ℕ) → passing xs ≡ count_from 1 n start → (i : ℕ) (x : Job) → slice_get xs i ≡ Some x → p x ≡ true → (start ≤ x.id.num) × (x.id.num < start + n)
  inside [] n start h i x e q = cc
  inside (y ∷ xs) n start h zero x e q =
      let same : y ≡ x = cc in
      let t = tail_numbers y xs n start (ap p same ∙ q) h in
      let at : x.id.num ≡ start = ap (λ (z : Job). z.id.num) (sym same) ∙ t.2 in
      let more : n ≡ suc t.0 = t.1 in
      (omega (arith, at), omega (arith, at, more))
  inside (y ∷ xs) n start h (suc i) x e q =
      ⊎_elim
      (λ r.
      let t = tail_numbers y xs n start r h in
      let k = inside xs t.0 (1 + start) t.3 i x e q in
      let more : n ≡ suc t.0 = t.1 in
      let low = k.0 in
      let high = k.1 in
      (omega (arith, low), omega (arith, high, more)))
      (λ r. inside xs n start (sym (here_fails y xs r) ∙ h) i x e q)
      (cases_Bool (p y))

  pub rises : (xs : List Job) (n start : ℕ) → passing xs ≡ count_from 1 n start → (i k : ℕ) (x y : Job) → i < k → slice_get xs i ≡ Some x → slice_get xs k ≡ Some y → p x ≡ true → p y ≡ true → x.id.num < y.id.num
  rises [] n start h i k x y l e f q r = cc
  rises (z ∷ xs) n start h i zero x y l e f q r = absurd (omega (arith, l))
  rises (z ∷ xs) n start h zero (suc k) x y l e f q r =
      let same : z ≡ x = cc in
      let t = tail_numbers z xs n start (ap p same ∙ q) h in
      let at : x.id.num ≡ start = ap (λ (w : Job). w.id.num) (sym same) ∙ t.2 in
      let low = (inside xs t.0 (1 + start) t.3 k y f r).0 in
      omega (arith, at, low)
  rises (z ∷ xs) n start h (suc i) (suc k) x y l e f q r =
      ⊎_elim
      (λ s. let t = tail_numbers z xs n start s h in rises xs t.0 (1 + start) t.3 i k x y (omega (arith, l)) e f q r)
      (λ s. rises xs n start (sym (here_fails z xs s) ∙ h) i k x y (omega (arith, l)) e f q r)
      (cases_Bool (p z))

  -- one with the number
  pub record Passes (m : ℕ) (xs : List Job) : Type 0 where
    pub at : ℕ
    pub job : Job
    pub here : slice_get xs at ≡ Some job
    pub passes : p job ≡ true
    pub number : job.id.num ≡ m

  later : (m : ℕ) (y : Job) (xs : List Job) → Passes m xs → Passes m (y ∷ xs)
  later m y xs h = record { at = suc h.at; job = h.job; here = h.here; passes = h.passes; number = h.number }

  pub each : (xs : List Job) (n start : ℕ) → passing xs ≡ count_from 1 n start → (m : ℕ) → start ≤ m → m < start + n → Passes m xs
  each [] zero start h m low high = absurd (omega (arith, low, high))
  each [] (suc n) start h m low high = cc
  each (y ∷ xs) n start h m low high =
      ⊎_elim
      (λ r.
      let t = tail_numbers y xs n start r h in
      let more : n ≡ suc t.0 = t.1 in
      ⊎_elim
      (λ s. record { at = zero; job = y; here = refl; passes = r; number = t.2 ∙ sym s })
      (λ s. let other : m ≡ start → ⊥ = s in later m y xs (each xs t.0 (1 + start) t.3 m (grind arith) (omega (arith, high, more))))
      (cases_eq m start))
      (λ r. later m y xs (each xs n start (sym (here_fails y xs r) ∙ h) m low high))
      (cases_Bool (p y))

-- ---- how many

length-numbers : (xs : List Job) → length (numbers_of xs) ≡ length xs
length-numbers [] = refl
length-numbers (x ∷ xs) = ap suc (length-numbers xs)

abbrev Counted : (Job → Bool) → List Job → Type 0
Counted p xs = length (passing p xs) ≡ length (passing (λ j. p j && not j.finished) xs) + count_by (λ j. p j && j.finished) xs

module _ (p : Job → Bool) (x : Job) (xs : List Job) (rest : Counted p xs) where
  sum : count_by (λ j. p j && j.finished) (x ∷ xs) ≡ cond (p x && x.finished) 1 0 + count_by (λ j. p j && j.finished) xs
  sum = sum_by-cons (λ j. cond (p j && j.finished) 1 0) x xs

  both : p x ≡ true → x.finished ≡ true → Counted p (x ∷ xs)
  both e f =
      let more = sum in
      let one : ◌≡◌ {A = ℕ} (cond (p x && x.finished) 1 0) 1 = ap₂ (λ a b. cond (a && b) 1 0) e f in
      let mine : length (passing p (x ∷ xs)) ≡ suc (length (passing p xs)) = ap length (here_passes p x xs e) in
      let not_mine : length (passing (λ j. p j && not j.finished) (x ∷ xs)) ≡ length (passing (λ j. p j && not j.finished) xs) = ap length (here_fails (λ j. p j && not j.finished) x xs (ap₂ (λ a b. a && not b) e f)) in
      omega (arith, rest, more, one, mine, not_mine)

  unfinished : p x ≡ true → x.finished ≡ false → Counted p (x ∷ xs)
  unfinished e f =
      let more = sum in
      let none : ◌≡◌ {A = ℕ} (cond (p x && x.finished) 1 0) 0 = ap₂ (λ a b. cond (a && b) 1 0) e f in
      let mine : length (passing p (x ∷ xs)) ≡ suc (length (passing p xs)) = ap length (here_passes p x xs e) in
      let also_mine : length (passing (λ j. p j && not j.finished) (x ∷ xs)) ≡ suc (length (passing (λ j. p j && not j.finished) xs)) = ap length (here_passes (λ j. p j && not j.finished) x xs (ap₂ (λ a b. a && not b) e f)) in
      omega (arith, rest, more, none, mine, also_mine)

  neither : p x ≡ false → Counted p (x ∷ xs)
  neither e =
      let more = sum in
      let none : ◌≡◌ {A = ℕ} (cond (p x && x.finished) 1 0) 0 = ap (λ a. cond (a && x.finished) 1 0) e in
      let mine : length (passing p (x ∷ xs)) ≡ length (passing p xs) = ap length (here_fails p x xs e) in
      let also_mine : length (passing (λ j. p j && not j.finished) (x ∷ xs)) ≡ length (passing (λ j. p j && not j.finished) xs) = ap length (here_fails (λ j. p j && not j.finished) x xs (ap (λ a. a && not x.finished) e)) in
      omega (arith, rest, more, none, mine, also_mine)

-- of those that pass some are finished, and the others aren't
pub counted : (p : Job → Bool) (xs : List Job) → length (passing p xs) ≡ length (passing (λ j. p j && not j.finished) xs) + count_by (λ j. p j && j.finished) xs
counted p [] = refl
counted p (x ∷ xs) =
    ⊎_elim
    (λ e. ⊎_elim (λ f. both p x xs (counted p xs) e f) (λ f. unfinished p x xs (counted p xs) e f) (cases_Bool x.finished))
    (λ e. neither p x xs (counted p xs) e)
    (cases_Bool (p x))
