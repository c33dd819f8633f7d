-- Jobs wait for jobs that were emitted before them.
use Rattle.std.proofs.Common.{◌≡◌, ℕ, ◌+◌, zero, suc, Bool, true, false, List, [], ◌∷◌, ◌++◌, Some, refl, sym, ◌∙◌, ap, ap₂, subst, arith, ⊎_elim}
use Rattle.std.specs.Prelude.{not, ◌||◌, ◌&&◌, flat_map, slice_get, nat_le, cond, if◌then◌else◌}
use Rattle.std.specs.List.{list_any, list_all}
use Rattle.std.proofs.lemmas.Bool.{and_parts, and_from, or_cases, or_left, or_right, or_from, false_from_ne_true, not_from_false, not-true}
use Rattle.std.proofs.lemmas.Bool.Decides.{nat_tests}
use Rattle.std.proofs.lemmas.List.Folds.{list_any-append, list_all-append}
use Rattle.ttm_base.specs.declared.BufId.{BufId}
use Rattle.ttm_base.specs.declared.JobId.{JobId}
use Rattle.ttm_base.specs.declared.Op.{Op}
use Rattle.journal_model.specs.declared.script.Script.{Script}
use Rattle.journal_model.specs.declared.state.Core.{Core}
use Rattle.journal_model.specs.declared.state.Job.{Job}
use Rattle.journal_model.specs.rules.Waits.{same_job, is_unfinished, unfinished, jobs_before_use}
use Rattle.journal_model.specs.rules.ApplyJobs.{changed_job}
use Rattle.laws.specs.law_state.GoodState.{GoodJobs, last_number}
use Rattle.laws.specs.law_sound.Sound.{SoundJobs, is_among, waits_for_some_of, WaitsGoBack}

-- ---- tests of lists

all_alike : {X : Type 0} (p q : X → Bool) (xs : List X) → ((x : X) → p x ≡ q x) → list_all p xs ≡ list_all q xs
all_alike p q [] h = refl
all_alike p q (x ∷ xs) h = ap₂ (λ a b. a && b) (h x) (all_alike p q xs h)

all_more : {X : Type 0} (p q : X → Bool) (xs : List X) → ((x : X) → p x ≡ true → q x ≡ true) → list_all p xs ≡ true → list_all q xs ≡ true
all_more p q [] h k = refl
all_more p q (x ∷ xs) h k = let a = and_parts (p x) (list_all p xs) k in and_from (q x) (list_all q xs) (h x a.0) (all_more p q xs h a.1)

all_from : {X : Type 0} (p : X → Bool) (xs : List X) → ((i : ℕ) (x : X) → slice_get xs i ≡ Some x → p x ≡ true) → list_all p xs ≡ true
all_from p [] h = refl
all_from p (x ∷ xs) h = and_from (p x) (list_all p xs) (h zero x refl) (all_from p xs (λ i y e. h (suc i) y e))

none_from : {X : Type 0} (p : X → Bool) (xs : List X) → ((i : ℕ) (x : X) → slice_get xs i ≡ Some x → p x ≡ false) → list_any p xs ≡ false
none_from p [] h = refl
none_from p (x ∷ xs) h = or_from (p x) (list_any p xs) (h zero x refl) (none_from p xs (λ i y e. h (suc i) y e))

-- ---- names

same_name : (i j : JobId) → same_job i j ≡ true → i ≡ j
same_name i j h =
    let c : i.ctx ≡ j.ctx = grind (arith, nat_tests) in
    let n : i.num ≡ j.num = grind (arith, nat_tests) in
    ap₂ (λ a b. record { ctx = a; num = b }) c n

among_more : (js : List Job) (y : Job) (i : JobId) → is_among js i ≡ true → is_among (js ++ y ∷ []) i ≡ true
among_more js y i h = list_any-append (λ k. same_job i k.id) js (y ∷ []) ∙ or_left (is_among js i) (same_job i y.id || false) h

-- a name among some jobs isn't the new one
old_name : (js : List Job) (n i : JobId) → is_among js i ≡ true → is_among js n ≡ false → same_job i n ≡ false
old_name js n i h new = false_from_ne_true (same_job i n) (λ q. clash (sym (subst (λ k. is_among js k ≡ true) (same_name i n q) h) ∙ new))
  where
    clash : true ≡ false → ⊥
    clash h = cc

-- ---- waits are names of jobs

unfinished_among : (js : List Job) (i : JobId) → list_any (λ j. same_job i j.id && not j.finished) js ≡ true → is_among js i ≡ true
unfinished_among [] i h = h
unfinished_among (j ∷ js) i h =
    ⊎_elim
    (λ a. or_left (same_job i j.id) (is_among js i) (and_parts (same_job i j.id) (not j.finished) a).0)
    (λ a. or_right (same_job i j.id) (is_among js i) (unfinished_among js i a))
    (or_cases (same_job i j.id && not j.finished) (list_any (λ j. same_job i j.id && not j.finished) js) h)

pub all_among : (c : Core) (is : List JobId) → list_all (is_among c.jobs) (unfinished c is) ≡ true
all_among c [] = refl
all_among c (i ∷ is) = by (is_unfinished c i) refl (all_among c is)
  where
    by : (q : Bool) → is_unfinished c i ≡ q → list_all (is_among c.jobs) (unfinished c is) ≡ true → list_all (is_among c.jobs) (cond q (i ∷ unfinished c is) (unfinished c is)) ≡ true
    by true e rest = and_from (is_among c.jobs i) (list_all (is_among c.jobs) (unfinished c is)) (unfinished_among c.jobs i e) rest
    by false e rest = rest

pub uses_among : (c : Core) (ops : List Op) (bs : List BufId) → list_all (is_among c.jobs) (flat_map (jobs_before_use c ops) bs) ≡ true
uses_among c ops [] = refl
uses_among c ops (b ∷ bs) =
    list_all-append (is_among c.jobs) (jobs_before_use c ops b) (flat_map (jobs_before_use c ops) bs)
    ∙ and_from (list_all (is_among c.jobs) (jobs_before_use c ops b)) (list_all (is_among c.jobs) (flat_map (jobs_before_use c ops) bs)) (all_among c _) (uses_among c ops bs)

-- ---- one job more

none_more : (all js : List Job) (y : Job) (is : List JobId) → list_all (is_among all) is ≡ true → is_among all y.id ≡ false → list_all (λ i. not (is_among js i)) is ≡ true →
    list_all (λ i. not (is_among (js ++ y ∷ []) i)) is ≡ true
none_more all js y [] known new h = refl
none_more all js y (i ∷ is) known new h =
    let a = and_parts (is_among all i) (list_all (is_among all) is) known in
    let b = and_parts (not (is_among js i)) (list_all (λ i. not (is_among js i)) is) h in
    let old : is_among js i ≡ false = not-true (is_among js i) b.0 in
    let other : same_job i y.id ≡ false = old_name all y.id i a.0 new in
    and_from (not (is_among (js ++ y ∷ []) i)) (list_all (λ i. not (is_among (js ++ y ∷ []) i)) is)
    (not_from_false (is_among (js ++ y ∷ []) i) (list_any-append (λ k. same_job i k.id) js (y ∷ []) ∙ or_from (is_among js i) (same_job i y.id || false) old (or_from (same_job i y.id) false other refl)))
    (none_more all js y is a.1 new b.1)

back_pushed : (all js : List Job) (y : Job) → list_all (waits_for_some_of all) js ≡ true → list_all (is_among all) y.waits ≡ true → is_among all y.id ≡ false → WaitsGoBack js → WaitsGoBack (js ++ y ∷ [])
back_pushed all [] y known mine new back = (none_more all [] y y.waits mine new (nothing y.waits), tt)
  where
    nothing : (is : List JobId) → list_all (λ i. not (is_among [] i)) is ≡ true
    nothing [] = refl
    nothing (i ∷ is) = nothing is
back_pushed all (j ∷ js) y known mine new back =
    let a = and_parts (waits_for_some_of all j) (list_all (waits_for_some_of all) js) known in
    (none_more all (j ∷ js) y j.waits a.0 new back.0, back_pushed all js y a.1 mine new back.1)

pub fresh_name : (engines : ℕ) (last : List ℕ) (jobs : List Job) (n : JobId) → GoodJobs engines last jobs → n.num ≡ last_number last n.ctx + 1 → is_among jobs n ≡ false
fresh_name engines last jobs n good e = none_from (λ k. same_job n k.id) jobs (λ i x h. false_from_ne_true (same_job n x.id) (λ q. too_high i x h q))
  where
    too_high : (i : ℕ) (x : Job) → slice_get jobs i ≡ Some x → same_job n x.id ≡ true → ⊥
    too_high i x h q =
        let it : n ≡ x.id = same_name n x.id q in
        let num : n.num ≡ x.id.num = ap (λ k. k.num) it in
        let ctx : last_number last n.ctx ≡ last_number last x.id.ctx = ap (λ k. last_number last k.ctx) it in
        let below = good.numbers i x h in
        omega (arith, num, ctx, below, e)

contexts_from : (script : Script) (last : List ℕ) (jobs : List Job) → GoodJobs script.sizes.engines last jobs → list_all (λ j. nat_le j.id.ctx script.sizes.engines) jobs ≡ true
contexts_from script last jobs good = all_from (λ j. nat_le j.id.ctx script.sizes.engines) jobs (λ i x h. let below = good.contexts i x h in grind (arith, nat_tests))

pub pushed_back : (script : Script) (last : List ℕ) (jobs : List Job) (y : Job) → SoundJobs script jobs → list_all (is_among jobs) y.waits ≡ true → is_among jobs y.id ≡ false
    → GoodJobs script.sizes.engines last (jobs ++ y ∷ []) → SoundJobs script (jobs ++ y ∷ [])
pushed_back script last jobs y sound mine new good =
    record {
      contexts = contexts_from script last (jobs ++ y ∷ []) good;
      waits_known =
          list_all-append (waits_for_some_of (jobs ++ y ∷ [])) jobs (y ∷ [])
          ∙ and_from (list_all (waits_for_some_of (jobs ++ y ∷ [])) jobs) (waits_for_some_of (jobs ++ y ∷ []) y && true)
          (all_more (waits_for_some_of jobs) (waits_for_some_of (jobs ++ y ∷ [])) jobs (λ j h. more j.waits h) sound.waits_known)
          (and_from (waits_for_some_of (jobs ++ y ∷ []) y) true (more y.waits mine) refl);
      waits_back = back_pushed jobs jobs y sound.waits_known mine new sound.waits_back;
    }
  where
    more : (is : List JobId) → list_all (is_among jobs) is ≡ true → list_all (is_among (jobs ++ y ∷ [])) is ≡ true
    more is h = all_more (is_among jobs) (is_among (jobs ++ y ∷ [])) is (λ i k. among_more jobs y i k) h

-- ---- a job that was changed

module _ (f : Job → Job) (n : JobId) (names : (j : Job) → (f j).id ≡ j.id) (waits : (j : Job) → (f j).waits ≡ j.waits) where
  abbrev step : Job → Job
  step j = if same_job n j.id then f j else j

  step_name : (j : Job) → (step j).id ≡ j.id
  step_name j = by (same_job n j.id)
    where
      by : (q : Bool) → (if q then f j else j).id ≡ j.id
      by true = names j
      by false = refl

  step_waits : (j : Job) → (step j).waits ≡ j.waits
  step_waits j = by (same_job n j.id)
    where
      by : (q : Bool) → (if q then f j else j).waits ≡ j.waits
      by true = waits j
      by false = refl

  among_same : (js : List Job) (i : JobId) → is_among (changed_job f n js) i ≡ is_among js i
  among_same [] i = refl
  among_same (j ∷ js) i = ap₂ (λ a b. a || b) (ap (same_job i) (step_name j)) (among_same js i)

  known_same : (all js : List Job) → list_all (waits_for_some_of (changed_job f n all)) (changed_job f n js) ≡ list_all (waits_for_some_of all) js
  known_same all [] = refl
  known_same all (j ∷ js) =
      ap₂ (λ a b. a && b)
      (ap (list_all (is_among (changed_job f n all))) (step_waits j) ∙ all_alike (is_among (changed_job f n all)) (is_among all) j.waits (λ i. among_same all i))
      (known_same all js)

  back_same : (js : List Job) → WaitsGoBack js → WaitsGoBack (changed_job f n js)
  back_same [] h = tt
  back_same (j ∷ js) h = (
    ap (list_all (λ i. not (is_among (changed_job f n (j ∷ js)) i))) (step_waits j)
        ∙ all_alike (λ i. not (is_among (changed_job f n (j ∷ js)) i)) (λ i. not (is_among (j ∷ js) i)) j.waits (λ i. ap not (among_same (j ∷ js) i))
        ∙ h.0,
    back_same js h.1,
  )

  pub changed_back : (script : Script) (last : List ℕ) (jobs : List Job) → SoundJobs script jobs → GoodJobs script.sizes.engines last (changed_job f n jobs) → SoundJobs script (changed_job f n jobs)
  changed_back script last jobs sound good =
      record {
        contexts = contexts_from script last (changed_job f n jobs) good;
        waits_known = known_same jobs jobs ∙ sound.waits_known;
        waits_back = back_same jobs sound.waits_back;
      }
