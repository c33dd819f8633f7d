-- A job that is emitted: the timeline counts it, it stands last in its ring, and what waited before waits for the same jobs.
use Rattle.std.proofs.Common.{◌≡◌, ℕ, zero, suc, ◌+◌, ◌<◌, ◌≤◌, Bool, true, false, List, [], ◌∷◌, ◌++◌, Some, refl, sym, ◌∙◌, ap, ap₂, subst, arith, length, ◌⊎◌, inl, inr, ⊎_elim}
use Rattle.std.proofs.lemmas.List.{append-nil}
use Rattle.std.specs.Prelude.{◌==◌, ◌&&◌, ◌||◌, not, nat_lt, nat_le, slice_set, if◌then◌else◌}
use Rattle.std.specs.List.{list_any}
use Rattle.std.proofs.lemmas.Bool.{and_parts, cases_eq}
use Rattle.std.proofs.lemmas.Bool.Decides.{nat_tests}
use Rattle.ttm_base.specs.declared.JobId.{JobId}
use Rattle.fence_core.specs.declared.timeline.Progress.{Progress}
use Rattle.fence_core.specs.declared.fence_set.Latest.{Latest}
use Rattle.fence_core.specs.Timelines.{no_jobs, progress_of, with_emitted}
use Rattle.copy_engine.specs.Pushes.{Pushed, ring_of, with_pushed}
use Rattle.journal_model.specs.declared.state.Job.{Job}
use Rattle.journal_model.specs.rules.Waits.{same_job}
use Rattle.laws.specs.law_state.GoodState.{last_number}
use Rattle.laws.specs.law_jobs.JobLines.{jobs_of, unfinished_of, numbers_of, done_of}
use Rattle.laws.proofs.law_jobs.Lists.{counted}
use Rattle.room_representation.specs.Fences.{is_unfinished_in, is_emitted, WaitsFor}
use Rattle.room_representation.specs.Lines.{IsTimeline}
use Rattle.room_representation.specs.RingJobs.{IsPushed, IsRing, AreRings}
use Rattle.room_representation.specs.MoveFences.{IsMoveFence}
use Rattle.room_representation.proofs.lemma_jobs.Lists.{filter_append, length_set, at_set, at_other}
use Rattle.room_representation.proofs.lemma_jobs.Later.{IsLater, waits_later, ring_later}

same_parts : (i k : JobId) → i.ctx ≡ k.ctx → i.num ≡ k.num → i ≡ k
same_parts i k x y = ap (λ c. record { ctx = c; num = i.num }) x ∙ ap (λ n. record { ctx = k.ctx; num = n }) y

-- jobs of one name are one
pub same_is : (i k : JobId) → same_job i k ≡ true → i ≡ k
same_is i k h = same_parts i k (grind (arith, nat_tests)) (grind (arith, nat_tests))

-- one more at the end is found there or before
any_more : {X : Type 0} (p : X → Bool) (xs : List X) (x : X) → list_any p (xs ++ x ∷ []) ≡ true → (list_any p xs ≡ true) ⊎ (p x ≡ true)
any_more p [] x h = inr (last (p x) h)
  where
    last : (a : Bool) → (a || false) ≡ true → a ≡ true
    last true h = refl
    last false h = h
any_more p (y ∷ xs) x h = by (p y) refl (any_more p xs x)
  where
    by : (b : Bool) → p y ≡ b → (list_any p (xs ++ x ∷ []) ≡ true → (list_any p xs ≡ true) ⊎ (p x ≡ true)) → (list_any p (y ∷ xs) ≡ true) ⊎ (p x ≡ true)
    by true e ih = inl (ap (λ q. q || list_any p xs) e)
    by false e ih =
        let rest : list_any p (xs ++ x ∷ []) ≡ true = ap (λ q. q || list_any p (xs ++ x ∷ [])) (sym e) ∙ h in
        ⊎_elim (λ k. inl (ap (λ q. q || list_any p xs) e ∙ k)) (λ k. inr k) (ih rest)

last_here : (xs : List ℕ) (i v : ℕ) → i < length xs → last_number (slice_set xs i v) i ≡ v
last_here [] i v h = absurd (omega (arith, h))
last_here (x ∷ xs) zero v h = refl
last_here (x ∷ xs) (suc i) v h = last_here xs i v (omega (arith, h))

last_elsewhere : (xs : List ℕ) (i k v : ℕ) → (k ≡ i → ⊥) → last_number (slice_set xs i v) k ≡ last_number xs k
last_elsewhere [] i k v h = refl
last_elsewhere (x ∷ xs) zero zero v h = absurd (h refl)
last_elsewhere (x ∷ xs) zero (suc k) v h = refl
last_elsewhere (x ∷ xs) (suc i) zero v h = refl
last_elsewhere (x ∷ xs) (suc i) (suc k) v h = last_elsewhere xs i k v (λ f. h (ap suc f))

length_more : (xs : List Job) (k : Job) → length (numbers_of (xs ++ k ∷ [])) ≡ length (numbers_of xs) + 1
length_more [] k = refl
length_more (x ∷ xs) k = let r = length_more xs k in omega (arith, r)

module _ (jobs : List Job) (last : List ℕ) (k : Job) (known : k.id.ctx < length last) (num : k.id.num ≡ last_number last k.id.ctx + 1) (at_work : k.finished ≡ false) where
  -- the jobs after it
  abbrev pub jobs_more : List Job
  jobs_more = jobs ++ k ∷ []

  -- the last numbers after it
  abbrev pub last_more : List ℕ
  last_more = slice_set last k.id.ctx k.id.num

  abbrev of : ℕ → Job → Bool
  of ctx j = j.id.ctx == ctx

  abbrev left_of : ℕ → Job → Bool
  left_of ctx j = (j.id.ctx == ctx) && not j.finished

  own_of : jobs_of k.id.ctx jobs_more ≡ jobs_of k.id.ctx jobs ++ k ∷ []
  own_of = filter_append (of k.id.ctx) jobs (k ∷ []) ∙ ap (λ q. jobs_of k.id.ctx jobs ++ (if q then k ∷ [] else [])) is
    where
      is : of k.id.ctx k ≡ true
      is = grind (arith, nat_tests)

  own_more : unfinished_of k.id.ctx jobs_more ≡ unfinished_of k.id.ctx jobs ++ k ∷ []
  own_more = filter_append (left_of k.id.ctx) jobs (k ∷ []) ∙ ap (λ q. unfinished_of k.id.ctx jobs ++ (if q then k ∷ [] else [])) is
    where
      is : left_of k.id.ctx k ≡ true
      is = grind (arith, nat_tests)

  other_of : (ctx : ℕ) → (ctx ≡ k.id.ctx → ⊥) → jobs_of ctx jobs_more ≡ jobs_of ctx jobs
  other_of ctx o = filter_append (of ctx) jobs (k ∷ []) ∙ ap (λ q. jobs_of ctx jobs ++ (if q then k ∷ [] else [])) isnt ∙ append-nil (jobs_of ctx jobs)
    where
      isnt : of ctx k ≡ false
      isnt = grind (arith, nat_tests)

  other_more : (ctx : ℕ) → (ctx ≡ k.id.ctx → ⊥) → unfinished_of ctx jobs_more ≡ unfinished_of ctx jobs
  other_more ctx o = filter_append (left_of ctx) jobs (k ∷ []) ∙ ap (λ q. unfinished_of ctx jobs ++ (if q then k ∷ [] else [])) isnt ∙ append-nil (unfinished_of ctx jobs)
    where
      isnt : left_of ctx k ≡ false
      isnt = grind (arith, nat_tests)

  -- ---- names

  number_more : (ctx : ℕ) → last_number last ctx ≤ last_number last_more ctx
  number_more ctx = by (cases_eq ctx k.id.ctx)
    where
      by : (ctx ≡ k.id.ctx) ⊎ (ctx ≡ k.id.ctx → ⊥) → last_number last ctx ≤ last_number last_more ctx
      by (inl same) =
          let a : last_number last_more ctx ≡ k.id.num = ap (last_number last_more) same ∙ last_here last k.id.ctx k.id.num known in
          let b : last_number last ctx ≡ last_number last k.id.ctx = ap (last_number last) same in
          omega (arith, a, b, num)
      by (inr other) = let a = last_elsewhere last k.id.ctx ctx k.id.num other in omega (arith, a)

  -- its name is new
  pub is_new : is_emitted last k.id ≡ false
  is_new = by (last_number last k.id.ctx) num
    where
      by : (m : ℕ) → k.id.num ≡ m + 1 → (nat_lt 0 k.id.num && nat_le k.id.num m && nat_lt k.id.ctx (length last)) ≡ false
      by m h = grind (arith, nat_tests)

  -- and emitted from now on
  pub emitted_now : is_emitted last_more k.id ≡ true
  emitted_now = by (last_number last_more k.id.ctx) (length last_more) (last_here last k.id.ctx k.id.num known) (length_set last k.id.ctx k.id.num)
    where
      by : (m l : ℕ) → m ≡ k.id.num → l ≡ length last → (nat_lt 0 k.id.num && nat_le k.id.num m && nat_lt k.id.ctx l) ≡ true
      by m l e g = grind (arith, nat_tests)

  emitted_more : (i : JobId) → is_emitted last i ≡ true → is_emitted last_more i ≡ true
  emitted_more i h = by (last_number last i.ctx) (last_number last_more i.ctx) (length last) (length last_more) (number_more i.ctx) (length_set last k.id.ctx k.id.num) h
    where
      by : (m n a b : ℕ) → m ≤ n → b ≡ a → (nat_lt 0 i.num && nat_le i.num m && nat_lt i.ctx a) ≡ true → (nat_lt 0 i.num && nat_le i.num n && nat_lt i.ctx b) ≡ true
      by m n a b l e h = grind (arith, nat_tests)

  -- what the parts tell of jobs stays true
  pub later_more : IsLater jobs last jobs_more last_more
  later_more =
      record {
        contexts = length_set last k.id.ctx k.id.num;
        emitted = emitted_more;
        unfinished = λ i h g. at i h (any_more (λ j. same_job i j.id && not j.finished) jobs k g);
      }
    where
      at : (i : JobId) → is_emitted last i ≡ true → (is_unfinished_in jobs i ≡ true) ⊎ ((same_job i k.id && not k.finished) ≡ true) → is_unfinished_in jobs i ≡ true
      at i h (inl g) = g
      at i h (inr g) =
          let e : i ≡ k.id = same_is i k.id (and_parts (same_job i k.id) (not k.finished) g).0 in
          let no : false ≡ true = sym is_new ∙ ap (is_emitted last) (sym e) ∙ h in
          cc

  -- ---- the timeline

  done_more : (ctx : ℕ) → done_of ctx jobs_more ≡ done_of ctx jobs
  done_more ctx = by (cases_eq ctx k.id.ctx)
    where
      by : (ctx ≡ k.id.ctx) ⊎ (ctx ≡ k.id.ctx → ⊥) → done_of ctx jobs_more ≡ done_of ctx jobs
      by (inl same) = subst (λ c. done_of c jobs_more ≡ done_of c jobs) (sym same) here
        where
          here : done_of k.id.ctx jobs_more ≡ done_of k.id.ctx jobs
          here =
              let old = counted (of k.id.ctx) jobs in
              let new = counted (of k.id.ctx) jobs_more in
              let all = ap (λ js. length (numbers_of js)) own_of ∙ length_more (jobs_of k.id.ctx jobs) k in
              let left = ap (λ js. length (numbers_of js)) own_more ∙ length_more (unfinished_of k.id.ctx jobs) k in
              omega (arith, old, new, all, left)
      by (inr other) =
          let old = counted (of ctx) jobs in
          let new = counted (of ctx) jobs_more in
          let all = ap (λ js. length (numbers_of js)) (other_of ctx other) in
          let left = ap (λ js. length (numbers_of js)) (other_more ctx other) in
          omega (arith, old, new, all, left)

  -- the timeline counts it
  pub timeline_more : (timeline : List Progress) → IsTimeline jobs last timeline → IsTimeline jobs_more last_more (with_emitted timeline k.id.ctx)
  timeline_more timeline h =
      record {
        contexts = length_set timeline k.id.ctx (record (progress_of timeline k.id.ctx) { emitted = (progress_of timeline k.id.ctx).emitted + 1 }) ∙ h.contexts ∙ sym (length_set last k.id.ctx k.id.num);
        each = λ ctx w. at ctx (let l = length_set last k.id.ctx k.id.num in let x : ctx < length last = omega (arith, w, l) in x) (cases_eq ctx k.id.ctx);
      }
    where
      up : last_number last k.id.ctx + 1 ≡ last_number last_more k.id.ctx
      up = sym num ∙ sym (last_here last k.id.ctx k.id.num known)

      here : progress_of (with_emitted timeline k.id.ctx) k.id.ctx ≡ record { emitted = last_number last_more k.id.ctx; done = done_of k.id.ctx jobs_more }
      here =
          let within : k.id.ctx < length timeline = rw h.contexts known in
          at_set timeline k.id.ctx (record (progress_of timeline k.id.ctx) { emitted = (progress_of timeline k.id.ctx).emitted + 1 }) no_jobs within
          ∙ ap (λ (p : Progress). record p { emitted = p.emitted + 1 }) (h.each k.id.ctx known)
          ∙ ap₂ (λ n d. record { emitted = n; done = d }) up (sym (done_more k.id.ctx))

      at : (ctx : ℕ) → ctx < length last → (ctx ≡ k.id.ctx) ⊎ (ctx ≡ k.id.ctx → ⊥) → progress_of (with_emitted timeline k.id.ctx) ctx ≡ record { emitted = last_number last_more ctx; done = done_of ctx jobs_more }
      at ctx w (inl same) = subst (λ c. progress_of (with_emitted timeline k.id.ctx) c ≡ record { emitted = last_number last_more c; done = done_of c jobs_more }) (sym same) here
      at ctx w (inr other) =
          at_other timeline k.id.ctx ctx (record (progress_of timeline k.id.ctx) { emitted = (progress_of timeline k.id.ctx).emitted + 1 }) no_jobs other ∙ h.each ctx w
          ∙ ap₂ (λ n d. record { emitted = n; done = d }) (sym (last_elsewhere last k.id.ctx ctx k.id.num other)) (sym (done_more ctx))

  -- and gives its number
  pub number_is : (timeline : List Progress) → IsTimeline jobs last timeline → (progress_of timeline k.id.ctx).emitted + 1 ≡ k.id.num
  number_is timeline h = ap (λ (p : Progress). p.emitted + 1) (h.each k.id.ctx known) ∙ sym num

  -- ---- its ring

  ring_push : (js : List Job) (ps : List Pushed) (p : Pushed) → IsRing jobs_more last_more js ps → IsPushed jobs_more last_more k p → IsRing jobs_more last_more (js ++ k ∷ []) (ps ++ p ∷ [])
  ring_push [] [] p h i = (i, tt)
  ring_push [] (q ∷ ps) p h i = absurd h
  ring_push (j ∷ js) [] p h i = absurd h
  ring_push (j ∷ js) (q ∷ ps) p h i = (h.0, ring_push js ps p h.1 i)

  -- the job with the set that it waits for
  abbrev pub pushed : List Latest → Pushed
  pushed set = record { job = k.id; waits = set; packets = k.packets; ran = k.ran }

  -- it stands last in its ring, if its set waits for its list before it is emitted
  pub rings_more : (rings : List (List Pushed)) → AreRings jobs last rings → (set : List Latest) → WaitsFor jobs last k.waits set →
      AreRings jobs_more last_more (with_pushed rings (pushed set))
  rings_more rings h set w =
      record {
        contexts = length_set rings k.id.ctx (ring_of rings k.id.ctx ++ pushed set ∷ []) ∙ h.contexts ∙ sym (length_set last k.id.ctx k.id.num);
        each = λ ctx x. (let l = length_set last k.id.ctx k.id.num in let y : ctx < length last = omega (arith, x, l) in
            at ctx (ring_later jobs last jobs_more last_more later_more (unfinished_of ctx jobs) (ring_of rings ctx) (h.each ctx y)) (cases_eq ctx k.id.ctx));
      }
    where
      is : IsPushed jobs_more last_more k (pushed set)
      is = record { job = refl; packets = refl; ran = refl; waits = waits_later jobs last jobs_more last_more later_more k.waits set w }

      here : IsRing jobs_more last_more (unfinished_of k.id.ctx jobs) (ring_of rings k.id.ctx) → IsRing jobs_more last_more (unfinished_of k.id.ctx jobs_more) (ring_of (with_pushed rings (pushed set)) k.id.ctx)
      here r =
          let within : k.id.ctx < length rings = rw h.contexts known in
          subst (λ js. IsRing jobs_more last_more js (ring_of (with_pushed rings (pushed set)) k.id.ctx)) (sym own_more)
          (subst (λ ps. IsRing jobs_more last_more (unfinished_of k.id.ctx jobs ++ k ∷ []) ps) (sym (at_set rings k.id.ctx (ring_of rings k.id.ctx ++ pushed set ∷ []) [] within))
          (ring_push (unfinished_of k.id.ctx jobs) (ring_of rings k.id.ctx) (pushed set) r is))

      at : (ctx : ℕ) → IsRing jobs_more last_more (unfinished_of ctx jobs) (ring_of rings ctx) → (ctx ≡ k.id.ctx) ⊎ (ctx ≡ k.id.ctx → ⊥) → IsRing jobs_more last_more (unfinished_of ctx jobs_more) (ring_of (with_pushed rings (pushed set)) ctx)
      at ctx r (inl same) =
          subst (λ c. IsRing jobs_more last_more (unfinished_of c jobs_more) (ring_of (with_pushed rings (pushed set)) c)) (sym same)
          (here (subst (λ c. IsRing jobs_more last_more (unfinished_of c jobs) (ring_of rings c)) same r))
      at ctx r (inr other) =
          subst (λ js. IsRing jobs_more last_more js (ring_of (with_pushed rings (pushed set)) ctx)) (sym (other_more ctx other))
          (subst (λ ps. IsRing jobs_more last_more (unfinished_of ctx jobs) ps) (sym (at_other rings k.id.ctx ctx (ring_of rings k.id.ctx ++ pushed set ∷ []) [] other)) r)

  -- ---- the move fence

  -- where it becomes the move fence, it was emitted
  pub move_now : IsMoveFence last_more (Some k.id) (Some k.id)
  move_now = record { kept_is = refl; known = λ i e. (let same : k.id ≡ i = cc in ap (is_emitted last_more) (sym same) ∙ emitted_now) }
