-- A job that was changed: one more packet of the head of its context has run, or the head is done.
use Rattle.std.proofs.Common.{◌≡◌, ℕ, zero, suc, ◌+◌, ◌-◌, ◌<◌, Bool, true, false, List, [], ◌∷◌, Some, refl, sym, ◌∙◌, ap, ap₂, subst, arith, length, ◌⊎◌, inl, inr, ⊎_elim}
use Rattle.std.specs.Prelude.{◌==◌, ◌&&◌, not, filter, map, drop, slice_get, if◌then◌else◌}
use Rattle.std.proofs.lemmas.Bool.{and_parts, cases_eq, eq-eqb, ne_eqb}
use Rattle.std.proofs.lemmas.Bool.Decides.{nat_tests}
use Rattle.ttm_base.specs.declared.JobId.{JobId}
use Rattle.ttm_base.specs.ListWords.{count_from}
use Rattle.fence_core.specs.declared.timeline.Progress.{Progress}
use Rattle.fence_core.specs.Timelines.{no_jobs, progress_of, with_done}
use Rattle.copy_engine.specs.Pushes.{Pushed, ring_of, head_ran, with_ran, without_head}
use Rattle.journal_model.specs.declared.state.Job.{Job}
use Rattle.journal_model.specs.rules.ApplyJobs.{changed_job}
use Rattle.journal_model.specs.rules.Waits.{same_job}
use Rattle.laws.specs.law_state.GoodState.{last_number}
use Rattle.laws.specs.law_jobs.JobLines.{jobs_of, unfinished_of, numbers_of, done_of}
use Rattle.laws.proofs.law_jobs.Lists.{kept_passing, counted}
use Rattle.room_representation.specs.Lines.{IsTimeline, AreInLine}
use Rattle.room_representation.specs.RingJobs.{IsPushed, IsRing, AreRings}
use Rattle.room_representation.proofs.lemma_jobs.Lists.{both, any_along, all_at, filter_all, all_passing, all_drop, length_set, at_set, at_other}
use Rattle.room_representation.proofs.lemma_jobs.Later.{IsLater, ring_later}
use Rattle.room_representation.proofs.lemma_jobs.Heads.{IsHead}

-- one packet more has run
abbrev pub after_run : Job → Job
after_run j = record j { ran = j.ran + 1 }

-- the job is done
abbrev pub ended : Job → Job
ended j = record j { finished = true }

-- the job of a context and a number
abbrev pub job_id : ℕ → ℕ → JobId
job_id e n = record { ctx = e; num = n }

-- a job of the context that isn't done
abbrev pub is_left_of : ℕ → Job → Bool
is_left_of ctx j = (j.id.ctx == ctx) && not j.finished

-- a change that leaves the name, and leaves done what is done
pub record KeepsJobs (f : Job → Job) : Type 0 where
  pub names : (x : Job) → (f x).id ≡ x.id
  pub done : (x : Job) → x.finished ≡ true → (f x).finished ≡ true

-- a packet does
pub runs_keep : KeepsJobs after_run
runs_keep = record { names = λ x. refl; done = λ x h. h }

-- its end does
pub ends_keep : KeepsJobs ended
ends_keep = record { names = λ x. refl; done = λ x h. refl }

away : (b : Bool) → (b && false) ≡ false
away true = refl
away false = refl

module _ (f : Job → Job) (keeps : KeepsJobs f) (e n : ℕ) where
  abbrev change : Job → Job
  change x = if same_job (job_id e n) x.id then f x else x

  change_id : (x : Job) → (change x).id ≡ x.id
  change_id x = by (same_job (job_id e n) x.id)
    where
      by : (q : Bool) → (if q then f x else x).id ≡ x.id
      by true = keeps.names x
      by false = refl

  change_done : (x : Job) → x.finished ≡ true → (change x).finished ≡ true
  change_done x h = by (same_job (job_id e n) x.id)
    where
      by : (q : Bool) → (if q then f x else x).finished ≡ true
      by true = keeps.done x h
      by false = h

  was_left : (i : JobId) (x : Job) → (same_job i (change x).id && not (change x).finished) ≡ true → (same_job i x.id && not x.finished) ≡ true
  was_left i x h =
      let r = and_parts (same_job i (change x).id) (not (change x).finished) h in
      both (same_job i x.id) (not x.finished) (ap (same_job i) (sym (change_id x)) ∙ r.0) (by x.finished refl r.1)
    where
      by : (q : Bool) → x.finished ≡ q → not (change x).finished ≡ true → not x.finished ≡ true
      by true g k = let no : false ≡ true = sym (ap not (change_done x g)) ∙ k in cc
      by false g k = ap not g

  -- what the parts tell of jobs stays true
  pub change_later : (jobs : List Job) (last : List ℕ) → IsLater jobs last (changed_job f (job_id e n) jobs) last
  change_later jobs last =
      record {
        contexts = refl;
        emitted = λ i h. h;
        unfinished = λ i h g. any_along change (λ j. same_job i j.id && not j.finished) (λ j. same_job i j.id && not j.finished) (was_left i) jobs g;
      }

  -- ---- other contexts

  elsewhere : (ctx : ℕ) (x : Job) → (ctx ≡ e → ⊥) → same_job (job_id e n) x.id ≡ true → (x.id.ctx == ctx) ≡ false
  elsewhere ctx x o h = grind (arith, nat_tests)

  -- the unfinished jobs of other contexts stay
  pub other_kept : (ctx : ℕ) → (ctx ≡ e → ⊥) → (jobs : List Job) → unfinished_of ctx (changed_job f (job_id e n) jobs) ≡ unfinished_of ctx jobs
  other_kept ctx o [] = refl
  other_kept ctx o (x ∷ jobs) = by (other_kept ctx o jobs) (same_job (job_id e n) x.id) refl (is_left_of ctx x) refl
    where
      by : unfinished_of ctx (changed_job f (job_id e n) jobs) ≡ unfinished_of ctx jobs → (m : Bool) → same_job (job_id e n) x.id ≡ m → (a : Bool) → is_left_of ctx x ≡ a →
          unfinished_of ctx (changed_job f (job_id e n) (x ∷ jobs)) ≡ unfinished_of ctx (x ∷ jobs)
      by ih true p a q =
          let k : (x.id.ctx == ctx) ≡ false = elsewhere ctx x o p in
          let old : is_left_of ctx x ≡ false = ap (λ b. b && not x.finished) k in
          let new : is_left_of ctx (f x) ≡ false = ap (λ (i : JobId). (i.ctx == ctx) && not (f x).finished) (keeps.names x) ∙ ap (λ b. b && not (f x).finished) k in
          rw (p, old, new) ih
      by ih false p true q = rw (p, q) (ap (λ js. x ∷ js) ih)
      by ih false p false q = rw (p, q) ih

  -- ---- its own context

  -- of the jobs of one context that aren't done, those of one number are one
  one_name : (x : Job) → is_left_of e x ≡ true → same_job (job_id e n) x.id ≡ (x.id.num == n)
  one_name x h = grind (arith, nat_tests)

  was_done : (x : Job) → same_job (job_id e n) x.id ≡ true → is_left_of e x ≡ false → x.finished ≡ true
  was_done x p q = grind (arith, nat_tests)

  abbrev change_number : Job → Job
  change_number x = if x.id.num == n then f x else x

  own_changed : (jobs : List Job) → unfinished_of e (changed_job f (job_id e n) jobs) ≡ filter (is_left_of e) (map change_number (unfinished_of e jobs))
  own_changed [] = refl
  own_changed (x ∷ jobs) = by (own_changed jobs) (same_job (job_id e n) x.id) refl (is_left_of e x) refl (is_left_of e (f x)) refl
    where
      by : unfinished_of e (changed_job f (job_id e n) jobs) ≡ filter (is_left_of e) (map change_number (unfinished_of e jobs)) → (m : Bool) → same_job (job_id e n) x.id ≡ m → (a : Bool) → is_left_of e x ≡ a →
          (b : Bool) → is_left_of e (f x) ≡ b → unfinished_of e (changed_job f (job_id e n) (x ∷ jobs)) ≡ filter (is_left_of e) (map change_number (unfinished_of e (x ∷ jobs)))
      by ih true p true q true r = let it : (x.id.num == n) ≡ true = sym (one_name x q) ∙ p in rw (p, q, it, r) (ap (λ js. f x ∷ js) ih)
      by ih true p true q false r = let it : (x.id.num == n) ≡ true = sym (one_name x q) ∙ p in rw (p, q, it, r) ih
      by ih true p false q b r =
          let gone : is_left_of e (f x) ≡ false = ap (λ z. ((f x).id.ctx == e) && not z) (keeps.done x (was_done x p q)) ∙ away ((f x).id.ctx == e) in
          rw (p, q, gone) ih
      by ih false p true q b r = let it : (x.id.num == n) ≡ false = sym (one_name x q) ∙ p in rw (p, q, it, q) (ap (λ js. x ∷ js) ih)
      by ih false p false q b r = rw (p, q) ih

  -- greater numbers stay
  none_below : (k m : ℕ) → n < m → (js : List Job) → numbers_of js ≡ count_from 1 k m → map change_number js ≡ js
  none_below k m h [] g = refl
  none_below zero m h (x ∷ js) g = cc
  none_below (suc k) m h (x ∷ js) g =
      let here : x.id.num ≡ m = cc in
      let tail : numbers_of js ≡ count_from 1 k (1 + m) = cc in
      let apart : (x.id.num == n) ≡ false = ne_eqb x.id.num n (λ w. absurd (omega (arith, w, here, h))) in
      ap₂ (λ y ys. y ∷ ys) (ap (λ q. if q then f x else x) apart) (none_below k (1 + m) (omega (arith, h)) js tail)

  head_changed : (k m : ℕ) (js : List Job) (j : Job) → slice_get js 0 ≡ Some j → j.id.num ≡ n → numbers_of js ≡ count_from 1 k m → map change_number js ≡ f j ∷ drop 1 js
  head_changed k m [] j h num g = cc
  head_changed zero m (x ∷ js) j h num g = cc
  head_changed (suc k) m (x ∷ js) j h num g =
      let same : x ≡ j = cc in
      let here : x.id.num ≡ m = cc in
      let tail : numbers_of js ≡ count_from 1 k (1 + m) = cc in
      let it : x.id.num ≡ n = ap (λ (y : Job). y.id.num) same ∙ num in
      ap₂ (λ y ys. y ∷ ys) (ap (λ q. if q then f x else x) (eq-eqb x.id.num n it) ∙ ap f same) (none_below k (1 + m) (omega (arith, here, it)) js tail)

  -- the jobs that are left of the context: the head is changed, and the others stay
  pub own_after : (jobs : List Job) (last : List ℕ) → AreInLine last jobs → (j : Job) → IsHead jobs e n j →
      unfinished_of e (changed_job f (job_id e n) jobs) ≡ (if is_left_of e (f j) then f j ∷ drop 1 (unfinished_of e jobs) else drop 1 (unfinished_of e jobs))
  own_after jobs last rows j h =
      let row = rows e in
      let left = unfinished_of e jobs in
      own_changed jobs
      ∙ ap (filter (is_left_of e)) (head_changed (last_number last e - done_of e jobs) (done_of e jobs + 1) left j h.first h.num row.unfinished)
      ∙ ap (λ js. if is_left_of e (f j) then f j ∷ js else js) (filter_all (is_left_of e) (drop 1 left) (all_drop (is_left_of e) left (all_passing (is_left_of e) jobs)))

  -- ---- how many are done

  drawn_kept : (ctx : ℕ) (jobs : List Job) → numbers_of (jobs_of ctx (changed_job f (job_id e n) jobs)) ≡ numbers_of (jobs_of ctx jobs)
  drawn_kept ctx jobs = kept_passing (λ j. j.id.ctx == ctx) change (λ x. ap (λ (i : JobId). i.ctx == ctx) (change_id x)) change_id jobs

  -- as many more as fewer are left
  pub done_after : (ctx : ℕ) (jobs : List Job) (more : ℕ) → length (numbers_of (unfinished_of ctx (changed_job f (job_id e n) jobs))) + more ≡ length (numbers_of (unfinished_of ctx jobs)) →
      done_of ctx (changed_job f (job_id e n) jobs) ≡ done_of ctx jobs + more
  done_after ctx jobs more h =
      let old = counted (λ j. j.id.ctx == ctx) jobs in
      let new = counted (λ j. j.id.ctx == ctx) (changed_job f (job_id e n) jobs) in
      let same = ap length (drawn_kept ctx jobs) in
      omega (arith, h, old, new, same)

  -- in other contexts as many are done as before
  pub done_elsewhere : (ctx : ℕ) → (ctx ≡ e → ⊥) → (jobs : List Job) → done_of ctx (changed_job f (job_id e n) jobs) ≡ done_of ctx jobs
  done_elsewhere ctx o jobs =
      let same = ap (λ js. length (numbers_of js)) (other_kept ctx o jobs) in
      let r = done_after ctx jobs 0 (omega (arith, same)) in
      omega (arith, r)

module _ (jobs : List Job) (last : List ℕ) (rows : AreInLine last jobs) (e n : ℕ) (known : e < length last) (j : Job) (head : IsHead jobs e n j) where
  -- the head is left
  head_left : is_left_of e j ≡ true
  head_left = all_at (is_left_of e) (unfinished_of e jobs) 0 j (all_passing (is_left_of e) jobs) head.first

  -- ---- one packet more

  -- the jobs after it
  abbrev pub jobs_run : List Job
  jobs_run = changed_job after_run (job_id e n) jobs

  -- the head has run one packet more, and the others stay
  pub left_run : unfinished_of e jobs_run ≡ after_run j ∷ drop 1 (unfinished_of e jobs)
  left_run = own_after after_run runs_keep e n jobs last rows j head ∙ ap (λ q. if q then after_run j ∷ drop 1 (unfinished_of e jobs) else drop 1 (unfinished_of e jobs)) head_left

  with_head : (js : List Job) (x : Job) → slice_get js 0 ≡ Some j → length (numbers_of (x ∷ drop 1 js)) ≡ length (numbers_of js)
  with_head [] x h = cc
  with_head (y ∷ js) x h = refl

  done_run : (ctx : ℕ) → done_of ctx jobs_run ≡ done_of ctx jobs
  done_run ctx = ⊎_elim (λ same. subst (λ c. done_of c jobs_run ≡ done_of c jobs) (sym same) here) (λ other. done_elsewhere after_run runs_keep e n ctx other jobs) (cases_eq ctx e)
    where
      here : done_of e jobs_run ≡ done_of e jobs
      here =
          let same = ap (λ js. length (numbers_of js)) left_run ∙ with_head (unfinished_of e jobs) (after_run j) head.first in
          let r = done_after after_run runs_keep e n e jobs 0 (omega (arith, same)) in
          omega (arith, r)

  -- the timeline stays
  pub timeline_run : (timeline : List Progress) → IsTimeline jobs last timeline → IsTimeline jobs_run last timeline
  timeline_run timeline h = record { contexts = h.contexts; each = λ ctx w. h.each ctx w ∙ ap (λ d. record { emitted = last_number last ctx; done = d }) (sym (done_run ctx)) }

  ring_run : (js : List Job) (ps : List Pushed) → slice_get js 0 ≡ Some j → IsRing jobs_run last js ps → IsRing jobs_run last (after_run j ∷ drop 1 js) (head_ran ps)
  ring_run [] ps g r = cc
  ring_run (x ∷ js) [] g r = absurd r
  ring_run (x ∷ js) (p ∷ ps) g r =
      let same : x ≡ j = cc in
      let one : IsPushed jobs_run last j p = subst (λ y. IsPushed jobs_run last y p) same r.0 in
      (record { job = one.job; packets = one.packets; ran = ap (λ k. k + 1) one.ran; waits = one.waits }, r.1)

  -- one packet more of the ring's head has run
  pub rings_run : (rings : List (List Pushed)) → AreRings jobs last rings → AreRings jobs_run last (with_ran rings e)
  rings_run rings h =
      record {
        contexts = length_set rings e (head_ran (ring_of rings e)) ∙ h.contexts;
        each = λ ctx w. at ctx (ring_later jobs last jobs_run last (change_later after_run runs_keep e n jobs last) (unfinished_of ctx jobs) (ring_of rings ctx) (h.each ctx w)) (cases_eq ctx e);
      }
    where
      here : IsRing jobs_run last (unfinished_of e jobs) (ring_of rings e) → IsRing jobs_run last (unfinished_of e jobs_run) (ring_of (with_ran rings e) e)
      here r =
          let within : e < length rings = rw h.contexts known in
          subst (λ js. IsRing jobs_run last js (ring_of (with_ran rings e) e)) (sym left_run)
          (subst (λ ps. IsRing jobs_run last (after_run j ∷ drop 1 (unfinished_of e jobs)) ps) (sym (at_set rings e (head_ran (ring_of rings e)) [] within))
          (ring_run (unfinished_of e jobs) (ring_of rings e) head.first r))

      at : (ctx : ℕ) → IsRing jobs_run last (unfinished_of ctx jobs) (ring_of rings ctx) → (ctx ≡ e) ⊎ (ctx ≡ e → ⊥) → IsRing jobs_run last (unfinished_of ctx jobs_run) (ring_of (with_ran rings e) ctx)
      at ctx r (inl same) = subst (λ c. IsRing jobs_run last (unfinished_of c jobs_run) (ring_of (with_ran rings e) c)) (sym same) (here (subst (λ c. IsRing jobs_run last (unfinished_of c jobs) (ring_of rings c)) same r))
      at ctx r (inr other) =
          subst (λ js. IsRing jobs_run last js (ring_of (with_ran rings e) ctx)) (sym (other_kept after_run runs_keep e n ctx other jobs))
          (subst (λ ps. IsRing jobs_run last (unfinished_of ctx jobs) ps) (sym (at_other rings e ctx (head_ran (ring_of rings e)) [] other)) r)

  -- ---- the end

  -- the jobs after it
  abbrev pub jobs_end : List Job
  jobs_end = changed_job ended (job_id e n) jobs

  -- the head is gone, and the others stay
  pub left_end : unfinished_of e jobs_end ≡ drop 1 (unfinished_of e jobs)
  left_end = own_after ended ends_keep e n jobs last rows j head ∙ ap (λ q. if q then ended j ∷ drop 1 (unfinished_of e jobs) else drop 1 (unfinished_of e jobs)) (away (j.id.ctx == e))

  without : (js : List Job) → slice_get js 0 ≡ Some j → length (numbers_of (drop 1 js)) + 1 ≡ length (numbers_of js)
  without [] h = cc
  without (y ∷ js) h = omega arith

  -- one job more is done
  pub done_end : done_of e jobs_end ≡ done_of e jobs + 1
  done_end =
      let fewer = without (unfinished_of e jobs) head.first in
      let same = ap (λ js. length (numbers_of js)) left_end in
      done_after ended ends_keep e n e jobs 1 (omega (arith, fewer, same))

  -- the timeline counts it
  pub timeline_end : (timeline : List Progress) → IsTimeline jobs last timeline → IsTimeline jobs_end last (with_done timeline e)
  timeline_end timeline h =
      record {
        contexts = length_set timeline e (record (progress_of timeline e) { done = (progress_of timeline e).done + 1 }) ∙ h.contexts;
        each = λ ctx w. at ctx w (cases_eq ctx e);
      }
    where
      here : progress_of (with_done timeline e) e ≡ record { emitted = last_number last e; done = done_of e jobs_end }
      here =
          let within : e < length timeline = rw h.contexts known in
          at_set timeline e (record (progress_of timeline e) { done = (progress_of timeline e).done + 1 }) no_jobs within
          ∙ ap (λ (p : Progress). record p { done = p.done + 1 }) (h.each e known)
          ∙ ap (λ d. record { emitted = last_number last e; done = d }) (sym done_end)

      at : (ctx : ℕ) → ctx < length last → (ctx ≡ e) ⊎ (ctx ≡ e → ⊥) → progress_of (with_done timeline e) ctx ≡ record { emitted = last_number last ctx; done = done_of ctx jobs_end }
      at ctx w (inl same) = subst (λ c. progress_of (with_done timeline e) c ≡ record { emitted = last_number last c; done = done_of c jobs_end }) (sym same) here
      at ctx w (inr other) =
          at_other timeline e ctx (record (progress_of timeline e) { done = (progress_of timeline e).done + 1 }) no_jobs other ∙ h.each ctx w
          ∙ ap (λ d. record { emitted = last_number last ctx; done = d }) (sym (done_elsewhere ended ends_keep e n ctx other jobs))

  -- before it, one job was emitted that wasn't done
  pub line_known : (timeline : List Progress) → IsTimeline jobs last timeline → e < length timeline
  line_known timeline h = rw h.contexts known

  -- and the timeline has one that isn't done
  pub line_some : (timeline : List Progress) → IsTimeline jobs last timeline → (progress_of timeline e).done < (progress_of timeline e).emitted
  line_some timeline h =
      let fewer = without (unfinished_of e jobs) head.first in
      let row = rows e in
      let many = ap length row.unfinished ∙ length_count (last_number last e - done_of e jobs) (done_of e jobs + 1) in
      let less : done_of e jobs < last_number last e = omega (arith, fewer, many) in
      subst (λ (p : Progress). p.done < p.emitted) (sym (h.each e known)) less
    where
      length_count : (k m : ℕ) → length (count_from 1 k m) ≡ k
      length_count zero m = refl
      length_count (suc k) m = ap suc (length_count k (1 + m))

  ring_end : (js : List Job) (ps : List Pushed) → IsRing jobs_end last js ps → IsRing jobs_end last (drop 1 js) (drop 1 ps)
  ring_end [] [] r = r
  ring_end [] (p ∷ ps) r = absurd r
  ring_end (x ∷ js) [] r = absurd r
  ring_end (x ∷ js) (p ∷ ps) r = r.1

  -- it leaves the front of its ring
  pub rings_end : (rings : List (List Pushed)) → AreRings jobs last rings → AreRings jobs_end last (without_head rings e)
  rings_end rings h =
      record {
        contexts = length_set rings e (drop 1 (ring_of rings e)) ∙ h.contexts;
        each = λ ctx w. at ctx (ring_later jobs last jobs_end last (change_later ended ends_keep e n jobs last) (unfinished_of ctx jobs) (ring_of rings ctx) (h.each ctx w)) (cases_eq ctx e);
      }
    where
      here : IsRing jobs_end last (unfinished_of e jobs) (ring_of rings e) → IsRing jobs_end last (unfinished_of e jobs_end) (ring_of (without_head rings e) e)
      here r =
          let within : e < length rings = rw h.contexts known in
          subst (λ js. IsRing jobs_end last js (ring_of (without_head rings e) e)) (sym left_end)
          (subst (λ ps. IsRing jobs_end last (drop 1 (unfinished_of e jobs)) ps) (sym (at_set rings e (drop 1 (ring_of rings e)) [] within))
          (ring_end (unfinished_of e jobs) (ring_of rings e) r))

      at : (ctx : ℕ) → IsRing jobs_end last (unfinished_of ctx jobs) (ring_of rings ctx) → (ctx ≡ e) ⊎ (ctx ≡ e → ⊥) → IsRing jobs_end last (unfinished_of ctx jobs_end) (ring_of (without_head rings e) ctx)
      at ctx r (inl same) = subst (λ c. IsRing jobs_end last (unfinished_of c jobs_end) (ring_of (without_head rings e) c)) (sym same) (here (subst (λ c. IsRing jobs_end last (unfinished_of c jobs) (ring_of rings c)) same r))
      at ctx r (inr other) =
          subst (λ js. IsRing jobs_end last js (ring_of (without_head rings e) ctx)) (sym (other_kept ended ends_keep e n ctx other jobs))
          (subst (λ ps. IsRing jobs_end last (unfinished_of ctx jobs) ps) (sym (at_other rings e ctx (drop 1 (ring_of rings e)) [] other)) r)
