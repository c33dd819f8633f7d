-- Jobs have distinct names, whose numbers and contexts are bounded, and each has some packets, of which no more have run.
use Rattle.std.proofs.Common.{◌≡◌, ℕ, ◌+◌, ◌<◌, ◌≤◌, zero, suc, Bool, true, false, List, [], ◌∷◌, ◌++◌, length, Some, refl, sym, subst, ◌∙◌, ap, arith, ◌⊎◌, inl, inr, ⊎_elim}
use Rattle.std.specs.Prelude.{slice_get, slice_set, find, unwrap_or, if◌then◌else◌}
use Rattle.std.proofs.Math.ListN.{length-set}
use Rattle.std.proofs.lemmas.Bool.Decides.{nat_tests}
use Rattle.std.proofs.lemmas.Bool.{cases_Bool, cases_eq}
use Rattle.ttm_base.specs.declared.JobId.{JobId}
use Rattle.journal_model.specs.declared.state.Job.{Job}
use Rattle.journal_model.specs.rules.Waits.{same_job}
use Rattle.journal_model.specs.rules.ApplyJobs.{changed_job}
use Rattle.laws.specs.law_state.GoodState.{last_number, GoodJobs}
use Rattle.laws.proofs.law_state.Lists.{set_at, get_pushed, get_mapped}

same_parts : (a b : JobId) → same_job a b ≡ true → (a.ctx ≡ b.ctx) × (a.num ≡ b.num)
same_parts a b h = (grind (arith, nat_tests), grind (arith, nat_tests))

pub same_self : (a : JobId) → same_job a a ≡ true
same_self a = grind (arith, nat_tests)

same_turned : (a b : JobId) → same_job a b ≡ true → same_job b a ≡ true
same_turned a b h = let p = same_parts a b h in let c : a.ctx ≡ b.ctx = p.0 in let n : a.num ≡ b.num = p.1 in grind (arith, nat_tests)

-- ---- no job

pub no_jobs : (engines : ℕ) (last : List ℕ) → length last ≡ engines + 1 → GoodJobs engines last []
no_jobs engines last h =
    record {
      rooms = h;
      contexts = λ i x e. absurd (nothing i x e);
      numbers = λ i x e. absurd (nothing i x e);
      names = λ i j x y e f q. absurd (nothing i x e);
      ran = λ i x e. absurd (nothing i x e);
      some = λ i x e. absurd (nothing i x e);
      few = λ i x e. absurd (nothing i x e);
    }
  where
    nothing : (i : ℕ) (x : Job) → slice_get [] i ≡ Some x → ⊥
    nothing i x e = cc

-- ---- one job more, with the next number of its context

last_set : (last : List ℕ) (ctx num c : ℕ) → ctx < length last → (c ≡ ctx → ⊥) ⊎ (last_number (slice_set last ctx num) c ≡ num)
last_set [] ctx num c h = absurd (omega arith)
last_set (n ∷ last) zero num zero h = inr refl
last_set (n ∷ last) zero num (suc c) h = inl (λ e. cc)
last_set (n ∷ last) (suc ctx) num zero h = inl (λ e. cc)
last_set (n ∷ last) (suc ctx) num (suc c) h = ⊎_elim (λ a. inl (λ e. a (omega arith))) (λ a. inr a) (last_set last ctx num c (omega arith))

last_kept : (last : List ℕ) (ctx num c : ℕ) → (c ≡ ctx → ⊥) → last_number (slice_set last ctx num) c ≡ last_number last c
last_kept last ctx num c d = ⊎_elim (λ h. ap (λ o. unwrap_or o 0) h) (λ h. absurd (d (sym h.0))) (set_at last ctx c num)

-- a greater last number in one context
last_grows : (last : List ℕ) (ctx num c : ℕ) → ctx < length last → last_number last ctx ≤ num → last_number last c ≤ last_number (slice_set last ctx num) c
last_grows last ctx num c inside more =
    ⊎_elim
    (λ e. let same : c ≡ ctx = e in
    ⊎_elim (λ d. absurd (d same)) (λ q. let is : last_number (slice_set last ctx num) c ≡ num = q in let at : last_number last c ≡ last_number last ctx = ap (last_number last) same in omega (arith, is, at, more)) (last_set last ctx num c inside))
    (λ d. let kept = last_kept last ctx num c d in omega (arith, kept))
    (cases_eq c ctx)

pub one_job_more : (engines : ℕ) (last : List ℕ) (jobs : List Job) (y : Job) → GoodJobs engines last jobs → y.id.ctx ≤ engines → y.id.num ≡ last_number last y.id.ctx + 1
    → y.ran ≡ 0 → 0 < length y.packets → length y.packets ≤ 67108864 → GoodJobs engines (slice_set last y.id.ctx y.id.num) (jobs ++ y ∷ [])
one_job_more engines last jobs y good context next ran some few =
    record {
      rooms = length-set last y.id.ctx y.id.num ∙ good.rooms;
      contexts = λ i x e. ⊎_elim (λ h. good.contexts i x h) (λ h. subst (λ z. z.id.ctx ≤ engines) (sym h.1) context) (get_pushed jobs y x i e);
      numbers = λ i x e. ⊎_elim
          (λ h. let below = good.numbers i x h in let grows = last_grows last y.id.ctx y.id.num x.id.ctx inside more in omega (arith, below, grows))
          (λ h. subst (λ z. z.id.num ≤ last_number (slice_set last y.id.ctx y.id.num) z.id.ctx) (sym h.1) mine)
          (get_pushed jobs y x i e);
      names = λ i j x z e f q. ⊎_elim
          (λ h. ⊎_elim
          (λ k. good.names i j x z h k q)
          (λ k. absurd (is_new i x h (subst (λ w. same_job x.id w.id ≡ true) k.1 q)))
          (get_pushed jobs y z j f))
          (λ h. ⊎_elim
          (λ k. absurd (is_new j z k (subst (λ w. same_job z.id w.id ≡ true) h.1 (same_turned x.id z.id q))))
          (λ k. h.0 ∙ sym k.0)
          (get_pushed jobs y z j f))
          (get_pushed jobs y x i e);
      ran = λ i x e. ⊎_elim (λ h. good.ran i x h) (λ h. subst (λ z. z.ran ≤ length z.packets) (sym h.1) (omega (arith, ran))) (get_pushed jobs y x i e);
      some = λ i x e. ⊎_elim (λ h. good.some i x h) (λ h. subst (λ z. 0 < length z.packets) (sym h.1) some) (get_pushed jobs y x i e);
      few = λ i x e. ⊎_elim (λ h. good.few i x h) (λ h. subst (λ z. length z.packets ≤ 67108864) (sym h.1) few) (get_pushed jobs y x i e);
    }
  where
    inside : y.id.ctx < length last
    inside = let r = good.rooms in omega (arith, r, context)

    more : last_number last y.id.ctx ≤ y.id.num
    more = omega (arith, next)

    mine : y.id.num ≤ last_number (slice_set last y.id.ctx y.id.num) y.id.ctx
    mine = ⊎_elim (λ d. absurd (d refl)) (λ q. omega (arith, q)) (last_set last y.id.ctx y.id.num y.id.ctx inside)

    -- no job has its name
    is_new : (i : ℕ) (x : Job) → slice_get jobs i ≡ Some x → same_job x.id y.id ≡ true → ⊥
    is_new i x h q =
        let p = same_parts x.id y.id q in
        let below = good.numbers i x h in
        let at : last_number last x.id.ctx ≡ last_number last y.id.ctx = ap (last_number last) p.0 in
        let same : x.id.num ≡ y.id.num = p.1 in
        omega (arith, below, at, same, next)

-- ---- a job that was changed

-- a change that keeps names and packets, and after which no more packets have run than there are
pub record IsChange (f : Job → Job) : Type 0 where
  pub id : (x : Job) → (f x).id ≡ x.id
  pub packets : (x : Job) → (f x).packets ≡ x.packets

abbrev step_of : (Job → Job) → JobId → Job → Job
step_of f id x = if same_job id x.id then f x else x

step_id : (f : Job → Job) (id : JobId) → IsChange f → (x : Job) → (step_of f id x).id ≡ x.id
step_id f id change x = by (same_job id x.id)
  where
    by : (b : Bool) → (if b then f x else x).id ≡ x.id
    by true = change.id x
    by false = refl

step_packets : (f : Job → Job) (id : JobId) → IsChange f → (x : Job) → (step_of f id x).packets ≡ x.packets
step_packets f id change x = by (same_job id x.id)
  where
    by : (b : Bool) → (if b then f x else x).packets ≡ x.packets
    by true = change.packets x
    by false = refl

pub jobs_changed : (engines : ℕ) (last : List ℕ) (jobs : List Job) (f : Job → Job) (id : JobId) → GoodJobs engines last jobs → IsChange f
    → ((i : ℕ) (x : Job) → slice_get jobs i ≡ Some x → same_job id x.id ≡ true → (f x).ran ≤ length x.packets) → GoodJobs engines last (changed_job f id jobs)
jobs_changed engines last jobs f id good change fits =
    record {
      rooms = good.rooms;
      contexts = λ i x e. let g = get_mapped (step_of f id) jobs x i e in subst (λ z. z.id.ctx ≤ engines) (sym g.2) (subst (λ w. w.ctx ≤ engines) (sym (step_id f id change g.0)) (good.contexts i g.0 g.1));
      numbers = λ i x e. let g = get_mapped (step_of f id) jobs x i e in
          subst (λ z. z.id.num ≤ last_number last z.id.ctx) (sym g.2) (subst (λ w. w.num ≤ last_number last w.ctx) (sym (step_id f id change g.0)) (good.numbers i g.0 g.1));
      names = λ i j x y e h q.
          let a = get_mapped (step_of f id) jobs x i e in
          let b = get_mapped (step_of f id) jobs y j h in
          good.names i j a.0 b.0 a.1 b.1
          (subst (λ w. same_job w b.0.id ≡ true) (step_id f id change a.0) (subst (λ w. same_job (step_of f id a.0).id w ≡ true) (step_id f id change b.0)
          (subst (λ z. same_job z.id (step_of f id b.0).id ≡ true) a.2 (subst (λ z. same_job x.id z.id ≡ true) b.2 q))));
      ran = λ i x e. let g = get_mapped (step_of f id) jobs x i e in
          subst (λ z. z.ran ≤ length z.packets) (sym g.2) (by_name i g.0 g.1 (same_job id g.0.id) refl);
      some = λ i x e. let g = get_mapped (step_of f id) jobs x i e in
          subst (λ z. 0 < length z.packets) (sym g.2) (subst (λ ps. 0 < length ps) (sym (step_packets f id change g.0)) (good.some i g.0 g.1));
      few = λ i x e. let g = get_mapped (step_of f id) jobs x i e in
          subst (λ z. length z.packets ≤ 67108864) (sym g.2) (subst (λ ps. length ps ≤ 67108864) (sym (step_packets f id change g.0)) (good.few i g.0 g.1));
    }
  where
    by_name : (i : ℕ) (x : Job) → slice_get jobs i ≡ Some x → (b : Bool) → same_job id x.id ≡ b → (if b then f x else x).ran ≤ length (if b then f x else x).packets
    by_name i x e true q = subst (λ ps. (f x).ran ≤ length ps) (sym (change.packets x)) (fits i x e q)
    by_name i x e false q = good.ran i x e

-- ---- the job at the head of a context

pub found_at : {X : Type 0} (p : X → Bool) (xs : List X) (x : X) → find p xs ≡ Some x → (i : ℕ) × (slice_get xs i ≡ Some x) × (p x ≡ true)
found_at p [] x h = cc
found_at p (y ∷ xs) x h = ⊎_elim
    (λ e. (zero, (let f : Some y ≡ Some x = here (p y) e h in f), (let f : Some y ≡ Some x = here (p y) e h in let same : y ≡ x = cc in subst (λ z. p z ≡ true) same e)))
    (λ e. let g = found_at p xs x (later (p y) e h) in (suc g.0, g.1, g.2))
    (cases_Bool (p y))
  where
    here : (b : Bool) → b ≡ true → (if b then Some y else find p xs) ≡ Some x → Some y ≡ Some x
    here true e h = h
    here false e h = cc

    later : (b : Bool) → b ≡ false → (if b then Some y else find p xs) ≡ Some x → find p xs ≡ Some x
    later true e h = cc
    later false e h = h
