-- A job more: whom it waits for, and what is seen of a state with it.
use Rattle.std.proofs.Common.{◌≡◌, ℕ, ◌+◌, ◌*◌, ◌<◌, zero, suc, Bool, true, false, List, [], ◌∷◌, ◌++◌, length, Option, Some, None, refl, sym, subst, ◌∙◌, ap, arith, ◌⊎◌, inl, inr, ⊎_elim}
use Rattle.std.specs.Prelude.{slice_get, filter, not, nat_eq, nat_lt, ◌==◌, ◌&&◌, ◌||◌, if◌then◌else◌}
use Rattle.std.specs.List.{list_any}
use Rattle.std.proofs.lemmas.Bool.{cases_Bool, eqb-true, eq-eqb, and_parts, or_cases}
use Rattle.ttm_base.specs.declared.JobId.{JobId}
use Rattle.ttm_base.specs.Pages as pages
use Rattle.journal_model.specs.declared.script.Script.{Script}
use Rattle.journal_model.specs.declared.state.Core.{Core}
use Rattle.journal_model.specs.declared.state.Buffer.{Buffer}
use Rattle.journal_model.specs.declared.state.Job.{Job}
use Rattle.journal_model.specs.declared.state.Ghost as ghosts
use Rattle.journal_model.specs.rules.Places.{aperture, place_of}
use Rattle.journal_model.specs.rules.Waits.{same_job, is_unfinished, unfinished}
use Rattle.journal_model.specs.rules.Stores.{is_there}
use Rattle.journal_model.specs.rules.PlainMemory.{Memory, OwedProbes}
use Rattle.laws.proofs.law_state.Lists.{get_pushed, get_within}
use Rattle.laws.specs.lemma_bytes_model.Memory.{Page, Own, Stores, Step, touched}
use Rattle.laws.specs.lemma_bytes_model.View.{View, Good, Fences, at_job}
use Rattle.laws.proofs.lemma_bytes_model.Actions.{or_first, or_second}
use Rattle.laws.proofs.lemma_bytes_model.Rest.{at_same, at_other, at_each}
use Rattle.laws.specs.law_holders.Holding.{seen}
use Rattle.laws.proofs.law_holders.Owner.{owner_of}
use Rattle.laws.specs.lemma_bytes_view.Seen.{steps_of}
use Rattle.laws.proofs.lemma_bytes_view.World.{Before, IsChanging, IsUsing, IsGhostly, IsMover, Seen, bare}
use Rattle.laws.proofs.lemma_bytes_view.Jobs.{same_job-true, same_job-refl}
use Rattle.laws.proofs.lemma_bytes_view.Kept.{keep_more, before_kept}
use Rattle.laws.proofs.lemma_bytes_view.PacketStep.{no_bytes}

-- ---- one more at the end

pub get_last : {X : Type 0} (xs : List X) (x : X) → slice_get (xs ++ x ∷ []) (length xs) ≡ Some x
get_last [] x = refl
get_last (y ∷ ys) x = get_last ys x

pub get_front : {X : Type 0} (xs ys : List X) (i : ℕ) (x : X) → slice_get xs i ≡ Some x → slice_get (xs ++ ys) i ≡ Some x
get_front [] ys i x e = cc
get_front (y ∷ xs) ys zero x e = e
get_front (y ∷ xs) ys (suc i) x e = get_front xs ys i x e

length-pushed : {X : Type 0} (xs : List X) (x : X) → length (xs ++ x ∷ []) ≡ suc (length xs)
length-pushed [] x = refl
length-pushed (y ∷ ys) x = ap suc (length-pushed ys x)

-- ---- whom a new job waits for

abbrev pub waits_at : List JobId → ℕ → Option Job → Bool
waits_at ws ctx None = false
waits_at ws ctx (Some y) = list_any (same_job y.id) ws || (y.id.ctx == ctx)

-- it waits for job i, or follows it in its context
abbrev pub is_prior : List Job → List JobId → ℕ → ℕ → Bool
is_prior jobs ws ctx i = waits_at ws ctx (slice_get jobs i)

pub record Prior (jobs : List Job) (ws : List JobId) (ctx i : ℕ) : Type 0 where
  pub job : Job
  pub at : slice_get jobs i ≡ Some job
  pub why : (list_any (same_job job.id) ws ≡ true) ⊎ (job.id.ctx ≡ ctx)

pub prior_is : (jobs : List Job) (ws : List JobId) (ctx i : ℕ) → is_prior jobs ws ctx i ≡ true → Prior jobs ws ctx i
prior_is jobs ws ctx i h = by (slice_get jobs i) refl h
  where
    by : (o : Option Job) → slice_get jobs i ≡ o → waits_at ws ctx o ≡ true → Prior jobs ws ctx i
    by None e g = cc
    by (Some y) e g = record { job = y; at = e; why = ⊎_elim (λ a. inl a) (λ a. inr (eqb-true y.id.ctx ctx a)) (or_cases (list_any (same_job y.id) ws) (y.id.ctx == ctx) g) }

pub prior_waits : (jobs : List Job) (ws : List JobId) (ctx i : ℕ) (y : Job) → slice_get jobs i ≡ Some y → list_any (same_job y.id) ws ≡ true → is_prior jobs ws ctx i ≡ true
prior_waits jobs ws ctx i y e h = ap (waits_at ws ctx) e ∙ or_first (list_any (same_job y.id) ws) (y.id.ctx == ctx) h

pub prior_ring : (jobs : List Job) (ws : List JobId) (ctx i : ℕ) (y : Job) → slice_get jobs i ≡ Some y → y.id.ctx ≡ ctx → is_prior jobs ws ctx i ≡ true
prior_ring jobs ws ctx i y e h = ap (waits_at ws ctx) e ∙ or_second (list_any (same_job y.id) ws) (y.id.ctx == ctx) (eq-eqb y.id.ctx ctx h)

unfinished_at : (jobs : List Job) (j : ℕ) (x : Job) → slice_get jobs j ≡ Some x → x.finished ≡ false → list_any (λ y. same_job x.id y.id && not y.finished) jobs ≡ true
unfinished_at [] j x e h = cc
unfinished_at (y ∷ ys) zero x e h =
    let same : x ≡ y = cc in
    first (same_job x.id y.id) y.finished (list_any (λ y. same_job x.id y.id && not y.finished) ys) (subst (λ (z : Job). same_job x.id z.id ≡ true) same (same_job-refl x.id)) (ap (λ (z : Job). z.finished) (sym same) ∙ h)
  where
    first : (a b r : Bool) → a ≡ true → b ≡ false → ((a && not b) || r) ≡ true
    first true false r e f = refl
    first true true r e f = cc
    first false b r e f = cc
unfinished_at (y ∷ ys) (suc j) x e h = or_second (same_job x.id y.id && not y.finished) (list_any (λ y. same_job x.id y.id && not y.finished) ys) (unfinished_at ys j x e h)

among_kept : (p : JobId → Bool) (i : JobId) (is : List JobId) → p i ≡ true → list_any (same_job i) is ≡ true → list_any (same_job i) (filter p is) ≡ true
among_kept p i [] t h = cc
among_kept p i (j ∷ js) t h = by (same_job i j) refl (p j) refl (among_kept p i js t) h
  where
    by : (q : Bool) → same_job i j ≡ q → (r : Bool) → p j ≡ r → (list_any (same_job i) js ≡ true → list_any (same_job i) (filter p js) ≡ true) →
        (q || list_any (same_job i) js) ≡ true → list_any (same_job i) (if r then j ∷ filter p js else filter p js) ≡ true
    by true e true f rest g = or_first (same_job i j) (list_any (same_job i) (filter p js)) e
    by true e false f rest g = let u : p j ≡ true = ap p (sym (same_job-true i j e)) ∙ t in cc
    by false e true f rest g = or_second (same_job i j) (list_any (same_job i) (filter p js)) (rest g)
    by false e false f rest g = rest g

-- a job that isn't done stays among those that aren't
pub among_unfinished : (c : Core) (is : List JobId) (j : ℕ) (x : Job) → slice_get c.jobs j ≡ Some x → x.finished ≡ false → list_any (same_job x.id) is ≡ true → list_any (same_job x.id) (unfinished c is) ≡ true
among_unfinished c is j x at f h = among_kept (is_unfinished c) x.id is (unfinished_at c.jobs j x at f) h

-- a job among these is waited for, or done
pub waited_or_done : (c : Core) (is : List JobId) (ctx j : ℕ) (x : Job) → slice_get c.jobs j ≡ Some x → list_any (same_job x.id) is ≡ true →
    (is_prior c.jobs (unfinished c is) ctx j ≡ true) ⊎ (x.finished ≡ true)
waited_or_done c is ctx j x at h =
    ⊎_elim (λ t. inr t) (λ f. inl (prior_waits c.jobs (unfinished c is) ctx j x at (among_unfinished c is j x at f h))) (cases_Bool x.finished)

-- ---- what is seen after it

abbrev pub core_with : Core → Job → List (Option Buffer) → List ghosts.Ghost → Option JobId → Core
core_with c new bs gs mj = record { buffers = bs; jobs = c.jobs ++ new ∷ []; ghosts = gs; move_fence = mj }

pub record Emitted (script : Script) (c : Core) (owed_probes owed_probes' : OwedProbes) (v : View) (new : Job) (bs : List (Option Buffer)) (gs : List ghosts.Ghost) (mj : Option JobId) (f : Fences) (placed : ℕ → ℕ → Page) (xs : List Step) : Type 0 where
  pub fresh : new.ran ≡ 0
  pub undone : new.finished ≡ false
  pub old : (i : ℕ) (x : Job) → slice_get c.jobs i ≡ Some x → steps_of (aperture (core_with c new bs gs mj)) owed_probes' x ≡ steps_of (aperture c) owed_probes x
  pub steps : steps_of (aperture (core_with c new bs gs mj)) owed_probes' new ≡ xs
  pub prior : f.prior ≡ λ j i. v.fences.prior j i || (nat_eq v.count j && is_prior c.jobs new.waits new.id.ctx i)
  pub strong : (b j : ℕ) → f.strong b j ≡ true → IsChanging (core_with c new bs gs mj) b j
  pub shared : (b j : ℕ) → f.shared b j ≡ true → IsUsing (core_with c new bs gs mj) b j
  pub ghost : (n j : ℕ) → f.ghost n j ≡ true → IsGhostly (core_with c new bs gs mj) n j
  pub mover : (j : ℕ) → f.mover ≡ Some j → IsMover (core_with c new bs gs mj) j
  pub place : (b i : ℕ) → placed b i ≡ seen (place_of (core_with c new bs gs mj) (record { 0 = b }) i)
  pub there : (p : pages.Page) → touched xs (seen p) ≡ true → is_there script.sizes p ≡ true

module _ (script : Script) (c : Core) (owed_probes owed_probes' : OwedProbes) (m m' : Memory) (bytes : pages.PageBytes) (v : View) (s : Seen script c owed_probes m bytes v) (g : Good no_bytes v)
    (new : Job) (bs : List (Option Buffer)) (gs : List ghosts.Ghost) (mj : Option JobId) (f : Fences) (place : ℕ → ℕ → Page) (xs : List Step) (plain : Stores)
    (k : Emitted script c owed_probes owed_probes' v new bs gs mj f place xs)
    (plain_so : (b i o : ℕ) → plain (Own b i) o ≡ (if nat_lt o 4096 then m' b (4096 * i + o) else 0)) where
  not_begun : v.begun v.count ≡ false
  not_begun = ⊎_elim (λ h. let l : v.count < v.count = g.unbegun v.count h in absurd (omega (arith, l))) (λ h. h) (cases_Bool (v.begun v.count))

  not_done : v.done v.count ≡ false
  not_done = ⊎_elim (λ h. let l : v.count < v.count = g.unbegun v.count (g.begins v.count h) in absurd (omega (arith, l))) (λ h. h) (cases_Bool (v.done v.count))

  old_isnt : (i : ℕ) (x : Job) → slice_get c.jobs i ≡ Some x → v.count ≡ i → ⊥
  old_isnt i x h e = let l = get_within c.jobs i x h in let n : v.count ≡ length c.jobs = s.count in absurd (omega (arith, l, n, e))

  new_at : (i : ℕ) → i ≡ length c.jobs → v.count ≡ i
  new_at i e = s.count ∙ sym e

  prior_seen : (j i : ℕ) → f.prior j i ≡ true → Before (c.jobs ++ new ∷ []) j i
  prior_seen j i h =
      ⊎_elim
      (λ e. before_kept c.jobs (c.jobs ++ new ∷ []) (keep_more c.jobs new) j i (s.prior j i e))
      (λ e.
      let parts = and_parts (nat_eq v.count j) (is_prior c.jobs new.waits new.id.ctx i) e in
      let at : v.count ≡ j = eqb-true v.count j parts.0 in
      let p = prior_is c.jobs new.waits new.id.ctx i parts.1 in
      let l = get_within c.jobs i p.job p.at in
      let n : v.count ≡ length c.jobs = s.count in
      record {
        later = new;
        earlier = p.job;
        at = subst (λ d. slice_get (c.jobs ++ new ∷ []) d ≡ Some new) (sym n ∙ at) (get_last c.jobs new);
        there = get_front c.jobs (new ∷ []) i p.job p.at;
        why = ⊎_elim (λ w. inl w) (λ w. inr (omega (arith, l, n, at), sym w)) p.why;
      })
      (or_cases (v.fences.prior j i) (nat_eq v.count j && is_prior c.jobs new.waits new.id.ctx i) (ap (λ (p : ℕ → ℕ → Bool). p j i) (sym k.prior) ∙ h))

  pub emitted_seen : Seen script (record { buffers = bs; jobs = c.jobs ++ new ∷ []; ghosts = gs; move_fence = mj }) owed_probes' m' bytes (record v {
    count = suc v.count;
    left = at_job v.count xs v.left;
    fences = f;
    owner = owner_of (bare (record { buffers = bs; jobs = c.jobs ++ new ∷ []; ghosts = gs; move_fence = mj }));
    place = place;
    plain = plain;
  })
  emitted_seen = record {
    count = ap suc s.count ∙ sym (length-pushed c.jobs new);
    left = λ i x e.
        ⊎_elim
        (λ h. at_other v.count i xs v.left (old_isnt i x h) ∙ s.left i x h ∙ sym (k.old i x h))
        (λ h. at_same v.count i xs v.left (new_at i h.0) ∙ sym k.steps ∙ ap (steps_of (aperture (core_with c new bs gs mj)) owed_probes') (sym h.1))
        (get_pushed c.jobs new x i e);
    begun = λ i x e.
        ⊎_elim
        (λ h. s.begun i x h)
        (λ h. ap v.begun (sym (new_at i h.0)) ∙ not_begun ∙ sym (ap (λ (j : Job). nat_lt 0 j.ran) h.1 ∙ ap (nat_lt 0) k.fresh))
        (get_pushed c.jobs new x i e);
    done = λ i x e.
        ⊎_elim
        (λ h. s.done i x h)
        (λ h. ap v.done (sym (new_at i h.0)) ∙ not_done ∙ sym (ap (λ (j : Job). j.finished) h.1 ∙ k.undone))
        (get_pushed c.jobs new x i e);
    prior = prior_seen;
    strong = k.strong;
    shared = k.shared;
    ghost = k.ghost;
    mover = k.mover;
    place = k.place;
    owner = λ x. refl;
    there = at_each (λ i l. (p : pages.Page) → touched l (seen p) ≡ true → is_there script.sizes p ≡ true) v.count xs v.left k.there (λ i ne p h. s.there i p h);
    stores = s.stores;
    cut = s.cut;
    plain = plain_so;
  }
