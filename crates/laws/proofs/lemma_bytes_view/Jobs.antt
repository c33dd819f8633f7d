-- What is known of jobs: those that nothing waits for any more are done, and a head's earlier ones too.
use Rattle.std.proofs.Common.{◌≡◌, ℕ, ◌<◌, ◌≤◌, zero, suc, Bool, true, false, List, [], ◌∷◌, length, Option, Some, None, Ok, Err, refl, sym, subst, ◌∙◌, ap, ap₂, arith, ◌⊎◌, inl, inr}
use Rattle.std.specs.Prelude.{slice_get, map, find, filter, not, ◌==◌, ◌&&◌, ◌||◌, unwrap_or, option_and_then, if◌then◌else◌}
use Rattle.std.specs.List.{list_any}
use Rattle.std.proofs.lemmas.Grind.{common_steps}
use Rattle.std.proofs.lemmas.Bool.{eqb-true, and_parts}
use Rattle.std.proofs.lemmas.Bool.Decides.{nat_tests}
use Rattle.ttm_base.specs.declared.JobId.{JobId}
use Rattle.ttm_base.specs.declared.Packet.{Packet}
use Rattle.ttm_base.specs.declared.Need.TheVariants as need
use Rattle.ttm_base.specs.declared.Actor.TheVariants as actor
use Rattle.journal_model.specs.declared.script.Script.{Script}
use Rattle.journal_model.specs.declared.state.State.{State}
use Rattle.journal_model.specs.declared.state.Core.{Core}
use Rattle.journal_model.specs.declared.state.Job.{Job}
use Rattle.journal_model.specs.declared.entry.Kind.TheVariants as kind
use Rattle.journal_model.specs.rules.Waits.{same_job, is_unfinished, unfinished, waited_for}
use Rattle.ttm_base.specs.Fences.{named_job}
use Rattle.journal_model.specs.rules.Search.{Step}
use Rattle.journal_model.specs.rules.Stores.{job_packet, no_packet}
use Rattle.journal_model.specs.rules.Next.{next, head_of, step_of_job}
use Rattle.journal_model.specs.rules.ApplyJobs.{changed_job}
use Rattle.laws.specs.law_state.GoodState.{GoodJobs}

pub same_job-true : (i j : JobId) → same_job i j ≡ true → i ≡ j
same_job-true i j h =
    let parts = and_parts (i.ctx == j.ctx) (i.num == j.num) h in
    ap₂ (λ c n. record { ctx = c; num = n }) (eqb-true i.ctx j.ctx parts.0) (eqb-true i.num j.num parts.1)

pub same_job-refl : (i : JobId) → same_job i i ≡ true
same_job-refl i = by i.ctx i.num
  where
    by : (c n : ℕ) → ((c == c) && (n == n)) ≡ true
    by c n = grind (arith, nat_tests)

-- ---- what is waited for

none_named : (is : List JobId) → named_job is ≡ None → is ≡ []
none_named [] h = refl
none_named (i ∷ is) h = cc

none_kept : (p : JobId → Bool) (is : List JobId) (i : JobId) → filter p is ≡ [] → list_any (same_job i) is ≡ true → p i ≡ false
none_kept p [] i e h = cc
none_kept p (j ∷ js) i e h = by (p j) refl (same_job i j) refl (none_kept p js i) e h
  where
    by : (q : Bool) → p j ≡ q → (t : Bool) → same_job i j ≡ t → (filter p js ≡ [] → list_any (same_job i) js ≡ true → p i ≡ false) →
        (if q then j ∷ filter p js else filter p js) ≡ [] → (t || list_any (same_job i) js) ≡ true → p i ≡ false
    by true a t b rest f g = cc
    by false a true b rest f g = ap p (same_job-true i j b) ∙ a
    by false a false b rest f g = rest f g

finished_at : (jobs : List Job) (j : ℕ) (x : Job) → slice_get jobs j ≡ Some x → list_any (λ y. same_job x.id y.id && not y.finished) jobs ≡ false → x.finished ≡ true
finished_at [] j x e h = cc
finished_at (y ∷ ys) zero x e h =
    let same : y ≡ x = cc in
    by y.finished (same_job x.id y.id) (list_any (λ y. same_job x.id y.id && not y.finished) ys) (subst (λ z. same_job x.id z.id ≡ true) (sym same) (same_job-refl x.id)) h (λ f. ap (λ (z : Job). z.finished) (sym same) ∙ f)
  where
    by : (f t r : Bool) → t ≡ true → ((t && not f) || r) ≡ false → (f ≡ true → x.finished ≡ true) → x.finished ≡ true
    by true t r a b k = k refl
    by false true r a b k = cc
    by false false r a b k = cc
finished_at (y ∷ ys) (suc j) x e h = finished_at ys j x e (right (same_job x.id y.id && not y.finished) (list_any (λ y. same_job x.id y.id && not y.finished) ys) h)
  where
    right : (a b : Bool) → (a || b) ≡ false → b ≡ false
    right false b h = h
    right true b h = cc

-- none of the jobs is waited for, so this one is done
pub waited_is_done : (c : Core) (is : List JobId) (j : ℕ) (x : Job) → waited_for c is ≡ None → slice_get c.jobs j ≡ Some x → list_any (same_job x.id) is ≡ true → x.finished ≡ true
waited_is_done c is j x none at has = finished_at c.jobs j x at (none_kept (is_unfinished c) is x.id (none_named (unfinished c is) none) has)

-- ---- the head of a context

pub record First {X : Type 0} (p : X → Bool) (xs : List X) (x : X) : Type 0 where
  pub at : ℕ
  pub here : slice_get xs at ≡ Some x
  pub passes : p x ≡ true
  pub before : (j : ℕ) (y : X) → j < at → slice_get xs j ≡ Some y → p y ≡ false

pub first_found : {X : Type 0} (p : X → Bool) (xs : List X) (x : X) → find p xs ≡ Some x → First p xs x
first_found p [] x e = cc
first_found p (y ∷ ys) x e = by (p y) refl (first_found p ys x) e
  where
    by : (q : Bool) → p y ≡ q → (find p ys ≡ Some x → First p ys x) → (if q then Some y else find p ys) ≡ Some x → First p (y ∷ ys) x
    by true t rest f = let same : y ≡ x = cc in record { at = 0; here = f; passes = subst (λ z. p z ≡ true) same t; before = λ j z l g. absurd (omega (arith, l)) }
    by false t rest f =
        let r = rest f in
        record { at = suc r.at; here = r.here; passes = r.passes; before = λ j z l g. earlier r j z l g }
      where
        earlier : (r : First p ys x) → (j : ℕ) (z : _) → j < suc r.at → slice_get (y ∷ ys) j ≡ Some z → p z ≡ false
        earlier r zero z l g = let same : y ≡ z = cc in subst (λ w. p w ≡ false) same t
        earlier r (suc j) z l g = r.before j z (omega (arith, l)) g

-- a packet is that of the head, whose waits are done
pub record HeadPacket (s : State) (e n k : ℕ) : Type 0 where
  pub job : Job
  pub head : head_of s e ≡ Some job
  pub num : n ≡ job.id.num
  pub ran : k ≡ job.ran
  pub left : job.ran < length job.packets
  pub waits : waited_for s.core job.waits ≡ None

packet_step : (s : State) (j : Job) (n k : ℕ) (piece : List ℕ) → step_of_job s j ≡ Ok (kind.Packet n k piece) → (n ≡ j.id.num) × (k ≡ j.ran) × (j.ran < length j.packets) × (waited_for s.core j.waits ≡ None)
packet_step s j n k piece h = (grind (arith, common_steps, nat_tests), grind (arith, common_steps, nat_tests), grind (arith, common_steps, nat_tests), grind (arith, common_steps, nat_tests))

pub head_packet : (script : Script) (s : State) (e n k : ℕ) (piece : List ℕ) → next script s (actor.Engine e) ≡ Ok (kind.Packet n k piece) → HeadPacket s e n k
head_packet script s e n k piece h = by (head_of s e) refl h
  where
    by : (o : Option Job) → head_of s e ≡ o → (elim o as (λ o. Step) [ None ↦ Err need.NoJob | Some j ↦ step_of_job s j ]) ≡ Ok (kind.Packet n k piece) → HeadPacket s e n k
    by None q g = cc
    by (Some j) q g = let p = packet_step s j n k piece g in record { job = j; head = q; num = p.0; ran = p.1; left = p.2; waits = p.3 }

-- the end of a job is that of the head, with no packet left
pub record HeadDone (s : State) (e n : ℕ) : Type 0 where
  pub job : Job
  pub head : head_of s e ≡ Some job
  pub num : n ≡ job.id.num
  pub over : length job.packets ≤ job.ran

done_step : (s : State) (j : Job) (n : ℕ) → step_of_job s j ≡ Ok (kind.Done n) → (n ≡ j.id.num) × (length j.packets ≤ j.ran)
done_step s j n h = (grind (arith, common_steps, nat_tests), grind (arith, common_steps, nat_tests))

pub head_done : (script : Script) (s : State) (e n : ℕ) → next script s (actor.Engine e) ≡ Ok (kind.Done n) → HeadDone s e n
head_done script s e n h = by (head_of s e) refl h
  where
    by : (o : Option Job) → head_of s e ≡ o → (elim o as (λ o. Step) [ None ↦ Err need.NoJob | Some j ↦ step_of_job s j ]) ≡ Ok (kind.Done n) → HeadDone s e n
    by None q g = cc
    by (Some j) q g = let p = done_step s j n g in record { job = j; head = q; num = p.0; over = p.1 }

pub head_first : (s : State) (e : ℕ) (j : Job) → head_of s e ≡ Some j → First (λ x. (x.id.ctx == e) && not x.finished) s.core.jobs j
head_first s e j h = first_found (λ x. (x.id.ctx == e) && not x.finished) s.core.jobs j h

pub passed : (c e : ℕ) (f : Bool) → ((c == e) && not f) ≡ true → (c ≡ e) × (f ≡ false)
passed c e true h = absurd (no (c == e) h)
  where
    no : (q : Bool) → (q && not true) ≡ true → ⊥
    no true h = cc
    no false h = cc
passed c e false h = (eqb-true c e (and_parts (c == e) (not false) h).0, refl)

pub failed : (c e : ℕ) (f : Bool) → ((c == e) && not f) ≡ false → c ≡ e → f ≡ true
failed c e true h k = refl
failed c e false h k = absurd (grind (arith, nat_tests))

-- ---- a job by name

pub found_job : (engines : ℕ) (last : List ℕ) (jobs : List Job) → GoodJobs engines last jobs → (at : ℕ) (x : Job) → slice_get jobs at ≡ Some x → find (λ j. same_job x.id j.id) jobs ≡ Some x
found_job engines last jobs good at x e = by (find (λ j. same_job x.id j.id) jobs) refl
  where
    none_at : (ys : List Job) (k : ℕ) → slice_get ys k ≡ Some x → find (λ j. same_job x.id j.id) ys ≡ None → ⊥
    none_at [] k f n = cc
    none_at (y ∷ ys) zero f n = let same : x ≡ y = cc in here (same_job x.id y.id) (subst (λ z. same_job x.id z.id ≡ true) same (same_job-refl x.id)) n
      where
        here : (q : Bool) → q ≡ true → (if q then Some y else find (λ j. same_job x.id j.id) ys) ≡ None → ⊥
        here true t n = cc
        here false t n = cc
    none_at (y ∷ ys) (suc k) f n = none_at ys k f (there (same_job x.id y.id) n)
      where
        there : (q : Bool) → (if q then Some y else find (λ j. same_job x.id j.id) ys) ≡ None → find (λ j. same_job x.id j.id) ys ≡ None
        there true n = cc
        there false n = n

    by : (o : Option Job) → find (λ j. same_job x.id j.id) jobs ≡ o → find (λ j. same_job x.id j.id) jobs ≡ Some x
    by None n = absurd (none_at jobs at e n)
    by (Some y) n =
        let f = first_found (λ j. same_job x.id j.id) jobs y n in
        let same = good.names at f.at x y e f.here f.passes in
        let is : Some x ≡ Some y = sym e ∙ ap (slice_get jobs) same ∙ f.here in
        n ∙ sym is

pub packet_is : (engines : ℕ) (last : List ℕ) (c : Core) → GoodJobs engines last c.jobs → (at : ℕ) (x : Job) (q : Packet) → slice_get c.jobs at ≡ Some x → slice_get x.packets x.ran ≡ Some q → job_packet c x.id x.ran ≡ q
packet_is engines last c good at x q e f =
    ap (λ o. unwrap_or (option_and_then (λ (j : Job). slice_get j.packets x.ran) o) no_packet) (found_job engines last c.jobs good at x e) ∙ ap (λ o. unwrap_or o no_packet) f

-- ---- a job that was changed

pub get_map : {X Y : Type 0} (f : X → Y) (xs : List X) (i : ℕ) (x : X) → slice_get xs i ≡ Some x → slice_get (map f xs) i ≡ Some (f x)
get_map f [] i x e = cc
get_map f (y ∷ ys) zero x e = let same : y ≡ x = cc in ap (λ z. Some (f z)) same
get_map f (y ∷ ys) (suc i) x e = get_map f ys i x e

-- either the one that is changed, or as it was
pub record Changed (f : Job → Job) (id : JobId) (jobs : List Job) (i : ℕ) (new : Job) : Type 0 where
  pub old : Job
  pub at : slice_get jobs i ≡ Some old
  pub is : ((id ≡ old.id) × (new ≡ f old)) ⊎ ((id ≡ old.id → ⊥) × (new ≡ old))

pub changed_at : (f : Job → Job) (id : JobId) (jobs : List Job) (i : ℕ) (new : Job) → slice_get (changed_job f id jobs) i ≡ Some new → Changed f id jobs i new
changed_at f id [] i new e = cc
changed_at f id (y ∷ ys) zero new e = by (same_job id y.id) refl e
  where
    by : (q : Bool) → same_job id y.id ≡ q → Some (if q then f y else y) ≡ Some new → Changed f id (y ∷ ys) zero new
    by true t g = let same : f y ≡ new = cc in record { old = y; at = refl; is = inl (same_job-true id y.id t, sym same) }
    by false t g = let same : y ≡ new = cc in record { old = y; at = refl; is = inr (λ k. no k t, sym same) }
      where
        no : id ≡ y.id → same_job id y.id ≡ false → ⊥
        no k t = let u : same_job id y.id ≡ true = subst (λ j. same_job id j ≡ true) k (same_job-refl id) in cc
changed_at f id (y ∷ ys) (suc i) new e = let r = changed_at f id ys i new e in record { old = r.old; at = r.at; is = r.is }

-- the job at the same place, with its name and waits, where f keeps them
pub changed_there : (f : Job → Job) (id : JobId) (jobs : List Job) (i : ℕ) (x : Job) → slice_get jobs i ≡ Some x → slice_get (changed_job f id jobs) i ≡ Some (if same_job id x.id then f x else x)
changed_there f id jobs i x e = get_map (λ j. if same_job id j.id then f j else j) jobs i x e
