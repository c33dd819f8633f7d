-- Entries lower the measure: those of the engines and of the reaper, and sums.
use Rattle.std.proofs.Common.{◌≡◌, subst, ℕ, ◌<◌, ◌≤◌, ◌+◌, zero, suc, Bool, true, false, List, [], ◌∷◌, Some, refl, sym, ◌∙◌, ap, arith, ◌⊎◌, inl, inr, ⊎_elim}
use Rattle.std.proofs.lemmas.Bool.Decides.{nat_tests}
use Rattle.std.specs.Prelude.{if◌then◌else◌, ◌&&◌, ◌==◌, not, nat_lt, find, filter, sum_by, slice_get, slice_set, length}
use Rattle.std.proofs.lemmas.List.Sums.{sum_by-cons}
use Rattle.ttm_base.specs.ListWords.{count_from}
use Rattle.ttm_base.specs.declared.JobId.{JobId}
use Rattle.journal_model.specs.declared.script.Script.{Script}
use Rattle.journal_model.specs.declared.state.State.{State}
use Rattle.journal_model.specs.declared.state.Job.{Job}
use Rattle.journal_model.specs.declared.state.Ghost.{Ghost}
use Rattle.journal_model.specs.rules.Waits.{same_job}
use Rattle.journal_model.specs.rules.Next.{head_of}
use Rattle.journal_model.specs.rules.ApplyJobs.{after_reap, after_packet_run, after_done, changed_job}
use Rattle.laws.proofs.law_sound.Measure.{measure, job_left}

bool_cases : (b : Bool) → (b ≡ true) ⊎ (b ≡ false)
bool_cases true = inl refl
bool_cases false = inr refl

-- ---- sums

pub sum_set : {X : Type 0} (f : X → ℕ) (xs : List X) (i : ℕ) (x y : X) → slice_get xs i ≡ Some x → sum_by f (slice_set xs i y) + f x ≡ sum_by f xs + f y
sum_set f [] i x y e = cc
sum_set f (z ∷ xs) zero x y e = let it : z ≡ x = grind arith in let same : f z ≡ f x = ap f it in omega (arith, sum_by-cons f z xs, sum_by-cons f y xs)
sum_set f (z ∷ xs) (suc i) x y e = let h : sum_by f (slice_set xs i y) + f x ≡ sum_by f xs + f y = sum_set f xs i x y e in omega (arith, sum_by-cons f z xs, sum_by-cons f z (slice_set xs i y))

pub sum_most : {X : Type 0} (f g : X → ℕ) (xs : List X) → ((x : X) → f x ≤ g x) → sum_by f xs ≤ sum_by g xs
sum_most f g [] h = omega arith
sum_most f g (x ∷ xs) h = let a : f x ≤ g x = h x in let b : sum_by f xs ≤ sum_by g xs = sum_most f g xs h in omega (arith, sum_by-cons f x xs, sum_by-cons g x xs)

-- one number's part falls by k, and no other's rises
pub sum_but_one : (f g : ℕ → ℕ) (t k n from : ℕ) → from ≤ t → t < from + n → ((u : ℕ) → (u ≡ t → ⊥) → f u ≤ g u) → f t + k ≤ g t →
    sum_by f (count_from 1 n from) + k ≤ sum_by g (count_from 1 n from)
sum_but_one f g t k zero from low high others mine = absurd (omega arith)
sum_but_one f g t k (suc n) from low high others mine =
    ⊎_elim
    (λ here.
    let it : f from + k ≤ g from = subst (λ u. f u + k ≤ g u) (sym here) mine in
    let rest : sum_by f (count_from 1 n (1 + from)) ≤ sum_by g (count_from 1 n (1 + from)) = sum_after n (1 + from) (omega arith) in
    omega (arith, sum_by-cons f from (count_from 1 n (1 + from)), sum_by-cons g from (count_from 1 n (1 + from))))
    (λ there.
    let it : f from ≤ g from = others from there in
    let rest : sum_by f (count_from 1 n (1 + from)) + k ≤ sum_by g (count_from 1 n (1 + from)) =
    sum_but_one f g t k n (1 + from) (let ne : from ≡ t → ⊥ = there in grind arith) (omega arith) others mine in
    omega (arith, sum_by-cons f from (count_from 1 n (1 + from)), sum_by-cons g from (count_from 1 n (1 + from))))
    (same_or_not from t)
  where
    same_or_not : (a b : ℕ) → (a ≡ b) ⊎ (a ≡ b → ⊥)
    same_or_not zero zero = inl refl
    same_or_not zero (suc b) = inr (λ e. absurd (omega arith))
    same_or_not (suc a) zero = inr (λ e. absurd (omega arith))
    same_or_not (suc a) (suc b) = ⊎_elim (λ e. inl (ap suc e)) (λ h. inr (λ e. h (omega arith))) (same_or_not a b)

    sum_after : (m start : ℕ) → t < start → sum_by f (count_from 1 m start) ≤ sum_by g (count_from 1 m start)
    sum_after zero start l = omega arith
    sum_after (suc m) start l =
        let a : f start ≤ g start = others start (λ e. absurd (omega arith)) in
        let b : sum_by f (count_from 1 m (1 + start)) ≤ sum_by g (count_from 1 m (1 + start)) = sum_after m (1 + start) (omega arith) in
        omega (arith, sum_by-cons f start (count_from 1 m (1 + start)), sum_by-cons g start (count_from 1 m (1 + start)))

-- ---- the reaper

filter_most : {X : Type 0} (p : X → Bool) (xs : List X) → length (filter p xs) ≤ length xs
filter_most p [] = omega arith
filter_most p (x ∷ xs) =
    let h : length (filter p xs) ≤ length xs = filter_most p xs in
    ⊎_elim (λ e. grind arith) (λ e. grind arith) (bool_cases (p x))

one_less : (gs : List Ghost) (g : Ghost) → slice_get gs 0 ≡ Some g → length (filter (λ h. not (h.num == g.num)) gs) + 1 ≤ length gs
one_less [] g e = cc
one_less (h ∷ gs) g e =
    let it : h ≡ g = grind arith in
    let same : h.num ≡ g.num = ap (λ k. k.num) it in
    let rest : length (filter (λ h. not (h.num == g.num)) gs) ≤ length gs = filter_most (λ h. not (h.num == g.num)) gs in
    let drops : not (h.num == g.num) ≡ false = grind (arith, nat_tests) in
    grind arith

pub reap_lowers : (script : Script) (s : State) (g : Ghost) → slice_get s.core.ghosts 0 ≡ Some g → measure script (after_reap s g.num) + 1 ≤ measure script s
reap_lowers script s g e =
    let h : length (filter (λ h. not (h.num == g.num)) s.core.ghosts) + 1 ≤ length s.core.ghosts = one_less s.core.ghosts g e in omega arith

-- ---- the engines

changed_most : (f : Job → Job) (i : JobId) (js : List Job) → ((h : Job) → job_left (f h) ≤ job_left h) → sum_by job_left (changed_job f i js) ≤ sum_by job_left js
changed_most f i [] less = omega arith
changed_most f i (h ∷ js) less =
    let rest : sum_by job_left (changed_job f i js) ≤ sum_by job_left js = changed_most f i js less in
    let here : job_left (f h) ≤ job_left h = less h in
    ⊎_elim
    (λ e.
    let it : changed_job f i (h ∷ js) ≡ f h ∷ changed_job f i js = ap (λ q. (if q then f h else h) ∷ changed_job f i js) e in
    let sum : sum_by job_left (changed_job f i (h ∷ js)) ≡ job_left (f h) + sum_by job_left (changed_job f i js) = ap (sum_by job_left) it ∙ sum_by-cons job_left (f h) (changed_job f i js) in
    omega (arith, sum_by-cons job_left h js))
    (λ e.
    let it : changed_job f i (h ∷ js) ≡ h ∷ changed_job f i js = ap (λ q. (if q then f h else h) ∷ changed_job f i js) e in
    let sum : sum_by job_left (changed_job f i (h ∷ js)) ≡ job_left h + sum_by job_left (changed_job f i js) = ap (sum_by job_left) it ∙ sum_by-cons job_left h (changed_job f i js) in
    omega (arith, sum_by-cons job_left h js))
    (bool_cases (same_job i h.id))

same_itself : (i : JobId) → same_job i i ≡ true
same_itself i = grind (arith, nat_tests)

changed_less : (f : Job → Job) (p : Job → Bool) (js : List Job) (j : Job) → find p js ≡ Some j → ((h : Job) → job_left (f h) ≤ job_left h) → job_left (f j) + 1 ≤ job_left j →
    sum_by job_left (changed_job f j.id js) + 1 ≤ sum_by job_left js
changed_less f p [] j e less mine = cc
changed_less f p (h ∷ js) j e less mine =
    ⊎_elim
    (λ q.
    let it : h ≡ j = grind arith in
    let rest : sum_by job_left (changed_job f j.id js) ≤ sum_by job_left js = changed_most f j.id js less in
    let named : same_job j.id h.id ≡ true = ap (λ k. same_job j.id k.id) it ∙ same_itself j.id in
    let now : changed_job f j.id (h ∷ js) ≡ f h ∷ changed_job f j.id js = ap (λ q. (if q then f h else h) ∷ changed_job f j.id js) named in
    let sum : sum_by job_left (changed_job f j.id (h ∷ js)) ≡ job_left (f h) + sum_by job_left (changed_job f j.id js) = ap (sum_by job_left) now ∙ sum_by-cons job_left (f h) (changed_job f j.id js) in
    let here : job_left (f h) + 1 ≤ job_left h = subst (λ k. job_left (f k) + 1 ≤ job_left k) (sym it) mine in
    omega (arith, sum_by-cons job_left h js))
    (λ q.
    let later : find p js ≡ Some j = grind arith in
    let rest : sum_by job_left (changed_job f j.id js) + 1 ≤ sum_by job_left js = changed_less f p js j later less mine in
    let here : job_left (f h) ≤ job_left h = less h in
    ⊎_elim
    (λ e.
    let now : changed_job f j.id (h ∷ js) ≡ f h ∷ changed_job f j.id js = ap (λ q. (if q then f h else h) ∷ changed_job f j.id js) e in
    let sum : sum_by job_left (changed_job f j.id (h ∷ js)) ≡ job_left (f h) + sum_by job_left (changed_job f j.id js) = ap (sum_by job_left) now ∙ sum_by-cons job_left (f h) (changed_job f j.id js) in
    omega (arith, sum_by-cons job_left h js))
    (λ e.
    let now : changed_job f j.id (h ∷ js) ≡ h ∷ changed_job f j.id js = ap (λ q. (if q then f h else h) ∷ changed_job f j.id js) e in
    let sum : sum_by job_left (changed_job f j.id (h ∷ js)) ≡ job_left h + sum_by job_left (changed_job f j.id js) = ap (sum_by job_left) now ∙ sum_by-cons job_left h (changed_job f j.id js) in
    omega (arith, sum_by-cons job_left h js))
    (bool_cases (same_job j.id h.id)))
    (bool_cases (p h))

-- one packet more has run
ran_more : Job → Job
ran_more j = record j { ran = j.ran + 1 }

pub packet_lowers : (script : Script) (s : State) (e : ℕ) (j : Job) → head_of s e ≡ Some j → nat_lt j.ran (length j.packets) ≡ true → j.finished ≡ false →
    measure script (after_packet_run s j.id) + 1 ≤ measure script s
packet_lowers script s e j head left undone =
    let h : sum_by job_left (changed_job (λ j. record j { ran = j.ran + 1 }) j.id s.core.jobs) + 1 ≤ sum_by job_left s.core.jobs =
    changed_less (λ j. record j { ran = j.ran + 1 }) (λ j. (j.id.ctx == e) && not j.finished) s.core.jobs j head less mine in
    omega arith
  where
    less : (h : Job) → job_left (record h { ran = h.ran + 1 }) ≤ job_left h
    less h = ⊎_elim (λ e. grind arith) (λ e. grind arith) (bool_cases h.finished)

    mine : job_left (record j { ran = j.ran + 1 }) + 1 ≤ job_left j
    mine = let l : j.ran < length j.packets = grind (arith, nat_tests) in grind arith

pub done_lowers : (script : Script) (s : State) (e : ℕ) (j : Job) → head_of s e ≡ Some j → j.finished ≡ false → measure script (after_done s j.id) + 1 ≤ measure script s
done_lowers script s e j head undone =
    let h : sum_by job_left (changed_job (λ j. record j { finished = true }) j.id s.core.jobs) + 1 ≤ sum_by job_left s.core.jobs =
    changed_less (λ j. record j { finished = true }) (λ j. (j.id.ctx == e) && not j.finished) s.core.jobs j head (λ h. omega arith) mine in
    omega arith
  where
    mine : job_left (record j { finished = true }) + 1 ≤ job_left j
    mine = grind arith
