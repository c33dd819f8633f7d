-- What each entry does to the courses of threads.
use Rattle.std.proofs.Common.{◌≡◌, ℕ, ◌+◌, ◌-◌, zero, suc, Bool, true, false, List, [], ◌∷◌, Option, Some, None, IsSome, Ok, ◌++◌, ◌⊎◌, inl, inr, ⊎_elim, refl, sym, ◌∙◌, ap, arith}
use Rattle.std.proofs.lemmas.Grind.{common_steps}
use Rattle.std.proofs.lemmas.Bool.Decides.{nat_tests}
use Rattle.std.specs.Prelude.{slice_get, slice_set, unwrap_or, if◌then◌else◌, ◌==◌}
use Rattle.ttm_base.specs.declared.Actor.{Actor}
use Rattle.ttm_base.specs.declared.Actor.TheVariants as actor
use Rattle.ttm_base.specs.declared.BufId.{BufId}
use Rattle.ttm_base.specs.declared.Deny.{Deny}
use Rattle.ttm_base.specs.declared.Deny.TheVariants as deny
use Rattle.journal_model.specs.declared.script.Script.{Script}
use Rattle.journal_model.specs.declared.script.Command.{Command}
use Rattle.journal_model.specs.declared.state.State.{State}
use Rattle.journal_model.specs.declared.state.Course.{Course}
use Rattle.journal_model.specs.declared.entry.Kind.{Kind}
use Rattle.journal_model.specs.declared.entry.Kind.TheVariants as kind
use Rattle.journal_model.specs.rules.State.{course, course_of, new_course, with_course, without_buffer}
use Rattle.journal_model.specs.rules.Commands.{command_at_work}
use Rattle.journal_model.specs.rules.Search.{is_caught}
use Rattle.journal_model.specs.rules.Next.{next}
use Rattle.journal_model.specs.rules.Apply.{applied}
use Rattle.journal_model.specs.rules.ApplyCommands.{has_made, on_to_next}
use Rattle.journal_model.specs.rules.ApplyPages.{search_over}
use Rattle.journal_model.specs.rules.ApplyVictims.{with_fail, no_longer_caught, with_victim, with_skip, course_after_dry}
use Rattle.journal_model.specs.statements.Complete.{is_answer}

-- ---- who makes which kinds

-- packets and their end
abbrev pub is_of_engine : Kind → Bool
is_of_engine (kind.Packet n k piece) = true
is_of_engine (kind.Done n) = true
is_of_engine _ = false

-- the end of a ghost
abbrev pub is_of_reaper : Kind → Bool
is_of_reaper (kind.Reap g) = true
is_of_reaper _ = false

pub of_engine : (script : Script) (s : State) (e : ℕ) (k : Kind) → next script s (actor.Engine e) ≡ Ok k → is_of_engine k ≡ true
of_engine script s e k h = grind (arith, common_steps)

pub of_reaper : (script : Script) (s : State) (k : Kind) → next script s actor.Reaper ≡ Ok k → is_of_reaper k ≡ true
of_reaper script s k h = grind (arith, common_steps)

-- a thread that has an entry is there
pub thread_is_there : (script : Script) (s : State) (t : ℕ) (k : Kind) → next script s (actor.Thread t) ≡ Ok k → IsSome (course_of s t)
thread_is_there script s t k h = grind (arith, common_steps)

-- ---- courses by number

-- the course of a thread among these
abbrev pub course_in : List Course → ℕ → Course
course_in courses t = unwrap_or (if t == 0 then None else slice_get courses (t - 1)) (new_course 0)

get_set_same : {X : Type 0} (xs : List X) (i : ℕ) (x : X) → IsSome (slice_get xs i) → slice_get (slice_set xs i x) i ≡ Some x
get_set_same [] i x h = cc
get_set_same (y ∷ ys) zero x h = refl
get_set_same (y ∷ ys) (suc i) x h = get_set_same ys i x h

get_set_other : {X : Type 0} (xs : List X) (i j : ℕ) (x : X) → (j ≡ i → ⊥) → slice_get (slice_set xs i x) j ≡ slice_get xs j
get_set_other [] i j x h = refl
get_set_other (y ∷ ys) zero zero x h = absurd (h refl)
get_set_other (y ∷ ys) zero (suc j) x h = refl
get_set_other (y ∷ ys) (suc i) zero x h = refl
get_set_other (y ∷ ys) (suc i) (suc j) x h = get_set_other ys i j x (λ e. h (ap (λ n. suc n) e))

picked_set : (b : Bool) (courses : List Course) (i : ℕ) (c : Course) → IsSome (if b then None else slice_get courses i) →
    unwrap_or (if b then None else slice_get (if b then courses else slice_set courses i c) i) (new_course 0) ≡ c
picked_set true courses i c h = cc
picked_set false courses i c h = ap (λ o. unwrap_or o (new_course 0)) (get_set_same courses i c h)

-- the thread's own course was set
pub course_set : (courses : List Course) (t : ℕ) (c : Course) → IsSome (if t == 0 then None else slice_get courses (t - 1)) → course_in (with_course courses t c) t ≡ c
course_set courses t c h = picked_set (t == 0) courses (t - 1) c h

picked_kept : (a b : Bool) (courses : List Course) (i j : ℕ) (c : Course) → IsSome (if a then None else slice_get courses i) → (a ≡ false → b ≡ false → j ≡ i → ⊥) →
    unwrap_or (if b then None else slice_get (if a then courses else slice_set courses i c) j) (new_course 0) ≡ unwrap_or (if b then None else slice_get courses j) (new_course 0)
picked_kept true b courses i j c h d = cc
picked_kept false true courses i j c h d = refl
picked_kept false false courses i j c h d = ap (λ o. unwrap_or o (new_course 0)) (get_set_other courses i j c (d refl refl))

apart_below : (t u : ℕ) → (u ≡ t → ⊥) → (t == 0) ≡ false → (u == 0) ≡ false → u - 1 ≡ t - 1 → ⊥
apart_below t u d a b e = grind (arith, nat_tests)

-- that of another thread stays
pub course_kept : (courses : List Course) (t u : ℕ) (c : Course) → IsSome (if t == 0 then None else slice_get courses (t - 1)) → (u ≡ t → ⊥) → course_in (with_course courses t c) u ≡ course_in courses u
course_kept courses t u c h d = picked_kept (t == 0) (u == 0) courses (t - 1) (u - 1) c h (apart_below t u d)

-- ---- how many commands are answered, and whether the next is made

-- both are as they were
abbrev pub IsAsFar : Course → Course → Type 0
IsAsFar c d = (d.answered ≡ c.answered) × (d.made ≡ c.made)

pub fail_keeps : (b : BufId) (d : Deny) (c : Course) → IsAsFar c (with_fail b d c)
fail_keeps b d c = by (is_caught c b) refl
  where
    by : (q : Bool) → is_caught c b ≡ q → IsAsFar c (with_fail b d c)
    by true e = (simp e, simp e)
    by false e = (simp e, simp e)

pub search_keeps : (b : BufId) (c : Course) → IsAsFar c (search_over b c)
search_keeps b c = by (is_caught c b) refl
  where
    by : (q : Bool) → is_caught c b ≡ q → IsAsFar c (search_over b c)
    by true e = (simp e, simp e)
    by false e = (simp e, simp e)

pub dry_keeps : (script : Script) (s : State) (b : BufId) (k : ℕ) (cmd : Option Command) (c : Course) → IsAsFar c (course_after_dry script s b k cmd c)
dry_keeps script s b k None c = (refl, refl)
dry_keeps script s b k (Some cmd) c = by (is_caught c b) refl
  where
    by : (q : Bool) → is_caught c b ≡ q → IsAsFar c (course_after_dry script s b k (Some cmd) c)
    by true e = (simp e, simp e)
    by false e = (simp e, simp e)

-- ---- the course of the thread that makes an entry

-- the course after an entry of its thread
abbrev pub next_course : Script → State → ℕ → Kind → Course
next_course script s t (kind.Ticket stamp) = record (course s t) { stamp = Some stamp }
next_course script s t (kind.Reserve b) = record (course s t) { held = (course s t).held ++ b ∷ [] }
next_course script s t (kind.Backoff b stamp) = record (course s t) { held = []; first = Some b }
next_course script s t (kind.New b) = has_made (course s t)
next_course script s t (kind.Free b g) = has_made (record (course s t) { held = without_buffer (course s t).held b })
next_course script s t (kind.Take b mem spans) = search_over b (course s t)
next_course script s t (kind.Catch b w) = with_victim b w (course s t)
next_course script s t (kind.Loose b) = no_longer_caught b (course s t)
next_course script s t (kind.Skip b) = with_skip b (no_longer_caught b (course s t))
next_course script s t (kind.Dry b k w) = course_after_dry script s b k (command_at_work script s t) (course s t)
next_course script s t (kind.NoPages b) = with_fail b deny.NoPages (course s t)
next_course script s t (kind.Arm engine n) = has_made (course s t)
next_course script s t (kind.Bulk group) = has_made (course s t)
next_course script s t (kind.Result shown) = on_to_next (course s t)
next_course script s t (kind.Refused d) = on_to_next (course s t)
next_course script s t _ = course s t

-- an entry sets the course of its thread, or leaves all courses alone
pub courses_after : (script : Script) (s : State) (t : ℕ) (k : Kind) → ((applied script s (actor.Thread t) k).courses ≡ with_course s.courses t (next_course script s t k)) ⊎ (((applied script s (actor.Thread t) k).courses ≡ s.courses) × (next_course script s t k ≡ course s t))
courses_after script s t (kind.Untake b mem) = inr (refl, refl)
courses_after script s t (kind.Populate b page frame) = inr (refl, refl)
courses_after script s t (kind.SwapIn b page slot frame) = inr (refl, refl)
courses_after script s t (kind.Depopulate b) = inr (refl, refl)
courses_after script s t (kind.Bind b) = inr (refl, refl)
courses_after script s t (kind.Unbind b) = inr (refl, refl)
courses_after script s t (kind.Move b mem n l) = inr (refl, refl)
courses_after script s t (kind.SwapOut b page slot) = inr (refl, refl)
courses_after script s t (kind.Packet n k piece) = inr (refl, refl)
courses_after script s t (kind.Done n) = inr (refl, refl)
courses_after script s t (kind.Reap g) = inr (refl, refl)
courses_after script s t k = inl refl

pub own_course : (script : Script) (s : State) (t : ℕ) (k : Kind) → IsSome (course_of s t) → course (applied script s (actor.Thread t) k) t ≡ next_course script s t k
own_course script s t k here =
    ⊎_elim
    (λ e. ap (λ cs. course_in cs t) e ∙ course_set s.courses t _ here)
    (λ e. ap (λ cs. course_in cs t) e.0 ∙ sym e.1)
    (courses_after script s t k)

-- the other threads
pub others_kept : (script : Script) (s : State) (t u : ℕ) (k : Kind) → IsSome (course_of s t) → (u ≡ t → ⊥) → course (applied script s (actor.Thread t) k) u ≡ course s u
others_kept script s t u k here other =
    ⊎_elim
    (λ e. ap (λ cs. course_in cs u) e ∙ course_kept s.courses t u _ here other)
    (λ e. ap (λ cs. course_in cs u) e.0)
    (courses_after script s t k)

-- one more, if it is so
abbrev pub one_more_if : Bool → ℕ → ℕ
one_more_if true n = n + 1
one_more_if false n = n

next_answered : (script : Script) (s : State) (t : ℕ) (k : Kind) → (next_course script s t k).answered ≡ one_more_if (is_answer k) (course s t).answered
next_answered script s t (kind.Take b mem spans) = (search_keeps b (course s t)).0
next_answered script s t (kind.Dry b k w) = (dry_keeps script s b k (command_at_work script s t) (course s t)).0
next_answered script s t (kind.NoPages b) = (fail_keeps b deny.NoPages (course s t)).0
next_answered script s t k = refl

pub own_answered : (script : Script) (s : State) (t : ℕ) (k : Kind) → IsSome (course_of s t) → (course (applied script s (actor.Thread t) k) t).answered ≡ one_more_if (is_answer k) (course s t).answered
own_answered script s t k here = ap (λ c. c.answered) (own_course script s t k here) ∙ next_answered script s t k

-- engines and the reaper leave all courses alone
pub engine_keeps : (script : Script) (s : State) (who : Actor) (k : Kind) → is_of_engine k ≡ true → (applied script s who k).courses ≡ s.courses
engine_keeps script s who (kind.Packet n k piece) h = cc
engine_keeps script s who k h = cc

pub reaper_keeps : (script : Script) (s : State) (who : Actor) (k : Kind) → is_of_reaper k ≡ true → (applied script s who k).courses ≡ s.courses
reaper_keeps script s who (kind.Reap g) h = cc
reaper_keeps script s who k h = cc
