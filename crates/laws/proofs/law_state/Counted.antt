-- Each command is answered once, in order.
use Rattle.std.proofs.Common.{◌≡◌, ℕ, ◌+◌, ◌-◌, zero, suc, Bool, true, false, List, [], ◌∷◌, None, IsSome, Ok, ◌⊎◌, inl, inr, refl, sym, ◌∙◌, ap, ap₂, subst, arith}
use Rattle.std.specs.Prelude.{count_by, cond, ◌&&◌, ◌==◌, if◌then◌else◌, map, unwrap_or, slice_get, length}
use Rattle.std.specs.List.{list_all}
use Rattle.std.proofs.lemmas.Bool.Decides.{nat_tests}
use Rattle.std.proofs.lemmas.Bool.{cases_eq}
use Rattle.std.proofs.lemmas.List.Sums.{sum_by-cons}
use Rattle.ttm_base.specs.declared.Actor.{Actor}
use Rattle.ttm_base.specs.declared.Actor.TheVariants as actor
use Rattle.journal_model.specs.declared.script.Script.{Script}
use Rattle.journal_model.specs.declared.state.State.{State}
use Rattle.journal_model.specs.declared.entry.Entry.{Entry}
use Rattle.journal_model.specs.declared.entry.Kind.{Kind}
use Rattle.journal_model.specs.declared.entry.Kind.TheVariants as kind
use Rattle.journal_model.specs.rules.State.{course, course_of, new_course}
use Rattle.journal_model.specs.rules.Stores.{Stores, showing}
use Rattle.journal_model.specs.rules.Next.{next}
use Rattle.journal_model.specs.rules.Apply.{applied}
use Rattle.journal_model.specs.statements.Complete.{is_answer, is_by_thread, answers_of, is_over, is_complete, thread_numbers, has_answered}
use Rattle.journal_model.specs.rules.Commands.{commands_of}
use Rattle.journal_model.specs.rules.Legal.{World, first_world, world_after, world_along, state_of, IsLegalNext, IsLegalFrom, IsLegal}
use Rattle.laws.proofs.law_state.Shown.{legal_step}
use Rattle.laws.proofs.law_state.JournalCourses.{of_engine, of_reaper, thread_is_there, one_more_if, own_answered, others_kept, engine_keeps, reaper_keeps, course_in}

-- what is shown doesn't make an answer
shown_answers : (script : Script) (stores : Stores) (s : State) (who : Actor) (k : Kind) → is_answer (showing script stores s who k) ≡ is_answer k
shown_answers script stores s who (kind.Result r) = refl
shown_answers script stores s who k = refl

-- an entry counts for a thread
abbrev counts_for : ℕ → Entry → Bool
counts_for t e = is_by_thread t e.who && is_answer e.kind

same_thread : (t : ℕ) → (t == t) ≡ true
same_thread t = grind (arith, nat_tests)

other_thread : (t u : ℕ) → (u ≡ t → ⊥) → (t == u) ≡ false
other_thread t u d = grind (arith, nat_tests)

one_more_is : (b : Bool) (n : ℕ) → one_more_if b n ≡ n + cond b 1 0
one_more_is true n = refl
one_more_is false n = omega arith

-- one entry, by its actor and kind
step_counts : (script : Script) (s : State) (stores : Stores) (who : Actor) (k : Kind) (u : ℕ) → next script s who ≡ Ok k →
    (course (applied script s who k) u).answered ≡ (course s u).answered + cond (is_by_thread u who && is_answer (showing script stores s who k)) 1 0
step_counts script s stores (actor.Thread t) k u h = by_same (cases_eq u t)
  where
    here : IsSome (course_of s t)
    here = thread_is_there script s t k h

    by_same : (u ≡ t) ⊎ (u ≡ t → ⊥) → (course (applied script s (actor.Thread t) k) u).answered ≡ (course s u).answered + cond ((t == u) && is_answer (showing script stores s (actor.Thread t) k)) 1 0
    by_same (inl e) =
        subst (λ v. (course (applied script s (actor.Thread t) k) v).answered ≡ (course s v).answered + cond ((t == v) && is_answer (showing script stores s (actor.Thread t) k)) 1 0)
        (sym e)
        (own_answered script s t k here ∙ (one_more_is (is_answer k) (course s t).answered
        ∙ ap (λ b. (course s t).answered + cond b 1 0) (sym (ap (λ q. q && is_answer (showing script stores s (actor.Thread t) k)) (same_thread t) ∙ shown_answers script stores s (actor.Thread t) k))))
    by_same (inr d) =
        ap (λ c. c.answered) (others_kept script s t u k here d)
        ∙ (let z : (course s u).answered ≡ (course s u).answered + 0 = omega arith in z)
        ∙ ap (λ q. (course s u).answered + cond (q && is_answer (showing script stores s (actor.Thread t) k)) 1 0) (sym (other_thread t u d))
step_counts script s stores (actor.Engine e) k u h =
    ap (λ cs. (course_in cs u).answered) (engine_keeps script s (actor.Engine e) k (of_engine script s e k h)) ∙ (let z : (course s u).answered ≡ (course s u).answered + 0 = omega arith in z)
step_counts script s stores actor.Reaper k u h =
    ap (λ cs. (course_in cs u).answered) (reaper_keeps script s actor.Reaper k (of_reaper script s k h)) ∙ (let z : (course s u).answered ≡ (course s u).answered + 0 = omega arith in z)

-- one legal entry
entry_counts : (script : Script) (w : World) (e : Entry) (u : ℕ) → IsLegalNext script w e →
    (course (world_after script w e).state u).answered ≡ (course w.state u).answered + cond (counts_for u e) 1 0
entry_counts script w e u h =
    let l = legal_step script w e h in
    ap (λ s. (course s u).answered) l.state
    ∙ step_counts script w.state w.stores e.who l.kind u l.step
    ∙ ap (λ f. (course w.state u).answered + cond (counts_for u f) 1 0) (sym l.entry)

along_counts : (script : Script) (w : World) (es : List Entry) (u : ℕ) → IsLegalFrom script w es →
    (course (world_along script w es).state u).answered ≡ (course w.state u).answered + count_by (counts_for u) es
along_counts script w [] u h = omega arith
along_counts script w (e ∷ es) u h =
    let rest : (course (world_along script w (e ∷ es)).state u).answered ≡ (course (world_after script w e).state u).answered + count_by (counts_for u) es = along_counts script (world_after script w e) es u h.1 in
    let one : (course (world_after script w e).state u).answered ≡ (course w.state u).answered + cond (counts_for u e) 1 0 = entry_counts script w e u h.0 in
    let sum : count_by (counts_for u) (e ∷ es) ≡ cond (counts_for u e) 1 0 + count_by (counts_for u) es = sum_by-cons (λ x. cond (counts_for u x) 1 0) e es in
    omega (arith, rest, one, sum)

-- at the start no thread has answered a command
new_answered : {X : Type 0} (xs : List X) (i : ℕ) → (unwrap_or (slice_get (map (λ x. new_course 0) xs) i) (new_course 0)).answered ≡ 0
new_answered [] i = refl
new_answered (x ∷ xs) zero = refl
new_answered (x ∷ xs) (suc i) = new_answered xs i

first_answered : (script : Script) (u : ℕ) → (course (first_world script).state u).answered ≡ 0
first_answered script u = picked (u == 0)
  where
    picked : (b : Bool) → (unwrap_or (if b then None else slice_get (map (λ x. new_course 0) script.threads) (u - 1)) (new_course 0)).answered ≡ 0
    picked true = refl
    picked false = new_answered script.threads (u - 1)

pub counted_law : (script : Script) (journal : List Entry) (u : ℕ) → IsLegal script journal → (course (state_of script journal) u).answered ≡ answers_of u journal
counted_law script journal u h =
    let a : (course (state_of script journal) u).answered ≡ (course (first_world script).state u).answered + answers_of u journal = along_counts script (first_world script) journal u h in
    let b : (course (first_world script).state u).answered ≡ 0 = first_answered script u in
    omega (arith, a, b)

-- the threads' tests agree
tests_agree : (script : Script) (journal : List Entry) → IsLegal script journal → (ts : List ℕ) →
    list_all (has_answered script (state_of script journal)) ts ≡ list_all (λ t. answers_of t journal == length (commands_of script t)) ts
tests_agree script journal h [] = refl
tests_agree script journal h (t ∷ ts) =
    ap₂ (λ n q. (n == length (commands_of script t)) && q) (counted_law script journal t h) (tests_agree script journal h ts)

pub over_law : (script : Script) (journal : List Entry) → IsLegal script journal → is_over script (state_of script journal) ≡ is_complete script journal
over_law script journal h =
    ap (λ q. q && list_all (λ j. j.finished) (state_of script journal).core.jobs && (length (state_of script journal).core.ghosts == 0))
    (tests_agree script journal h (thread_numbers script))
