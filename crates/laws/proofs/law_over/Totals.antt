-- A complete journal has as many results and refusals as the script has commands.
use Rattle.std.proofs.Common.{◌≡◌, ℕ, ◌+◌, ◌-◌, ◌<◌, ◌≤◌, zero, suc, Bool, true, false, cond, List, [], ◌∷◌, Option, Some, None, Ok, ◌⊎◌, inl, inr, refl, sym, ◌∙◌, ap, subst, length, arith}
use Rattle.std.specs.Prelude.{◌&&◌, ◌==◌, count_by, sum_by, slice_get, unwrap_or, if◌then◌else◌}
use Rattle.std.specs.List.{list_all}
use Rattle.std.specs.Option.{option_and_then}
use Rattle.std.proofs.lemmas.Bool.{cases_lt, eqb-true}
use Rattle.std.proofs.lemmas.Bool.Decides.{nat_tests}
use Rattle.std.proofs.lemmas.Grind.{common_steps}
use Rattle.std.proofs.lemmas.List.Sums.{sum_by-cons}
use Rattle.std.proofs.lemmas.Option.{slice_get_past}
use Rattle.ttm_base.specs.declared.Actor.{Actor}
use Rattle.ttm_base.specs.declared.Actor.TheVariants as actor
use Rattle.ttm_base.specs.ListWords.{count_from}
use Rattle.journal_model.specs.declared.script.Script.{Script}
use Rattle.journal_model.specs.declared.script.Command.{Command}
use Rattle.journal_model.specs.declared.state.State.{State}
use Rattle.journal_model.specs.declared.state.Course.{Course}
use Rattle.journal_model.specs.declared.entry.Entry.{Entry}
use Rattle.journal_model.specs.declared.entry.Kind.{Kind}
use Rattle.journal_model.specs.rules.State.{course_of}
use Rattle.journal_model.specs.rules.Stores.{Stores, showing}
use Rattle.journal_model.specs.rules.Commands.{commands_of, command_at_work}
use Rattle.journal_model.specs.rules.Next.{next}
use Rattle.journal_model.specs.statements.Complete.{is_answer, is_by_thread, answers_of, is_complete, thread_numbers}
use Rattle.journal_model.specs.rules.Legal.{World, first_world, world_after, IsLegalNext, IsLegalFrom, IsLegal, state_of}
use Rattle.laws.proofs.law_state.JournalCourses.{of_engine, of_reaper, is_of_engine, is_of_reaper}
use Rattle.laws.proofs.law_state.Shown.{LegalStep, legal_step}
use Rattle.laws.proofs.law_over.Stops.{no_commands, three}

both : (a b : Bool) → (a && b) ≡ true → (a ≡ true) × (b ≡ true)
both true true h = (refl, refl)
both true false h = cc
both false b h = cc

-- ---- sums

pub sum_same : {X : Type 0} (f g : X → ℕ) (xs : List X) → ((x : X) → f x ≡ g x) → sum_by f xs ≡ sum_by g xs
sum_same f g [] h = refl
sum_same f g (x ∷ xs) h =
    let here = h x in
    let rest = sum_same f g xs h in
    let left = sum_by-cons f x xs in
    let right = sum_by-cons g x xs in
    omega (arith, here, rest, left, right)

sum_both : {X : Type 0} (f g : X → ℕ) (xs : List X) → sum_by (λ x. f x + g x) xs ≡ sum_by f xs + sum_by g xs
sum_both f g [] = refl
sum_both f g (x ∷ xs) =
    let rest = sum_both f g xs in
    let both = sum_by-cons (λ y. f y + g y) x xs in
    let left = sum_by-cons f x xs in
    let right = sum_by-cons g x xs in
    omega (arith, rest, both, left, right)

sum_none : {X : Type 0} (f : X → ℕ) (xs : List X) → ((x : X) → f x ≡ 0) → sum_by f xs ≡ 0
sum_none f [] h = refl
sum_none f (x ∷ xs) h =
    let here = h x in
    let rest = sum_none f xs h in
    let sum = sum_by-cons f x xs in
    omega (arith, here, rest, sum)

-- 1 for a test that holds
abbrev pub number_of : Bool → ℕ
number_of b = cond b 1 0

-- 1 for the number t, where the test holds
abbrev one_at : Bool → ℕ → ℕ → ℕ
one_at b t u = number_of ((t == u) && b)

one_here : (b : Bool) (t : ℕ) → one_at b t t ≡ number_of b
one_here b t = let same : (t == t) ≡ true = grind (arith, nat_tests) in ap (λ q. number_of (q && b)) same

none_there : (b : Bool) (t u : ℕ) → t < u → one_at b t u ≡ 0
none_there b t u lt = let other : (t == u) ≡ false = grind (arith, nat_tests) in ap (λ q. number_of (q && b)) other

none_before : (b : Bool) (t u : ℕ) → u < t → one_at b t u ≡ 0
none_before b t u lt = let other : (t == u) ≡ false = grind (arith, nat_tests) in ap (λ q. number_of (q && b)) other

none_behind : (b : Bool) (t n start : ℕ) → t < start → sum_by (one_at b t) (count_from 1 n start) ≡ 0
none_behind b t zero start lt = refl
none_behind b t (suc n) start lt =
    let here = none_there b t start lt in
    let rest = none_behind b t n (1 + start) (omega (arith, lt)) in
    let sum = sum_by-cons (one_at b t) start (count_from 1 n (1 + start)) in
    omega (arith, here, rest, sum)

-- a number of a count stands once in it
one_of_count : (b : Bool) (t n start : ℕ) → start ≤ t → t < start + n → sum_by (one_at b t) (count_from 1 n start) ≡ number_of b
one_of_count b t zero start low high = absurd (omega (arith, low, high))
one_of_count b t (suc n) start low high =
    elim (cases_lt start t) as (λ _. sum_by (one_at b t) (count_from 1 (suc n) start) ≡ number_of b) [
      | inl lt ↦
          let here = none_before b t start lt in
          let rest = one_of_count b t n (1 + start) (omega (arith, lt)) (omega (arith, high)) in
          sum ∙ ap (λ m. m + sum_by (one_at b t) (count_from 1 n (1 + start))) here ∙ (let z : 0 + sum_by (one_at b t) (count_from 1 n (1 + start)) ≡ sum_by (one_at b t) (count_from 1 n (1 + start)) = omega arith in z) ∙ rest
      | inr ge ↦
          let same : start ≡ t = omega (arith, low, ge) in
          let here : one_at b t start ≡ number_of b = subst (λ u. one_at b t u ≡ number_of b) (sym same) (one_here b t) in
          let rest = none_behind b t n (1 + start) (omega (arith, ge)) in
          sum ∙ ap (λ m. m + sum_by (one_at b t) (count_from 1 n (1 + start))) here ∙ ap (λ m. number_of b + m) rest ∙ (let z : number_of b + 0 ≡ number_of b = omega arith in z)
    ]
  where
    sum : sum_by (one_at b t) (count_from 1 (suc n) start) ≡ one_at b t start + sum_by (one_at b t) (count_from 1 n (1 + start))
    sum = sum_by-cons (one_at b t) start (count_from 1 n (1 + start))

-- ---- who answers

-- a thread without commands has no entry
stops_without : (script : Script) (s : State) (t : ℕ) (k : Kind) → commands_of script t ≡ [] → next script s (actor.Thread t) ≡ Ok k → ⊥
stops_without script s t k empty step = by_course (course_of s t) refl
  where
    by_course : (o : Option Course) → course_of s t ≡ o → ⊥
    by_course None e =
        let idle : command_at_work script s t ≡ None = ap (option_and_then (λ c. slice_get (commands_of script t) c.answered)) e in
        grind (arith, common_steps)
    by_course (Some c) e =
        let idle : command_at_work script s t ≡ None = ap (option_and_then (λ d. slice_get (commands_of script t) d.answered)) e ∙ ap (λ (cs : List Command). slice_get cs c.answered) empty in
        grind (arith, common_steps)

-- a thread that has an entry is one of the script
one_of_script : (script : Script) (s : State) (t : ℕ) (k : Kind) → next script s (actor.Thread t) ≡ Ok k → (1 ≤ t) × (t < 1 + length script.threads)
one_of_script script s zero k step = absurd (stops_without script s zero k refl step)
one_of_script script s (suc t) k step = by_order (cases_lt t (length script.threads))
  where
    by_order : (t < length script.threads) ⊎ (length script.threads ≤ t) → (1 ≤ suc t) × (suc t < 1 + length script.threads)
    by_order (inl lt) = (omega arith, omega (arith, lt))
    by_order (inr ge) = absurd (stops_without script s (suc t) k (no_commands script t (slice_get_past script.threads t ge)) step)

packets_no_answer : (script : Script) (stores : Stores) (s : State) (who : Actor) (k : Kind) → is_of_engine k ≡ true → is_answer (showing script stores s who k) ≡ false
packets_no_answer script stores s who k h = grind (arith, common_steps)

reaps_no_answer : (script : Script) (stores : Stores) (s : State) (who : Actor) (k : Kind) → is_of_reaper k ≡ true → is_answer (showing script stores s who k) ≡ false
reaps_no_answer script stores s who k h = grind (arith, common_steps)

-- 1 for an answer
abbrev answer_at : Entry → ℕ
answer_at e = number_of (is_answer e.kind)

-- 1 for an answer of the thread
abbrev answer_of_at : Entry → ℕ → ℕ
answer_of_at e u = number_of (is_by_thread u e.who && is_answer e.kind)

no_number : (q b : Bool) → b ≡ false → number_of (q && b) ≡ 0
no_number true b h = ap number_of h
no_number false b h = refl

-- no answer, whoever made the entry
nobody : (script : Script) (e : Entry) → is_answer e.kind ≡ false → answer_at e ≡ sum_by (answer_of_at e) (thread_numbers script)
nobody script e none =
    ap number_of none ∙ sym (sum_none (answer_of_at e) (thread_numbers script) (λ u. no_number (is_by_thread u e.who) (is_answer e.kind) none))

-- one legal entry counts for one thread of the script, if it is an answer
entry_once : (script : Script) (w : World) (e : Entry) → IsLegalNext script w e → answer_at e ≡ sum_by (answer_of_at e) (thread_numbers script)
entry_once script w e h = by_actor e.who refl
  where
    l : LegalStep script w e
    l = legal_step script w e h

    by_actor : (who : Actor) → e.who ≡ who → answer_at e ≡ sum_by (answer_of_at e) (thread_numbers script)
    by_actor (actor.Thread t) is =
        let step : next script w.state (actor.Thread t) ≡ Ok l.kind = ap (next script w.state) (sym is) ∙ l.step in
        let range = one_of_script script w.state t l.kind step in
        sym (one_of_count (is_answer e.kind) t (length script.threads) 1 range.0 range.1)
        ∙ sum_same (one_at (is_answer e.kind) t) (answer_of_at e) (thread_numbers script) (λ u. ap (λ a. number_of (is_by_thread u a && is_answer e.kind)) (sym is))
    by_actor (actor.Engine ctx) is =
        let step : next script w.state (actor.Engine ctx) ≡ Ok l.kind = ap (next script w.state) (sym is) ∙ l.step in
        nobody script e (ap (λ f. is_answer f.kind) l.entry ∙ packets_no_answer script w.stores w.state e.who l.kind (of_engine script w.state ctx l.kind step))
    by_actor actor.Reaper is =
        let step : next script w.state actor.Reaper ≡ Ok l.kind = ap (next script w.state) (sym is) ∙ l.step in
        nobody script e (ap (λ f. is_answer f.kind) l.entry ∙ reaps_no_answer script w.stores w.state e.who l.kind (of_reaper script w.state l.kind step))

-- ---- along a journal

answers_once : (script : Script) (w : World) (es : List Entry) → IsLegalFrom script w es
    → count_by (λ e. is_answer e.kind) es ≡ sum_by (λ u. answers_of u es) (thread_numbers script)
answers_once script w [] h = sym (sum_none (λ u. answers_of u []) (thread_numbers script) (λ u. refl))
answers_once script w (e ∷ es) h =
    let rest = answers_once script (world_after script w e) es h.1 in
    let here = entry_once script w e h.0 in
    let all = sum_by-cons answer_at e es in
    let each = sum_same (λ u. answers_of u (e ∷ es)) (λ u. answer_of_at e u + answers_of u es) (thread_numbers script) (λ u. sum_by-cons (λ f. answer_of_at f u) e es) in
    let parts = sum_both (answer_of_at e) (λ u. answers_of u es) (thread_numbers script) in
    all ∙ ap (λ n. n + count_by (λ f. is_answer f.kind) es) here ∙ ap (λ n. sum_by (answer_of_at e) (thread_numbers script) + n) rest ∙ sym parts ∙ sym each

-- ---- how many commands there are

same_sums : (f g : ℕ → ℕ) (ts : List ℕ) → list_all (λ t. f t == g t) ts ≡ true → sum_by f ts ≡ sum_by g ts
same_sums f g [] h = refl
same_sums f g (t ∷ ts) h =
    let here : f t ≡ g t = eqb-true (f t) (g t) (both (f t == g t) (list_all (λ u. f u == g u) ts) h).0 in
    let rest = same_sums f g ts (both (f t == g t) (list_all (λ u. f u == g u) ts) h).1 in
    let left = sum_by-cons f t ts in
    let right = sum_by-cons g t ts in
    omega (arith, here, rest, left, right)

-- a sum over the numbers of a list is one over the list
over_numbers : (cs : List (List Command)) (start : ℕ) (g : ℕ → ℕ) → ((i : ℕ) → g (start + i) ≡ length (unwrap_or (slice_get cs i) []))
    → sum_by g (count_from 1 (length cs) start) ≡ sum_by length cs
over_numbers [] start g h = refl
over_numbers (c ∷ cs) start g h =
    let first : g start ≡ length c = ap g (let z : start ≡ start + 0 = omega arith in z) ∙ h 0 in
    let rest = over_numbers cs (1 + start) g (λ i. ap g (let z : 1 + start + i ≡ start + suc i = omega arith in z) ∙ h (suc i)) in
    let left = sum_by-cons g start (count_from 1 (length cs) (1 + start)) in
    let right = sum_by-cons length c cs in
    omega (arith, first, rest, left, right)

commands_by_number : (script : Script) (i : ℕ) → length (commands_of script (1 + i)) ≡ length (unwrap_or (slice_get script.threads i) [])
commands_by_number script i =
    let past : (1 + i == 0) ≡ false = grind (arith, nat_tests) in
    let behind : 1 + i - 1 ≡ i = omega arith in
    ap (λ b. length (if b then [] else unwrap_or (slice_get script.threads (1 + i - 1)) [])) past ∙ ap (λ n. length (unwrap_or (slice_get script.threads n) [])) behind

pub all_answered : (script : Script) (journal : List Entry) → IsLegal script journal → is_complete script journal ≡ true
    → count_by (λ e. is_answer e.kind) journal ≡ sum_by length script.threads
all_answered script journal h complete =
    let answered = (three (list_all (λ t. answers_of t journal == length (commands_of script t)) (thread_numbers script)) (list_all (λ j. j.finished) (state_of script journal).core.jobs) (length (state_of script journal).core.ghosts == 0) complete).0 in
    answers_once script (first_world script) journal h
    ∙ same_sums (λ t. answers_of t journal) (λ t. length (commands_of script t)) (thread_numbers script) answered
    ∙ over_numbers script.threads 1 (λ t. length (commands_of script t)) (commands_by_number script)
