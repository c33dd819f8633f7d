-- Who has an entry stands in the simulator's own order; and where all is over nobody has one.
use Rattle.std.proofs.Common.{◌≡◌, ℕ, ◌<◌, ◌≤◌, ◌+◌, ◌-◌, zero, suc, Bool, true, false, List, [], ◌∷◌, ◌++◌, length, Option, Some, None, Result, Ok, Err, IsTrue, IsSome, refl, sym, ◌∙◌, ap, subst, arith, ◌⊎◌, inl, inr, ⊎_elim}
use Rattle.std.specs.Prelude.{◌↔◌, slice_get, map, filter, filter_map, find, cond, option_map, option_and_then, is_none, is_ok, nat_le, ◌==◌, ◌&&◌, not, if◌then◌else◌}
use Rattle.std.specs.List.{list_all, cons_option}
use Rattle.std.proofs.lemmas.Bool.{cases_eq, and_parts}
use Rattle.std.proofs.lemmas.Bool.Decides.{nat_tests}
use Rattle.ttm_base.specs.ListWords.{count_from}
use Rattle.ttm_base.specs.declared.Stamp.{Stamp}
use Rattle.ttm_base.specs.declared.Need.TheVariants as need
use Rattle.ttm_base.specs.declared.Actor.{Actor}
use Rattle.ttm_base.specs.declared.Actor.TheVariants as actor
use Rattle.journal_model.specs.declared.script.Script.{Script}
use Rattle.journal_model.specs.declared.script.Command.{Command}
use Rattle.journal_model.specs.declared.state.State.{State}
use Rattle.journal_model.specs.declared.state.Job.{Job}
use Rattle.journal_model.specs.declared.state.Ghost.{Ghost}
use Rattle.journal_model.specs.declared.state.Course.{Course}
use Rattle.journal_model.specs.declared.entry.Kind.{Kind}
use Rattle.journal_model.specs.declared.entry.Kind.TheVariants as kind
use Rattle.journal_model.specs.declared.entry.Entry.{Entry}
use Rattle.journal_model.specs.rules.State.{course, course_of}
use Rattle.journal_model.specs.rules.Commands.{commands_of, command_at_work}
use Rattle.journal_model.specs.scripts.ScriptRules.{is_script}
use Rattle.journal_model.specs.rules.Search.{Step}
use Rattle.journal_model.specs.rules.PageSteps.{unless_waiting}
use Rattle.journal_model.specs.rules.Waits.{waited_for}
use Rattle.journal_model.specs.rules.Next.{next, head_of, step_of_job, step_of_engine, step_of_task}
use Rattle.journal_model.specs.rules.Tasks.{task_of}
use Rattle.journal_model.specs.statements.Complete.{is_over, is_complete, has_answered, thread_numbers}
use Rattle.journal_model.specs.statements.DeadEnd.{can_step}
use Rattle.journal_model.specs.rules.Legal.{IsLegal, state_of}
use Rattle.journal_model.specs.statements.Scheduled.{Ticketed, ticketed, by_stamp, sorted_by_stamp, own_order}
use Rattle.laws.proofs.law_state.Counted.{over_law}
use Rattle.laws.proofs.law_state.JournalCourses.{thread_is_there}
use Rattle.laws.specs.law_sound.Sound.{Sound, SomeGoesOn, command_of}
use Rattle.laws.proofs.law_sound.DeadEnds.{command_is, no_dead_end}
use Rattle.laws.specs.law_sound.Orders.{FindsOne}
use Rattle.laws.proofs.law_sound.Bufs.{found_passes, clash}
use Rattle.laws.proofs.law_sound.Along.{sound_law, goes_on_law}

-- ---- elements of lists

abbrev pub In : {X : Type 0} → X → List X → Type 0
In x [] = ⊥
In x (y ∷ ys) = (x ≡ y) ⊎ In x ys

in_left : {X : Type 0} (x : X) (xs ys : List X) → In x xs → In x (xs ++ ys)
in_left x [] ys h = absurd h
in_left x (z ∷ xs) ys (inl e) = inl e
in_left x (z ∷ xs) ys (inr h) = inr (in_left x xs ys h)

in_right : {X : Type 0} (x : X) (xs ys : List X) → In x ys → In x (xs ++ ys)
in_right x [] ys h = h
in_right x (z ∷ xs) ys h = inr (in_right x xs ys h)

in_map : {X Y : Type 0} (f : X → Y) (x : X) (xs : List X) → In x xs → In (f x) (map f xs)
in_map f x [] h = absurd h
in_map f x (z ∷ xs) (inl e) = inl (ap f e)
in_map f x (z ∷ xs) (inr h) = inr (in_map f x xs h)

in_count : (t n from : ℕ) → from ≤ t → t < from + n → In t (count_from 1 n from)
in_count t zero from a b = absurd (omega arith)
in_count t (suc n) from a b =
    ⊎_elim (λ e. inl e) (λ d. let e : t ≡ from → ⊥ = d in inr (in_count t n (1 + from) (grind arith) (omega arith))) (cases_eq t from)

in_filter : {X : Type 0} (p : X → Bool) (x : X) (xs : List X) → In x xs → p x ≡ true → In x (filter p xs)
in_filter p x [] h k = absurd h
in_filter p x (z ∷ xs) h k = by (p z) refl h (λ w. in_filter p x xs w k)
  where
    by : (q : Bool) → p z ≡ q → In x (z ∷ xs) → (In x xs → In x (filter p xs)) → In x (cond q (z ∷ filter p xs) (filter p xs))
    by true e (inl w) rest = inl w
    by true e (inr w) rest = inr (rest w)
    by false e (inl w) rest = absurd (clash (sym k ∙ (ap p w ∙ e)))
    by false e (inr w) rest = rest w

in_filter_map : {X Y : Type 0} (f : X → Option Y) (x : X) (y : Y) (xs : List X) → In x xs → f x ≡ Some y → In y (filter_map f xs)
in_filter_map {X = X} {Y = Y} f x y [] h k = absurd h
in_filter_map {X = X} {Y = Y} f x y (z ∷ xs) h k = by (f z) refl h (λ w. in_filter_map f x y xs w k)
  where
    by : (o : Option Y) → f z ≡ o → In x (z ∷ xs) → (In x xs → In y (filter_map f xs)) → In y (cons_option o (filter_map f xs))
    by None e (inl w) rest = absurd (let it : Some y ≡ None = sym k ∙ (ap f w ∙ e) in cc)
    by None e (inr w) rest = rest w
    by (Some v) e (inl w) rest = inl (let it : Some y ≡ Some v = sym k ∙ (ap f w ∙ e) in cc)
    by (Some v) e (inr w) rest = inr (rest w)

in_put : (x t : Ticketed) (us : List Ticketed) → (x ≡ t) ⊎ In x us → In x (by_stamp t us)
in_put x t [] (inl e) = inl e
in_put x t [] (inr h) = absurd h
in_put x t (u ∷ us) h = by (nat_le t.stamp u.stamp) h (λ w. in_put x t us w)
  where
    by : (q : Bool) → (x ≡ t) ⊎ ((x ≡ u) ⊎ In x us) → ((x ≡ t) ⊎ In x us → In x (by_stamp t us)) → In x (if q then t ∷ u ∷ us else u ∷ by_stamp t us)
    by true w rest = w
    by false (inl e) rest = inr (rest (inl e))
    by false (inr (inl e)) rest = inl e
    by false (inr (inr w)) rest = inr (rest (inr w))

in_sorted : (x : Ticketed) (ts : List Ticketed) → In x ts → In x (sorted_by_stamp ts)
in_sorted x [] h = h
in_sorted x (t ∷ ts) (inl e) = in_put x t (sorted_by_stamp ts) (inl e)
in_sorted x (t ∷ ts) (inr h) = in_put x t (sorted_by_stamp ts) (inr (in_sorted x ts h))

-- what passes and stands in a list is found, or another
pub found_one : {X : Type 0} (p : X → Bool) (x : X) (xs : List X) → In x xs → p x ≡ true → (w : X) × (find p xs ≡ Some w) × (p w ≡ true)
found_one {X = X} p x [] h k = absurd h
found_one {X = X} p x (z ∷ xs) h k = by (p z) refl h (λ w. found_one p x xs w k)
  where
    by : (q : Bool) → p z ≡ q → In x (z ∷ xs) → (In x xs → (w : X) × (find p xs ≡ Some w) × (p w ≡ true)) → (w : X) × (cond q (Some z) (find p xs) ≡ Some w) × (p w ≡ true)
    by true e h rest = (z, refl, e)
    by false e (inl w) rest = absurd (clash (sym k ∙ (ap p w ∙ e)))
    by false e (inr w) rest = rest w

pub none_passes : {X : Type 0} (p : X → Bool) (xs : List X) → ((x : X) → p x ≡ false) → find p xs ≡ None
none_passes p [] h = refl
none_passes p (x ∷ xs) h = ap (λ q. cond q (Some x) (find p xs)) (h x) ∙ none_passes p xs h

found_all : {X : Type 0} (p q : X → Bool) (xs : List X) (x : X) → find p xs ≡ Some x → list_all q xs ≡ true → q x ≡ true
found_all p q [] x e k = cc
found_all p q (y ∷ xs) x e k = by (p y) e (λ w. found_all p q xs x w (and_parts (q y) (list_all q xs) k).1)
  where
    by : (b : Bool) → cond b (Some y) (find p xs) ≡ Some x → (find p xs ≡ Some x → q x ≡ true) → q x ≡ true
    by true w rest = let it : y ≡ x = cc in subst (λ z. q z ≡ true) it (and_parts (q y) (list_all q xs) k).0
    by false w rest = rest w

-- ---- who has an entry

ok_is : {A B : Type 0} (r : Result A B) → is_ok r ≡ true → (a : A) × (r ≡ Ok a)
ok_is (Ok a) h = (a, refl)
ok_is (Err b) h = cc

is_number : (m n : ℕ) → (m == n) ≡ true → m ≡ n
is_number m n h = grind (arith, nat_tests)

is_within : (xs : List Course) (i : ℕ) → IsSome (slice_get xs i) → i < length xs
is_within [] i h = cc
is_within (x ∷ xs) zero h = omega arith
is_within (x ∷ xs) (suc i) h = let l : i < length xs = is_within xs i h in omega arith

pub there : (xs : List Course) (t : ℕ) → IsSome (if t == 0 then None else slice_get xs (t - 1)) → (1 ≤ t) × (t < 1 + length xs)
there xs t h = by (t == 0) refl h
  where
    by : (q : Bool) → (t == 0) ≡ q → IsSome (if q then None else slice_get xs (t - 1)) → (1 ≤ t) × (t < 1 + length xs)
    by true e k = cc
    by false e k =
        let some : 1 ≤ t = grind (arith, nat_tests) in
        let l : t - 1 < length xs = is_within xs (t - 1) k in
        (some, omega arith)

module _ (script : Script) (s : State) (sound : Sound script s) where
  thread_in : (t : ℕ) → IsSome (course_of s t) → In (actor.Thread t) (own_order script s)
  thread_in t h = by (course s t).stamp refl
    where
      range : (1 ≤ t) × (t < 1 + length s.courses)
      range = there s.courses t h

      number : In t (thread_numbers script)
      number = let a = range.0 in let b = range.1 in let l = sound.owned.courses in in_count t (length script.threads) 1 (omega (arith, a)) (omega (arith, b, l))

      by : (o : Option Stamp) → (course s t).stamp ≡ o → In (actor.Thread t) (own_order script s)
      by (Some st) e =
          let it : ticketed s t ≡ Some (record { thread = t; stamp = st.0 }) = ap (option_map (λ stamp. record { thread = t; stamp = stamp.0 })) e in
          inr (in_left (actor.Thread t) _ _
          (in_right (actor.Thread t) (map actor.Engine (count_from 1 (script.sizes.engines + 1) 0)) _
          (in_map (λ u. actor.Thread u.thread) (record { thread = t; stamp = st.0 }) (sorted_by_stamp (filter_map (ticketed s) (thread_numbers script)))
          (in_sorted (record { thread = t; stamp = st.0 }) (filter_map (ticketed s) (thread_numbers script))
          (in_filter_map (ticketed s) t (record { thread = t; stamp = st.0 }) (thread_numbers script) number it)))))
      by None e =
          inr (in_right (actor.Thread t) _ _
          (in_map actor.Thread t (filter (λ u. is_none (course s u).stamp) (thread_numbers script))
          (in_filter (λ u. is_none (course s u).stamp) t (thread_numbers script) number (ap is_none e))))

  engine_in : (e : ℕ) (k : Kind) → step_of_engine s e ≡ Ok k → In (actor.Engine e) (own_order script s)
  engine_in e k h = by (head_of s e) refl h
    where
      by : (o : Option Job) → head_of s e ≡ o → ◌≡◌ {A = Step} (elim o [ None ↦ Err need.NoJob | Some j ↦ step_of_job s j ]) (Ok k) → In (actor.Engine e) (own_order script s)
      by None q w = cc
      by (Some j) q w =
          let p : ((j.id.ctx == e) && not j.finished) ≡ true = found_passes (λ j. (j.id.ctx == e) && not j.finished) s.core.jobs j q in
          let c : nat_le j.id.ctx script.sizes.engines ≡ true = found_all (λ j. (j.id.ctx == e) && not j.finished) (λ j. nat_le j.id.ctx script.sizes.engines) s.core.jobs j q sound.jobs.contexts in
          let same : j.id.ctx ≡ e = is_number j.id.ctx e (and_parts (j.id.ctx == e) (not j.finished) p).0 in
          let low : j.id.ctx ≤ script.sizes.engines = is_low j.id.ctx script.sizes.engines c in
          inr (in_left (actor.Engine e) _ _
          (in_left (actor.Engine e) (map actor.Engine (count_from 1 (script.sizes.engines + 1) 0)) _
          (in_map actor.Engine e (count_from 1 (script.sizes.engines + 1) 0) (in_count e (script.sizes.engines + 1) 0 (omega arith) (omega arith)))))
        where
          is_low : (m n : ℕ) → nat_le m n ≡ true → m ≤ n
          is_low m n h = grind (arith, nat_tests)

  pub can_in_order : (who : Actor) → can_step script s who ≡ true → In who (own_order script s)
  can_in_order (actor.Thread t) h = let r = ok_is (next script s (actor.Thread t)) h in thread_in t (thread_is_there script s t r.0 r.1)
  can_in_order (actor.Engine e) h = let r = ok_is (next script s (actor.Engine e)) h in engine_in e r.0 r.1
  can_in_order actor.Reaper h = inl refl

  -- until all is over the own order finds an actor with an entry
  pub goes : is_over script s ≡ false → (who : Actor) × (find (can_step script s) (own_order script s) ≡ Some who) × (can_step script s who ≡ true)
  goes over = let g = no_dead_end script s sound over in found_one (can_step script s) g.0 (own_order script s) (can_in_order g.0 g.1) g.1

-- ---- where all is over

all_numbers : (p : ℕ → Bool) (n from t : ℕ) → list_all p (count_from 1 n from) ≡ true → from ≤ t → t < from + n → p t ≡ true
all_numbers p zero from t h a b = absurd (omega arith)
all_numbers p (suc n) from t h a b =
    let q = and_parts (p from) (list_all p (count_from 1 n (1 + from))) h in
    ⊎_elim (λ e. subst (λ z. p z ≡ true) (sym e) q.0) (λ d. let e : t ≡ from → ⊥ = d in all_numbers p n (1 + from) t q.1 (grind arith) (omega arith)) (cases_eq t from)

past_end : {X : Type 0} (xs : List X) → slice_get xs (length xs) ≡ None
past_end [] = refl
past_end (x ∷ xs) = past_end xs

none_open : (e : ℕ) (js : List Job) → list_all (λ j. j.finished) js ≡ true → find (λ j. (j.id.ctx == e) && not j.finished) js ≡ None
none_open e [] h = refl
none_open e (j ∷ js) h =
    let p = and_parts j.finished (list_all (λ j. j.finished) js) h in
    let q : ((j.id.ctx == e) && not j.finished) ≡ false = closed (j.id.ctx == e) j.finished p.0 in
    ap (λ b. cond b (Some j) (find (λ j. (j.id.ctx == e) && not j.finished) js)) q ∙ none_open e js p.1
  where
    closed : (a b : Bool) → b ≡ true → (a && not b) ≡ false
    closed true true h = refl
    closed false true h = refl
    closed a false h = cc

module _ (script : Script) (s : State) (l : length s.courses ≡ length script.threads) (over : is_over script s ≡ true) where
  parts : ((list_all (has_answered script s) (thread_numbers script) && list_all (λ j. j.finished) s.core.jobs) ≡ true) × ((length s.core.ghosts == 0) ≡ true)
  parts = and_parts (list_all (has_answered script s) (thread_numbers script) && list_all (λ j. j.finished) s.core.jobs) (length s.core.ghosts == 0) over

  rest : (list_all (has_answered script s) (thread_numbers script) ≡ true) × (list_all (λ j. j.finished) s.core.jobs ≡ true)
  rest = and_parts (list_all (has_answered script s) (thread_numbers script)) (list_all (λ j. j.finished) s.core.jobs) parts.0

  no_command : (t : ℕ) → command_at_work script s t ≡ None
  no_command t = by (command_at_work script s t) refl
    where
      by : (o : Option Command) → command_at_work script s t ≡ o → o ≡ None
      by None e = refl
      by (Some cmd) e =
          let range = there s.courses t (is_there (course_of s t) e) in
          let a = range.0 in
          let b = range.1 in
          let p : has_answered script s t ≡ true = all_numbers (has_answered script s) (length script.threads) 1 t rest.0 (omega (arith, a)) (omega (arith, b, l)) in
          let n : (course s t).answered ≡ length (commands_of script t) = is_number (course s t).answered (length (commands_of script t)) p in
          let gone : command_of script t (course s t) ≡ None = ap (slice_get (commands_of script t)) n ∙ past_end (commands_of script t) in
          absurd (let it : Some cmd ≡ None = sym e ∙ (command_is script s l t ∙ gone) in cc)
        where
          is_there : (o : Option Course) → option_and_then (λ c. slice_get (commands_of script t) c.answered) o ≡ Some cmd → IsSome o
          is_there None h = cc
          is_there (Some c) h = refl

  no_ghost : (gs : List Ghost) → (length gs == 0) ≡ true → slice_get gs 0 ≡ None
  no_ghost [] h = refl
  no_ghost (g ∷ gs) h = absurd (grind (arith, nat_tests))

  pub rests : (who : Actor) → can_step script s who ≡ false
  rests (actor.Thread t) =
      ap (λ o. is_ok (elim o [ None ↦ Err need.NoCommand | Some cmd ↦ step_of_task script s (course s t) cmd (task_of script s t) ])) (no_command t)
  rests (actor.Engine e) = ap (λ o. is_ok (elim o [ None ↦ Err need.NoJob | Some j ↦ step_of_job s j ])) (none_open e s.core.jobs rest.1)
  rests actor.Reaper = ap (λ o. is_ok (elim o [ None ↦ Err need.NoGhost | Some g ↦ unless_waiting (waited_for s.core g.jobs) (kind.Reap g.num) ])) (no_ghost s.core.ghosts parts.1)

pub rests_law : (script : Script) (journal : List Entry) → IsTrue (is_script script) → IsLegal script journal → is_over script (state_of script journal) ≡ true → (who : Actor) → can_step script (state_of script journal) who ≡ false
rests_law script journal fits h over = rests script (state_of script journal) (sound_law script journal fits h).owned.courses over

pub order_law : (script : Script) (journal : List Entry) → IsTrue (is_script script) → IsLegal script journal → is_over script (state_of script journal) ≡ false → FindsOne script (state_of script journal)
order_law script journal fits h over = let g = goes script (state_of script journal) (sound_law script journal fits h) over in record { who = g.0; found = g.1; goes = g.2 }

-- whoever has an entry has it before the end
unfinished : (script : Script) (journal : List Entry) → IsTrue (is_script script) → IsLegal script journal → SomeGoesOn script (state_of script journal) → is_complete script journal ≡ false
unfinished script journal fits h w = by (is_complete script journal) refl
  where
    by : (b : Bool) → is_complete script journal ≡ b → is_complete script journal ≡ false
    by false e = e
    by true e = absurd (clash (sym w.1 ∙ rests_law script journal fits h (over_law script journal h ∙ e) w.0))

pub until_the_end : (script : Script) (journal : List Entry) → IsTrue (is_script script) → IsLegal script journal → (is_complete script journal ≡ false) ↔ SomeGoesOn script (state_of script journal)
until_the_end script journal fits h = (goes_on_law script journal fits h, unfinished script journal fits h)
