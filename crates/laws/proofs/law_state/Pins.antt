-- Pins are at most 255, and only a command that makes something is made.
use Rattle.std.proofs.Common.{◌≡◌, ℕ, ◌-◌, ◌<◌, ◌≤◌, zero, suc, Bool, true, false, List, [], ◌∷◌, Option, Some, None, Ok, IsSome, refl, sym, subst, ◌∙◌, ap, arith, ⊎_elim}
use Rattle.std.specs.Prelude.{slice_get, slice_set, map, ◌==◌, unwrap_or, option_and_then, is_none, if◌then◌else◌}
use Rattle.std.proofs.lemmas.Bool.Decides.{nat_tests}
use Rattle.std.proofs.lemmas.Bool.{cases_eq}
use Rattle.ttm_base.specs.declared.BufId.{BufId}
use Rattle.ttm_base.specs.declared.Stamp.{Stamp}
use Rattle.ttm_base.specs.declared.Deny.TheVariants as deny
use Rattle.ttm_base.specs.declared.Actor.{Actor}
use Rattle.ttm_base.specs.declared.Actor.TheVariants as actor
use Rattle.journal_model.specs.declared.script.Script.{Script}
use Rattle.journal_model.specs.declared.script.Command.{Command}
use Rattle.journal_model.specs.declared.script.Command.TheVariants as command
use Rattle.journal_model.specs.declared.state.State.{State}
use Rattle.journal_model.specs.declared.state.Course.{Course}
use Rattle.journal_model.specs.declared.state.Reservation.{Reservation}
use Rattle.journal_model.specs.declared.state.Task.{Task}
use Rattle.journal_model.specs.declared.state.Task.TheVariants as task
use Rattle.journal_model.specs.declared.entry.Entry.{Entry}
use Rattle.journal_model.specs.declared.entry.Shown.{Shown}
use Rattle.journal_model.specs.declared.entry.Kind.{Kind}
use Rattle.journal_model.specs.declared.entry.Kind.TheVariants as kind
use Rattle.journal_model.specs.rules.State.{course, course_of, reservation, reservation_in, no_reservation, reservation_changed, new_course}
use Rattle.journal_model.specs.rules.Commands.{commands_of, command_at_work}
use Rattle.journal_model.specs.rules.Tasks.{forbidden}
use Rattle.journal_model.specs.statements.Complete.{is_answer}
use Rattle.journal_model.specs.rules.Next.{next}
use Rattle.journal_model.specs.rules.Apply.{applied}
use Rattle.journal_model.specs.rules.ApplyCommands.{with_holder, released, pinned_more, pinned_less, with_pins}
use Rattle.journal_model.specs.rules.Legal.{World, first_state, first_world, world_after, world_along, state_of, IsLegalFrom, IsLegal}
use Rattle.laws.proofs.law_state.Shown.{legal_step}
use Rattle.laws.proofs.law_state.JournalCourses.{is_of_engine, is_of_reaper, of_engine, of_reaper, thread_is_there, others_kept, search_keeps, dry_keeps, fail_keeps, next_course, own_course, own_answered, one_more_if, engine_keeps, reaper_keeps, course_in}
use Rattle.laws.specs.law_state.Courses.{makes, HaveFewPins, GoodCourses}
use Rattle.laws.proofs.law_state.Lists.{set_at}
use Rattle.laws.proofs.law_state.Moves.{ThreadStep, thread_step}
use Rattle.laws.proofs.law_state.Courses.{may, command_may, is_shown_by, shown_by_task}

-- ---- pins

set_pins : (reservations : List Reservation) (b : BufId) (g : Reservation) → g.pins ≤ 255 → HaveFewPins reservations → HaveFewPins (slice_set reservations b.0 g)
set_pins reservations b g new h d =
    ⊎_elim
    (λ e. subst (λ o. (unwrap_or o no_reservation).pins ≤ 255) (sym e) (h d))
    (λ e. subst (λ o. (unwrap_or o no_reservation).pins ≤ 255) (sym e.1) new)
    (set_at reservations b.0 d.0 g)

hold_pins : (holder : Option Stamp) (reservations : List Reservation) (b : BufId) → HaveFewPins reservations → HaveFewPins (reservation_changed (with_holder holder) reservations b)
hold_pins holder reservations b h = set_pins reservations b (with_holder holder (reservation_in reservations b)) (h b) h

release_pins : (reservations : List Reservation) (bs : List BufId) → HaveFewPins reservations → HaveFewPins (released reservations bs)
release_pins reservations [] h = h
release_pins reservations (b ∷ bs) h = release_pins (reservation_changed (with_holder None) reservations b) bs (hold_pins None reservations b h)

-- letting go keeps the pins
release_same : (reservations : List Reservation) (bs : List BufId) (d : BufId) → (reservation_in (released reservations bs) d).pins ≡ (reservation_in reservations d).pins
release_same reservations [] d = refl
release_same reservations (b ∷ bs) d = release_same (reservation_changed (with_holder None) reservations b) bs d ∙ one
  where
    one : (reservation_in (reservation_changed (with_holder None) reservations b) d).pins ≡ (reservation_in reservations d).pins
    one = ⊎_elim
        (λ e. ap (λ o. (unwrap_or o no_reservation).pins) e)
        (λ e. ap (λ o. (unwrap_or o no_reservation).pins) e.1 ∙ ap (λ i. (unwrap_or (slice_get reservations i) no_reservation).pins) e.0)
        (set_at reservations b.0 d.0 (with_holder None (reservation_in reservations b)))

-- where a command pins, its buffer has a pin left
abbrev pub HasPinLeft : List Reservation → Option Command → Type 0
HasPinLeft reservations (Some (command.Pin b)) = (reservation_in reservations b).pins < 255
HasPinLeft reservations _ = Unit {0}

answer_pins : (reservations : List Reservation) (o : Option Command) → HasPinLeft reservations o → HaveFewPins reservations → HaveFewPins (with_pins o reservations)
answer_pins reservations None l h = h
answer_pins reservations (Some (command.Pin b)) l h = set_pins reservations b (pinned_more (reservation_in reservations b)) (let m : (reservation_in reservations b).pins < 255 = l in omega (arith, m)) h
answer_pins reservations (Some (command.Unpin b)) l h = set_pins reservations b (pinned_less (reservation_in reservations b)) (let m = h b in omega (arith, m)) h
answer_pins reservations (Some cmd) l h = h

left_same : (reservations : List Reservation) (bs : List BufId) (o : Option Command) → HasPinLeft reservations o → HasPinLeft (released reservations bs) o
left_same reservations bs None l = tt
left_same reservations bs (Some (command.Pin b)) l = let e = release_same reservations bs b in let m : (reservation_in reservations b).pins < 255 = l in omega (arith, e, m)
left_same reservations bs (Some cmd) l = tt

-- ---- a result

no_pin_max : (s : State) (b : BufId) → is_none (forbidden s (command.Pin b)) ≡ true → (reservation s b).pins ≤ 255 → (reservation s b).pins < 255
no_pin_max s b h l = grind (arith, nat_tests)

pin_left : (s : State) (c : Course) (cmd : Command) (t : Task) → HaveFewPins s.reservations → (c.made ≡ true → makes cmd ≡ true) → may s c cmd t ≡ true → (shown : Shown) → is_shown_by cmd t (kind.Result shown) ≡ true → HasPinLeft s.reservations (Some cmd)
pin_left s c (command.Pin b) task.Answer pins m h shown g = let k : makes (command.Pin b) ≡ true = m h in cc
pin_left s c (command.Pin b) task.Act pins m h shown g = no_pin_max s b h (pins b)
pin_left s c (command.Pin b) t pins m h shown g = cc
pin_left s c cmd t pins m h shown g = tt

pub at_number : (script : Script) (s : State) (t : ℕ) (cmd : Command) → command_at_work script s t ≡ Some cmd → slice_get (commands_of script t) (course s t).answered ≡ Some cmd
at_number script s t cmd h = by (course_of s t) h
  where
    by : (o : Option Course) → option_and_then (λ c. slice_get (commands_of script t) c.answered) o ≡ Some cmd → slice_get (commands_of script t) (unwrap_or o (new_course 0)).answered ≡ Some cmd
    by None g = cc
    by (Some c) g = g

pub result_pins : (script : Script) (s : State) (t : ℕ) (shown : Shown) → GoodCourses script s → ThreadStep script s t (kind.Result shown) → HasPinLeft s.reservations (command_at_work script s t)
result_pins script s t shown good st =
    subst (HasPinLeft s.reservations) (sym st.at_work)
    (pin_left s (course s t) st.cmd st.task good.pins (good.makes t st.cmd (at_number script s t st.cmd st.at_work))
    (subst (λ k. may s (course s t) st.cmd k ≡ true) (sym st.is_task) (command_may script s (course s t) st.cmd)) shown
    (shown_by_task script s (course s t) st.cmd st.task (kind.Result shown) st.step))

-- ---- each kind

thread_pins : (script : Script) (s : State) (t : ℕ) (k : Kind) → GoodCourses script s → ThreadStep script s t k → HaveFewPins (applied script s (actor.Thread t) k).reservations
thread_pins script s t (kind.Reserve b) good st = hold_pins (course s t).stamp s.reservations b good.pins
thread_pins script s t (kind.Backoff b stamp) good st = release_pins s.reservations (course s t).held good.pins
thread_pins script s t (kind.New b) good st = set_pins s.reservations b no_reservation (omega arith) good.pins
thread_pins script s t (kind.Free b g) good st = set_pins s.reservations b no_reservation (omega arith) good.pins
thread_pins script s t (kind.Catch b w) good st = hold_pins (course s t).stamp s.reservations b good.pins
thread_pins script s t (kind.Loose b) good st = hold_pins None s.reservations b good.pins
thread_pins script s t (kind.Skip b) good st = hold_pins None s.reservations b good.pins
thread_pins script s t (kind.Result shown) good st = answer_pins (released s.reservations (course s t).held) (command_at_work script s t) (left_same s.reservations (course s t).held (command_at_work script s t) (result_pins script s t shown good st)) (release_pins s.reservations (course s t).held good.pins)
thread_pins script s t (kind.Refused d) good st = release_pins s.reservations (course s t).held good.pins
thread_pins script s t k good st = good.pins

-- whether a command is made after an entry
abbrev made_after : Kind → Bool → Bool
made_after (kind.New b) made = true
made_after (kind.Free b g) made = true
made_after (kind.Bulk group) made = true
made_after (kind.Arm engine n) made = true
made_after (kind.Result shown) made = false
made_after (kind.Refused d) made = false
made_after _ made = made

next_made : (script : Script) (s : State) (t : ℕ) (k : Kind) → (next_course script s t k).made ≡ made_after k (course s t).made
next_made script s t (kind.Take b mem spans) = (search_keeps b (course s t)).1
next_made script s t (kind.Dry b k w) = (dry_keeps script s b k (command_at_work script s t) (course s t)).1
next_made script s t (kind.NoPages b) = (fail_keeps b deny.NoPages (course s t)).1
next_made script s t k = refl

-- the thread's own command after its entry
own_makes : (k : Kind) (cmd was : Command) (q : Task) (c : Course) → is_shown_by was q k ≡ true → (c.made ≡ true → makes was ≡ true) → (is_answer k ≡ false → cmd ≡ was) → made_after k c.made ≡ true → makes cmd ≡ true
own_makes (kind.New b) cmd was q c h m same made = ap makes (same refl) ∙ h
own_makes (kind.Free b g) cmd was q c h m same made = ap makes (same refl) ∙ h
own_makes (kind.Bulk group) cmd was q c h m same made = ap makes (same refl) ∙ h
own_makes (kind.Arm engine n) cmd was q c h m same made = ap makes (same refl) ∙ h
own_makes (kind.Result shown) cmd was q c h m same made = cc
own_makes (kind.Refused d) cmd was q c h m same made = cc
own_makes k cmd was q c h m same made = ap makes (same refl) ∙ m made

engine_reservations : (script : Script) (s : State) (who : Actor) (k : Kind) → is_of_engine k ≡ true → (applied script s who k).reservations ≡ s.reservations
engine_reservations script s who (kind.Packet n k piece) q = cc
engine_reservations script s who k q = cc

reaper_reservations : (script : Script) (s : State) (who : Actor) (k : Kind) → is_of_reaper k ≡ true → (applied script s who k).reservations ≡ s.reservations
reaper_reservations script s who (kind.Reap g) q = cc
reaper_reservations script s who k q = cc

one_command : (o : Option Command) (x y : Command) → o ≡ Some x → o ≡ Some y → x ≡ y
one_command o x y e f = let g : Some x ≡ Some y = sym e ∙ f in cc

thread_makes : (script : Script) (s : State) (t : ℕ) (k : Kind) → GoodCourses script s → (st : ThreadStep script s t k) → IsSome (course_of s t)
    → (u : ℕ) (cmd : Command) → slice_get (commands_of script u) (course (applied script s (actor.Thread t) k) u).answered ≡ Some cmd → (course (applied script s (actor.Thread t) k) u).made ≡ true → makes cmd ≡ true
thread_makes script s t k good st here u cmd at made = ⊎_elim
    (λ e. own (subst (λ v. slice_get (commands_of script v) (course (applied script s (actor.Thread t) k) v).answered ≡ Some cmd) e at) (subst (λ v. (course (applied script s (actor.Thread t) k) v).made ≡ true) e made))
    (λ d. let same = others_kept script s t u k here d in
    good.makes u cmd (subst (λ c. slice_get (commands_of script u) c.answered ≡ Some cmd) same at) (subst (λ c. c.made ≡ true) same made))
    (cases_eq u t)
  where
    was : slice_get (commands_of script t) (course s t).answered ≡ Some st.cmd
    was = at_number script s t st.cmd st.at_work

    own : slice_get (commands_of script t) (course (applied script s (actor.Thread t) k) t).answered ≡ Some cmd → (course (applied script s (actor.Thread t) k) t).made ≡ true → makes cmd ≡ true
    own now is_made =
        own_makes k cmd st.cmd st.task (course s t) (shown_by_task script s (course s t) st.cmd st.task k st.step) (good.makes t st.cmd was)
        (λ none.
        let kept : (course (applied script s (actor.Thread t) k) t).answered ≡ (course s t).answered = own_answered script s t k here ∙ ap (λ b. one_more_if b (course s t).answered) none in
        one_command (slice_get (commands_of script t) (course s t).answered) cmd st.cmd (subst (λ n. slice_get (commands_of script t) n ≡ Some cmd) kept now) was)
        (sym (ap (λ c. c.made) (own_course script s t k here) ∙ next_made script s t k) ∙ is_made)

pub courses_keep : (script : Script) (s : State) (who : Actor) (k : Kind) → GoodCourses script s → next script s who ≡ Ok k → GoodCourses script (applied script s who k)
courses_keep script s (actor.Thread t) k good h =
    let st = thread_step script s t k h in
    record { pins = thread_pins script s t k good st; makes = thread_makes script s t k good st (thread_is_there script s t k h) }
courses_keep script s (actor.Engine e) k good h =
    let q = of_engine script s e k h in
    let cs = engine_keeps script s (actor.Engine e) k q in
    record {
      pins = subst HaveFewPins (sym (engine_reservations script s (actor.Engine e) k q)) good.pins;
      makes = λ u cmd at made. good.makes u cmd (subst (λ c. slice_get (commands_of script u) (course_in c u).answered ≡ Some cmd) cs at) (subst (λ c. (course_in c u).made ≡ true) cs made);
    }
courses_keep script s actor.Reaper k good h =
    let q = of_reaper script s k h in
    let cs = reaper_keeps script s actor.Reaper k q in
    record {
      pins = subst HaveFewPins (sym (reaper_reservations script s actor.Reaper k q)) good.pins;
      makes = λ u cmd at made. good.makes u cmd (subst (λ c. slice_get (commands_of script u) (course_in c u).answered ≡ Some cmd) cs at) (subst (λ c. (course_in c u).made ≡ true) cs made);
    }

-- ---- along a journal

no_pins : {X : Type 0} (xs : List X) (i : ℕ) → (unwrap_or (slice_get (map (λ d. no_reservation) xs) i) no_reservation).pins ≤ 255
no_pins [] i = omega arith
no_pins (x ∷ xs) zero = omega arith
no_pins (x ∷ xs) (suc i) = no_pins xs i

not_made : {X : Type 0} (xs : List X) (i : ℕ) → (unwrap_or (slice_get (map (λ x. new_course 0) xs) i) (new_course 0)).made ≡ false
not_made [] i = refl
not_made (x ∷ xs) zero = refl
not_made (x ∷ xs) (suc i) = not_made xs i

first_made : (script : Script) (u : ℕ) → (course (first_state script) u).made ≡ false
first_made script u = picked (u == 0)
  where
    picked : (b : Bool) → (unwrap_or (if b then None else slice_get (map (λ x. new_course 0) script.threads) (u - 1)) (new_course 0)).made ≡ false
    picked true = refl
    picked false = not_made script.threads (u - 1)

courses_first : (script : Script) → GoodCourses script (first_state script)
courses_first script = record {
  pins = λ b. no_pins script.buffers b.0;
  makes = λ u cmd at made. absurd (clash (sym (first_made script u) ∙ made));
}
  where
    clash : false ≡ true → ⊥
    clash h = cc

courses_along : (script : Script) (w : World) (es : List Entry) → GoodCourses script w.state → IsLegalFrom script w es → GoodCourses script (world_along script w es).state
courses_along script w [] good h = good
courses_along script w (e ∷ es) good h =
    let l = legal_step script w e h.0 in
    courses_along script (world_after script w e) es (subst (GoodCourses script) (sym l.state) (courses_keep script w.state e.who l.kind good l.step)) h.1

pub courses_law : (script : Script) (journal : List Entry) → IsLegal script journal → GoodCourses script (state_of script journal)
courses_law script journal h = courses_along script (first_world script) journal (courses_first script) h
