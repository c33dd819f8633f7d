-- The answers of a thread are those of its commands, in order.
use Rattle.std.proofs.Common.{◌≡◌, ℕ, ◌+◌, ◌-◌, ◌<◌, ◌≤◌, zero, suc, Bool, true, false, List, [], ◌∷◌, length, Some, None, IsTrue, refl, sym, ◌∙◌, ap, subst, arith, ⊎_elim}
use Rattle.std.specs.Prelude.{◌&&◌, ◌==◌, slice_get, take, unwrap_or, if◌then◌else◌}
use Rattle.std.specs.List.{list_all}
use Rattle.std.proofs.lemmas.Bool.{cases_eq, cases_lt, and_parts, eqb-true}
use Rattle.ttm_base.specs.declared.Actor.{Actor}
use Rattle.ttm_base.specs.declared.Actor.TheVariants as actor
use Rattle.ttm_base.specs.ListWords.{count_from}
use Rattle.journal_model.specs.declared.script.Script.{Script}
use Rattle.journal_model.specs.declared.script.Command.{Command}
use Rattle.journal_model.specs.declared.entry.Entry.{Entry}
use Rattle.journal_model.specs.rules.State.{course}
use Rattle.journal_model.specs.rules.Commands.{commands_of, command_at_work}
use Rattle.journal_model.specs.statements.Complete.{is_answer, is_by_thread, answers_of, is_complete, thread_numbers}
use Rattle.journal_model.specs.rules.Next.{next}
use Rattle.journal_model.specs.scripts.ScriptRules.{is_script}
use Rattle.journal_model.specs.rules.Legal.{World, first_world, world_after, world_along, state_of, IsLegalNext, IsLegalFrom, IsLegal}
use Rattle.laws.proofs.law_state.Shown.{legal_step}
use Rattle.laws.proofs.law_state.Counted.{counted_law}
use Rattle.laws.proofs.law_state.Moves.{thread_step}
use Rattle.laws.proofs.law_state.Pins.{at_number}
use Rattle.laws.proofs.law_sound.Along.{sound_law}
use Rattle.laws.proofs.law_owners.Fronts.{legal_front}
use Rattle.laws.specs.law_answers.InOrder.{AnswersAt, IsCommandOf, AreInOrder}
use Rattle.laws.proofs.law_answers.Counts.{PassesAt, find_numbered, one_numbered}

-- an entry of the thread that answers
abbrev answers_for : ℕ → Entry → Bool
answers_for t e = is_by_thread t e.who && is_answer e.kind

answers_at : (journal : List Entry) (t n i : ℕ) → PassesAt (answers_for t) journal n i → AnswersAt journal t n i
answers_at journal t n i p = record { entry = p.element; here = p.here; answers = p.passes; number = p.number }

passes_at : (journal : List Entry) (t n i : ℕ) → AnswersAt journal t n i → PassesAt (answers_for t) journal n i
passes_at journal t n i a = record { element = a.entry; here = a.here; passes = a.answers; number = a.number }

by_it : (t : ℕ) (who : Actor) → is_by_thread t who ≡ true → who ≡ actor.Thread t
by_it t (actor.Thread u) h = ap actor.Thread (eqb-true u t h)
by_it t (actor.Engine e) h = cc
by_it t actor.Reaper h = cc

-- an entry of a journal is legal after those before it
pub legal_at : (script : Script) (w : World) (es : List Entry) (i : ℕ) (e : Entry) → IsLegalFrom script w es → slice_get es i ≡ Some e → IsLegalNext script (world_along script w (take i es)) e
legal_at script w [] i e h g = cc
legal_at script w (x ∷ es) zero e h g = let it : x ≡ e = cc in subst (IsLegalNext script w) it h.0
legal_at script w (x ∷ es) (suc i) e h g = legal_at script (world_after script w x) es i e h.1 g

module _ (script : Script) (journal : List Entry) (h : IsLegal script journal) where
  -- the thread of an entry is at a command
  at_command : (t i : ℕ) (e : Entry) → slice_get journal i ≡ Some e → e.who ≡ actor.Thread t → (cmd : Command) × (command_at_work script (state_of script (take i journal)) t ≡ Some cmd)
  at_command t i e g who =
      let l = legal_step script (world_along script (first_world script) (take i journal)) e (legal_at script (first_world script) journal i e h g) in
      let st = thread_step script (state_of script (take i journal)) t l.kind (ap (next script (state_of script (take i journal))) (sym who) ∙ l.step) in
      (st.cmd, st.at_work)

  command_of_answer : (t n i : ℕ) → AnswersAt journal t n i → IsCommandOf script journal t n i
  command_of_answer t n i a =
      let p = and_parts (is_by_thread t a.entry.who) (is_answer a.entry.kind) a.answers in
      let c = at_command t i a.entry a.here (by_it t a.entry.who p.0) in
      let count : (course (state_of script (take i journal)) t).answered ≡ n = counted_law script (take i journal) t (legal_front script journal i h) ∙ a.number in
      record { command = c.0; numbered = subst (λ m. slice_get (commands_of script t) m ≡ Some c.0) count (at_number script (state_of script (take i journal)) t c.0 c.1); at_work = c.1 }

  within_commands : IsTrue (is_script script) → (t : ℕ) → answers_of t journal ≤ length (commands_of script t)
  within_commands fits t =
      let most = ((sound_law script journal fits h).owned.steady t).answered in
      let count = counted_law script journal t h in
      omega (arith, most, count)

  -- ---- a complete journal

  listed : (test : ℕ → Bool) (n start t : ℕ) → list_all test (count_from 1 n start) ≡ true → start ≤ t → t < start + n → test t ≡ true
  listed test zero start t k low high = absurd (omega (arith, low, high))
  listed test (suc n) start t k low high =
      let p = and_parts (test start) (list_all test (count_from 1 n (1 + start))) k in
      ⊎_elim
      (λ e. subst (λ m. test m ≡ true) e p.0)
      (λ d. listed test n (1 + start) t p.1 (above start t low d) (omega (arith, high)))
      (cases_eq start t)
    where
      above : (a b : ℕ) → a ≤ b → (a ≡ b → ⊥) → 1 + a ≤ b
      above a b low d = ⊎_elim (λ l. omega (arith, l)) (λ l. absurd (d (omega (arith, l, low)))) (cases_lt a b)

  past : {X : Type 0} (xs : List X) (i : ℕ) → length xs ≤ i → slice_get xs i ≡ None
  past [] i k = refl
  past (x ∷ xs) zero k = absurd (omega (arith, k))
  past (x ∷ xs) (suc i) k = past xs i (omega (arith, k))

  no_thread : (t : ℕ) → length script.threads < t → commands_of script t ≡ []
  no_thread zero k = refl
  no_thread (suc t) k =
      let gone : slice_get script.threads (suc t - 1) ≡ None = past script.threads (suc t - 1) (omega (arith, k)) in
      by (suc t == 0) gone
    where
      by : (q : Bool) → slice_get script.threads (suc t - 1) ≡ None → (if q then [] else unwrap_or (slice_get script.threads (suc t - 1)) []) ≡ []
      by true g = refl
      by false g = ap (λ o. unwrap_or o []) g

  all_answered : IsTrue (is_script script) → is_complete script journal ≡ true → (t : ℕ) → answers_of t journal ≡ length (commands_of script t)
  all_answered fits done zero = let most = within_commands fits zero in omega (arith, most)
  all_answered fits done (suc t) =
      ⊎_elim
      (λ k. eqb-true (answers_of (suc t) journal) (length (commands_of script (suc t))) (listed (λ thread. answers_of thread journal == length (commands_of script thread)) (length script.threads) 1 (suc t) first (omega arith) (omega (arith, k))))
      (λ k. let none : length (commands_of script (suc t)) ≡ 0 = ap length (no_thread (suc t) (omega (arith, k))) in let most = within_commands fits (suc t) in omega (arith, most, none))
      (cases_lt t (length script.threads))
    where
      first : list_all (λ thread. answers_of thread journal == length (commands_of script thread)) (thread_numbers script) ≡ true
      first = first_of (list_all (λ thread. answers_of thread journal == length (commands_of script thread)) (thread_numbers script)) (list_all (λ j. j.finished) (state_of script journal).core.jobs) (length (state_of script journal).core.ghosts == 0) done
        where
          first_of : (a b c : Bool) → (a && b && c) ≡ true → a ≡ true
          first_of true b c e = refl
          first_of false b c e = cc

  pub in_order : IsTrue (is_script script) → AreInOrder script journal
  in_order fits =
      record {
        each = λ t n k. let r = find_numbered (answers_for t) journal n k in (r.0, answers_at journal t n r.0 r.1);
        once = λ t n i j a b. one_numbered (answers_for t) journal n i j (passes_at journal t n i a) (passes_at journal t n j b);
        commands = command_of_answer;
        no_more = within_commands fits;
        all = all_answered fits;
      }
