-- Where every command is answered, every job is done and there is no ghost, no actor has an entry.
use Rattle.std.proofs.Common.{◌≡◌, ℕ, ◌+◌, ◌-◌, ◌<◌, ◌≤◌, zero, suc, Bool, true, false, List, [], ◌∷◌, ◌++◌, Option, Some, None, Ok, ◌⊎◌, inl, inr, refl, sym, ◌∙◌, ap, subst, length, arith}
use Rattle.std.proofs.lemmas.Bool.{cases_lt, eqb-true}
use Rattle.std.proofs.lemmas.Option.{slice_get_past}
use Rattle.std.specs.Option.{option_and_then}
use Rattle.journal_model.specs.declared.state.Ghost.{Ghost}
use Rattle.std.proofs.lemmas.Grind.{common_steps}
use Rattle.std.proofs.lemmas.Bool.Decides.{nat_tests}
use Rattle.std.specs.Prelude.{find, not, ◌&&◌, ◌==◌, slice_get, unwrap_or}
use Rattle.std.specs.List.{list_all}
use Rattle.ttm_base.specs.declared.Actor.{Actor}
use Rattle.ttm_base.specs.declared.Actor.TheVariants as actor
use Rattle.ttm_base.specs.ListWords.{count_from}
use Rattle.journal_model.specs.declared.script.Script.{Script}
use Rattle.journal_model.specs.declared.state.State.{State}
use Rattle.journal_model.specs.declared.state.Course.{Course}
use Rattle.journal_model.specs.declared.state.Job.{Job}
use Rattle.journal_model.specs.declared.entry.Entry.{Entry}
use Rattle.journal_model.specs.declared.entry.Kind.{Kind}
use Rattle.journal_model.specs.rules.State.{course, course_of, new_course}
use Rattle.journal_model.specs.rules.Commands.{commands_of, command_at_work}
use Rattle.journal_model.specs.rules.Next.{next, head_of}
use Rattle.journal_model.specs.statements.Complete.{has_answered, is_complete, is_over, thread_numbers}
use Rattle.journal_model.specs.rules.Legal.{World, first_world, world_after, world_along, world_of, state_of, IsLegalFrom, IsLegal}
use Rattle.laws.proofs.law_state.Counted.{over_law}
use Rattle.laws.proofs.law_state.Shown.{legal_step}

-- ---- by actor

no_job : (ctx : ℕ) (jobs : List Job) → list_all (λ j. j.finished) jobs ≡ true → find (λ j. (j.id.ctx == ctx) && not j.finished) jobs ≡ None
no_job ctx [] h = refl
no_job ctx (j ∷ js) h =
    let rest : list_all (λ j. j.finished) js ≡ true = grind (arith, common_steps) in
    let none = no_job ctx js rest in
    grind (arith, common_steps)

engine_stops : (script : Script) (s : State) (ctx : ℕ) (k : Kind) → list_all (λ j. j.finished) s.core.jobs ≡ true → next script s (actor.Engine ctx) ≡ Ok k → ⊥
engine_stops script s ctx k h step = let none : head_of s ctx ≡ None = no_job ctx s.core.jobs h in grind (arith, common_steps)

reaper_stops : (script : Script) (s : State) (k : Kind) → s.core.ghosts ≡ [] → next script s actor.Reaper ≡ Ok k → ⊥
reaper_stops script s k h step = grind (arith, common_steps)

-- a test that all numbers of a count pass
all_counted : (test : ℕ → Bool) (n start t : ℕ) → list_all test (count_from 1 n start) ≡ true → start ≤ t → t < start + n → test t ≡ true
all_counted test zero start t h low high = absurd (omega (arith, low, high))
all_counted test (suc n) start t h low high =
    let here : test start ≡ true = grind (arith, common_steps) in
    let rest : list_all test (count_from 1 n (1 + start)) ≡ true = grind (arith, common_steps) in
    elim (cases_lt start t) as (λ _. test t ≡ true) [
      | inl lt ↦ all_counted test n (1 + start) t rest (omega (arith, lt)) (omega (arith, high))
      | inr ge ↦ let same : start ≡ t = omega (arith, low, ge) in subst (λ n. test n ≡ true) same here
    ]

-- a thread that isn't there has no commands
pub no_commands : (script : Script) (t : ℕ) → slice_get script.threads t ≡ None → commands_of script (suc t) ≡ []
no_commands script t h =
    let behind : suc t - 1 ≡ t = omega arith in
    let none : slice_get script.threads (suc t - 1) ≡ None = ap (slice_get script.threads) behind ∙ h in
    let past : (suc t == 0) ≡ false = grind (arith, nat_tests) in
    grind (arith, common_steps)

-- a thread that is there has answered all its commands
none_left : (script : Script) (s : State) (t : ℕ) → list_all (has_answered script s) (thread_numbers script) ≡ true → slice_get (commands_of script t) (course s t).answered ≡ None
none_left script s zero h = refl
none_left script s (suc t) h = by_order (cases_lt t (length script.threads))
  where
    by_order : (t < length script.threads) ⊎ (length script.threads ≤ t) → slice_get (commands_of script (suc t)) (course s (suc t)).answered ≡ None
    by_order (inl lt) =
        let same : has_answered script s (suc t) ≡ true = all_counted (has_answered script s) (length script.threads) 1 (suc t) h (omega arith) (omega (arith, lt)) in
        let all : (course s (suc t)).answered ≡ length (commands_of script (suc t)) = eqb-true _ _ same in
        slice_get_past (commands_of script (suc t)) (course s (suc t)).answered (omega (arith, all))
    by_order (inr ge) =
        let none : slice_get script.threads t ≡ None = slice_get_past script.threads t ge in
        let empty = no_commands script t none in
        ap (λ cs. slice_get cs (course s (suc t)).answered) empty

thread_stops : (script : Script) (s : State) (t : ℕ) (k : Kind) → list_all (has_answered script s) (thread_numbers script) ≡ true → next script s (actor.Thread t) ≡ Ok k → ⊥
thread_stops script s t k h step = by_course (course_of s t) refl
  where
    none : slice_get (commands_of script t) (course s t).answered ≡ None
    none = none_left script s t h

    by_course : (o : Option Course) → course_of s t ≡ o → ⊥
    by_course None e =
        let idle : command_at_work script s t ≡ None = ap (option_and_then (λ c. slice_get (commands_of script t) c.answered)) e in
        grind (arith, common_steps)
    by_course (Some c) e =
        let it : course s t ≡ c = ap (λ o. unwrap_or o (new_course 0)) e in
        let idle : command_at_work script s t ≡ None = ap (option_and_then (λ c. slice_get (commands_of script t) c.answered)) e ∙ ap (λ d. slice_get (commands_of script t) d.answered) (sym it) ∙ none in
        grind (arith, common_steps)

no_ghosts : (ghosts : List Ghost) → (length ghosts == 0) ≡ true → ghosts ≡ []
no_ghosts [] h = refl
no_ghosts (g ∷ gs) h = grind (arith, nat_tests)

-- the parts of an over state
record Over (script : Script) (s : State) : Type 0 where
  answered : list_all (has_answered script s) (thread_numbers script) ≡ true
  finished : list_all (λ j. j.finished) s.core.jobs ≡ true
  ghosts : (length s.core.ghosts == 0) ≡ true

pub three : (a b c : Bool) → (a && b && c) ≡ true → (a ≡ true) × (b ≡ true) × (c ≡ true)
three true true true h = (refl, refl, refl)
three true true false h = cc
three true false c h = cc
three false b c h = cc

over_parts : (script : Script) (s : State) → is_over script s ≡ true → Over script s
over_parts script s h =
    let parts = three (list_all (has_answered script s) (thread_numbers script)) (list_all (λ j. j.finished) s.core.jobs) (length s.core.ghosts == 0) h in
    record { answered = parts.0; finished = parts.1; ghosts = parts.2 }

stops : (script : Script) (s : State) (who : Actor) (k : Kind) → is_over script s ≡ true → next script s who ≡ Ok k → ⊥
stops script s (actor.Thread t) k h step = thread_stops script s t k (over_parts script s h).answered step
stops script s (actor.Engine e) k h step = engine_stops script s e k (over_parts script s h).finished step
stops script s actor.Reaper k h step = reaper_stops script s k (no_ghosts s.core.ghosts (over_parts script s h).ghosts) step

-- ---- along a journal

-- the front of a legal journal is legal, and what follows it is legal from there on
split : (script : Script) (w : World) (front more : List Entry) → IsLegalFrom script w (front ++ more) → IsLegalFrom script w front × IsLegalFrom script (world_along script w front) more
split script w [] more h = (tt, h)
split script w (e ∷ front) more h = let rest = split script (world_after script w e) front more h.1 in ((h.0, rest.0), rest.1)

pub last : (script : Script) (journal more : List Entry) → IsLegal script (journal ++ more) → is_complete script journal ≡ true → more ≡ []
last script journal [] h complete = refl
last script journal (e ∷ more) h complete =
    let parts = split script (first_world script) journal (e ∷ more) h in
    let over : is_over script (state_of script journal) ≡ true = over_law script journal parts.0 ∙ complete in
    let step = legal_step script (world_of script journal) e parts.1.0 in
    absurd (stops script (state_of script journal) e.who step.kind over step.step)
