-- Where the journal isn't over some actor has an entry.
use Rattle.std.proofs.Common.{◌≡◌, ℕ, ◌<◌, ◌≤◌, ◌+◌, zero, suc, Bool, true, false, List, [], ◌∷◌, Option, Some, None, refl, sym, ◌∙◌, ap, arith, ◌⊎◌, inl, inr, ⊎_elim}
use Rattle.std.proofs.lemmas.Grind.{common_steps}
use Rattle.std.proofs.lemmas.Bool.Decides.{nat_tests}
use Rattle.std.specs.Prelude.{◌-◌, ◌&&◌, ◌==◌, find, slice_get, length, unwrap_or, option_and_then, if◌then◌else◌}
use Rattle.std.specs.List.{list_all}
use Rattle.ttm_base.specs.ListWords.{count_from}
use Rattle.journal_model.specs.declared.state.Course.{Course}
use Rattle.ttm_base.specs.declared.Actor.TheVariants as actor
use Rattle.journal_model.specs.declared.script.Script.{Script}
use Rattle.journal_model.specs.declared.state.State.{State}
use Rattle.journal_model.specs.declared.state.Job.{Job}
use Rattle.journal_model.specs.declared.state.Ghost.{Ghost}
use Rattle.journal_model.specs.declared.script.Command.{Command}
use Rattle.journal_model.specs.rules.State.{course, course_of, new_course}
use Rattle.journal_model.specs.rules.Commands.{commands_of, command_at_work}
use Rattle.ttm_base.specs.Fences.{named_job}
use Rattle.journal_model.specs.statements.Complete.{is_over, has_answered, thread_numbers}
use Rattle.laws.proofs.law_sound.EnginesGoOn.{engine_goes_on, reaper_goes_on, none_waited_for, open_job}
use Rattle.laws.proofs.law_sound.ThreadsGoOn.{Quiet}
use Rattle.laws.proofs.law_sound.NoDeadEnd.{Holding, some_thread_goes_on}
use Rattle.laws.specs.law_sound.Sound.{SomeGoesOn, Sound, command_of}

bool_cases : (b : Bool) → (b ≡ true) ⊎ (b ≡ false)
bool_cases true = inl refl
bool_cases false = inr refl

no_commands : {X Y : Type 0} (xs : List X) (ys : List (List Y)) → length xs ≡ length ys → (i j : ℕ) → slice_get xs i ≡ None → slice_get (unwrap_or (slice_get ys i) []) j ≡ None
no_commands [] [] l i j h = refl
no_commands [] (y ∷ ys) l i j h = absurd (omega arith)
no_commands (x ∷ xs) [] l i j h = absurd (omega arith)
no_commands (x ∷ xs) (y ∷ ys) l zero j h = cc
no_commands (x ∷ xs) (y ∷ ys) l (suc i) j h = no_commands xs ys (omega arith) i j h

-- the command at work is that of the course
pub command_is : (script : Script) (s : State) → length s.courses ≡ length script.threads → (t : ℕ) → command_at_work script s t ≡ command_of script t (course s t)
command_is script s l t = by_number (t == 0)
  where
    by_course : (o : Option Course) → slice_get s.courses (t - 1) ≡ o →
        option_and_then (λ c. slice_get (unwrap_or (slice_get script.threads (t - 1)) []) c.answered) o ≡ slice_get (unwrap_or (slice_get script.threads (t - 1)) []) (unwrap_or o (new_course 0)).answered
    by_course (Some c) e = refl
    by_course None e = sym (no_commands s.courses script.threads l (t - 1) 0 e)

    by_number : (q : Bool) →
        option_and_then (λ c. slice_get (if q then [] else unwrap_or (slice_get script.threads (t - 1)) []) c.answered) (if q then None else slice_get s.courses (t - 1))
        ≡ slice_get (if q then [] else unwrap_or (slice_get script.threads (t - 1)) []) (unwrap_or (if q then None else slice_get s.courses (t - 1)) (new_course 0)).answered
    by_number true = refl
    by_number false = by_course (slice_get s.courses (t - 1)) refl

holding : (script : Script) (s : State) → Sound script s → Holding script s
holding script s sound =
    record {
      holder = sound.owned.holder;
      one = sound.owned.one;
      below = sound.owned.below;
      at_work = λ t st e. let w = (sound.owned.steady t).at_work st e in (w.0, command_is script s sound.owned.courses t ∙ w.1);
      searching = λ t cmd b e h. (sound.owned.steady t).searching b cmd (sym (command_is script s sound.owned.courses t) ∙ e) h;
    }

-- an unfinished job is found
first_open : (js : List Job) → list_all (λ j. j.finished) js ≡ false → (j : Job) × (find open_job js ≡ Some j)
first_open [] e = cc
first_open (j ∷ js) e =
    ⊎_elim
    (λ done. let later : list_all (λ j. j.finished) js ≡ false = grind arith in let k = first_open js later in (k.0, (let f : find open_job js ≡ Some k.0 = k.1 in grind arith)))
    (λ undone. (j, grind arith))
    (bool_cases j.finished)

-- a number of a row that fails
some_fails : (p : ℕ → Bool) (n from : ℕ) → list_all p (count_from 1 n from) ≡ false → (k : ℕ) × (from ≤ k) × (k < from + n) × (p k ≡ false)
some_fails p zero from e = cc
some_fails p (suc n) from e =
    ⊎_elim
    (λ h.
    let later : list_all p (count_from 1 n (1 + from)) ≡ false = grind arith in
    let k = some_fails p n (1 + from) later in
    (k.0, (let a : 1 + from ≤ k.0 = k.1 in omega arith), (let b : k.0 < 1 + from + n = k.2 in omega arith), k.3))
    (λ h. (from, omega arith, omega arith, h))
    (bool_cases (p from))

get_below : {X : Type 0} (xs : List X) (i : ℕ) → i < length xs → (x : X) × (slice_get xs i ≡ Some x)
get_below [] i h = absurd (omega arith)
get_below (x ∷ xs) zero h = (x, refl)
get_below (x ∷ xs) (suc i) h = get_below xs i (omega arith)

module _ (script : Script) (s : State) (sound : Sound script s) where
  quiet_now : list_all (λ j. j.finished) s.core.jobs ≡ true → s.core.ghosts ≡ [] → Quiet s
  quiet_now done gone = record { jobs = λ is. ap named_job (none_waited_for s done is); ghosts = gone }

  command_there : (t : ℕ) → 1 ≤ t → t < 1 + length script.threads → has_answered script s t ≡ false → (cmd : Command) × (command_at_work script s t ≡ Some cmd)
  command_there t low high h =
      let n : length s.courses ≡ length script.threads = sound.owned.courses in
      let at = get_below s.courses (t - 1) (omega arith) in
      let is : course_of s t ≡ Some at.0 = course_there at.0 at.1 in
      let few : (course s t).answered ≤ length (commands_of script t) = (sound.owned.steady t).answered in
      let other : (course s t).answered ≡ length (commands_of script t) → ⊥ = λ e. clash e h in
      let less : (course s t).answered < length (commands_of script t) = grind arith in
      let cmd = get_below (commands_of script t) (course s t).answered less in
      (cmd.0, (let c : slice_get (commands_of script t) (course s t).answered ≡ Some cmd.0 = cmd.1 in found at.0 is cmd.0 c))
    where
      course_there : (c : Course) → slice_get s.courses (t - 1) ≡ Some c → course_of s t ≡ Some c
      course_there c e = let l : 1 ≤ t = low in grind (arith, nat_tests)

      clash : (course s t).answered ≡ length (commands_of script t) → has_answered script s t ≡ false → ⊥
      clash e h = grind (arith, nat_tests)

      found : (c : Course) → course_of s t ≡ Some c → (cmd : Command) → slice_get (commands_of script t) (course s t).answered ≡ Some cmd → command_at_work script s t ≡ Some cmd
      found c e cmd h = grind (arith, common_steps)

  ghost_or_quiet : list_all (λ j. j.finished) s.core.jobs ≡ true → (gs : List Ghost) → s.core.ghosts ≡ gs → is_over script s ≡ false → SomeGoesOn script s
  ghost_or_quiet done (g ∷ gs) e over = (actor.Reaper, reaper_goes_on script s g done (ap (λ xs. slice_get xs 0) e))
  ghost_or_quiet done [] e over =
      let behind : list_all (has_answered script s) (thread_numbers script) ≡ false = unanswered (list_all (has_answered script s) (thread_numbers script)) done e over in
      let k = some_fails (has_answered script s) (length script.threads) 1 behind in
      let w = command_there k.0 k.1 k.2 k.3 in
      let u = some_thread_goes_on script s (quiet_now done e) (holding script s sound) k.0 w.0 w.1 in
      (actor.Thread u.0, u.1)
    where
      unanswered : (q : Bool) → list_all (λ j. j.finished) s.core.jobs ≡ true → s.core.ghosts ≡ [] → (q && list_all (λ j. j.finished) s.core.jobs && (length s.core.ghosts == 0)) ≡ false → q ≡ false
      unanswered false d g h = refl
      unanswered true d g h = grind (arith, nat_tests)

  -- no state that a legal journal reaches is a dead end
  pub no_dead_end : is_over script s ≡ false → SomeGoesOn script s
  no_dead_end over =
      ⊎_elim
      (λ done. ghost_or_quiet done s.core.ghosts refl over)
      (λ undone.
      let j = first_open s.core.jobs undone in
      (actor.Engine j.0.id.ctx, engine_goes_on script s j.0 sound.jobs.waits_back j.1))
      (bool_cases (list_all (λ j. j.finished) s.core.jobs))
