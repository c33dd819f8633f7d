-- Where every job is finished and there is no ghost, some thread that holds a buffer has an entry, or nobody holds one.
use Rattle.std.proofs.Common.{◌≡◌, subst, ℕ, ◌<◌, ◌≤◌, ◌+◌, zero, suc, Bool, true, false, List, [], ◌∷◌, Option, Some, None, refl, sym, ◌∙◌, ap, arith, ◌⊎◌, inl, inr, ⊎_elim}
use Rattle.std.proofs.lemmas.Grind.{common_steps}
use Rattle.std.proofs.lemmas.Bool.Decides.{nat_tests}
use Rattle.std.specs.Prelude.{◌++◌, not, find, nat_lt, length, option_to_list}
use Rattle.ttm_base.specs.declared.BufId.{BufId}
use Rattle.ttm_base.specs.declared.Stamp.{Stamp}
use Rattle.ttm_base.specs.declared.Actor.TheVariants as actor
use Rattle.journal_model.specs.declared.script.Script.{Script}
use Rattle.journal_model.specs.declared.state.State.{State}
use Rattle.journal_model.specs.declared.state.Course.{Course}
use Rattle.journal_model.specs.declared.script.Command.{Command}
use Rattle.journal_model.specs.rules.State.{course, reservation, has_buffer}
use Rattle.journal_model.specs.rules.Commands.{command_at_work, named}
use Rattle.journal_model.specs.rules.Tasks.{first_missing, starts}
use Rattle.journal_model.specs.rules.Search.{is_caught}
use Rattle.journal_model.specs.rules.Next.{backs_off}
use Rattle.journal_model.specs.statements.DeadEnd.{can_step}
use Rattle.laws.proofs.law_sound.ThreadsGoOn.{Quiet, thread_goes_on, locking_goes_on}
use Rattle.laws.specs.law_sound.Sound.{wants, wanted, Has}

pub record Holding (script : Script) (s : State) : Type 0 where
  -- a holder's stamp is that of a thread that has the buffer
  pub holder : (b : BufId) (st : Stamp) → (reservation s b).holder ≡ Some st → (t : ℕ) × ((course s t).stamp ≡ Some st) × Has s t b
  -- of one thread
  pub one : (t u : ℕ) (st : Stamp) → (course s t).stamp ≡ Some st → (course s u).stamp ≡ Some st → t ≡ u
  pub below : (t : ℕ) (st : Stamp) → (course s t).stamp ≡ Some st → st.0 ≤ s.last_stamp
  pub at_work : (t : ℕ) (st : Stamp) → (course s t).stamp ≡ Some st → (cmd : Command) × (command_at_work script s t ≡ Some cmd)
  -- who has caught a victim holds all that it named
  pub searching : (t : ℕ) (cmd : Command) (b : BufId) → command_at_work script s t ≡ Some cmd → is_caught (course s t) b ≡ true → wants (course s t) cmd ≡ None

abbrev GoesOn : Script → State → Type 0
GoesOn script s = (t : ℕ) × (can_step script s (actor.Thread t) ≡ true)

bool_cases : (b : Bool) → (b ≡ true) ⊎ (b ≡ false)
bool_cases true = inl refl
bool_cases false = inr refl

found_passes : {X : Type 0} (p : X → Bool) (xs : List X) (x : X) → find p xs ≡ Some x → p x ≡ true
found_passes p [] x e = cc
found_passes p (y ∷ xs) x e =
    ⊎_elim
    (λ h. let it : y ≡ x = grind arith in subst (λ z. p z ≡ true) it h)
    (λ h. let later : find p xs ≡ Some x = grind arith in found_passes p xs x later)
    (bool_cases (p y))

not_empty : (held : List BufId) (b : BufId) → has_buffer held b ≡ true → nat_lt 0 (length held) ≡ true
not_empty [] b e = cc
not_empty (c ∷ held) b e = grind (arith, nat_tests)

-- what is wanted isn't held
wanted_missing : (c : Course) (cmd : Command) (d : BufId) → wants c cmd ≡ Some d → has_buffer c.held d ≡ false
wanted_missing c cmd d e =
    let f : first_missing c cmd ≡ Some d = by_phase c.made (starts c cmd) (first_missing c cmd) e in
    let p : not (has_buffer c.held d) ≡ true = found_passes (λ b. not (has_buffer c.held b)) (option_to_list c.first ++ named cmd) d f in
    flip (has_buffer c.held d) p
  where
    by_phase : (made began : Bool) (m : Option BufId) → wanted made began m ≡ Some d → m ≡ Some d
    by_phase true began m h = cc
    by_phase false true m h = cc
    by_phase false false m h = h

    flip : (q : Bool) → not q ≡ true → q ≡ false
    flip true h = cc
    flip false h = refl

-- who holds something and doesn't back off has the lesser stamp or the same
not_elder : (c : Course) (st other : Stamp) → c.stamp ≡ Some st → nat_lt 0 (length c.held) ≡ true → backs_off c other ≡ false → st.0 ≤ other.0
not_elder c st other e h b = grind (arith, common_steps, nat_tests)

module _ (script : Script) (s : State) (quiet : Quiet s) (inv : Holding script s) where
  -- along the holders the stamps rise
  from_holder : (k t : ℕ) (st : Stamp) (b : BufId) → (course s t).stamp ≡ Some st → Has s t b → s.last_stamp < st.0 + k → GoesOn script s
  from_holder zero t st b e has h = let l : st.0 ≤ s.last_stamp = inv.below t st e in absurd (omega arith)
  from_holder (suc k) t st b e has h =
      let w = inv.at_work t st e in
      by_want (λ u st' c f g l. from_holder k u st' c f g l) w.0 w.1 (wants (course s t) w.0) refl
    where
      by_want : ((u : ℕ) (st' : Stamp) (c : BufId) → (course s u).stamp ≡ Some st' → Has s u c → s.last_stamp < st'.0 + k → GoesOn script s) →
          (cmd : Command) → command_at_work script s t ≡ Some cmd → (o : Option BufId) → wants (course s t) cmd ≡ o → GoesOn script s
      by_want further cmd w None q = (t, thread_goes_on script s quiet t cmd w q)
      by_want further cmd w (Some d) q = by_holder (reservation s d).holder refl
        where
          no_victim : (x : BufId) → is_caught (course s t) x ≡ true → ⊥
          no_victim x h = let n : wants (course s t) cmd ≡ None = inv.searching t cmd x w h in clash (sym n ∙ q)
            where
              clash : None ≡ Some d → ⊥
              clash h = cc

          held_some : nat_lt 0 (length (course s t).held) ≡ true
          held_some = ⊎_elim (λ g. not_empty (course s t).held b g) (λ g. absurd (no_victim b g)) has

          by_holder : (o : Option Stamp) → (reservation s d).holder ≡ o → GoesOn script s
          by_holder None r = (t, locking_goes_on script s quiet t cmd d w q (λ st' z. absurd (never st' (sym r ∙ z))))
            where
              never : (st' : Stamp) → None ≡ Some st' → ⊥
              never st' h = cc
          by_holder (Some other) r = by_age (backs_off (course s t) other) refl
            where
              it_is : (st' : Stamp) → (reservation s d).holder ≡ Some st' → other ≡ st'
              it_is st' z = let y : Some other ≡ Some st' = sym r ∙ z in cc

              by_age : (back : Bool) → backs_off (course s t) other ≡ back → GoesOn script s
              by_age true y =
                  (t, locking_goes_on script s quiet t cmd d w q (λ st' z. subst (λ x. backs_off (course s t) x ≡ true) (it_is st' z) y))
              by_age false y =
                  let u = inv.holder d other r in
                  let le : st.0 ≤ other.0 = not_elder (course s t) st other e held_some y in
                  let ne : st.0 ≡ other.0 → ⊥ = λ same. not_mine u.0 u.1 u.2 same in
                  let lt : st.0 < other.0 = grind arith in
                  further u.0 other d u.1 u.2 (omega arith)
                where
                  not_mine : (u : ℕ) → (course s u).stamp ≡ Some other → Has s u d → st.0 ≡ other.0 → ⊥
                  not_mine u f has' same =
                      let stamps : st ≡ other = ap (λ n. record { 0 = n }) same in
                      let it : t ≡ u = inv.one t u other (e ∙ ap Some stamps) f in
                      let mine : Has s t d = subst (λ v. Has s v d) (sym it) has' in
                      ⊎_elim (λ g. clash (sym g ∙ wanted_missing (course s t) cmd d q)) (λ g. no_victim d g) mine
                    where
                      clash : true ≡ false → ⊥
                      clash h = cc

  -- a thread at a command leads to one that has an entry
  pub some_thread_goes_on : (t : ℕ) (cmd : Command) → command_at_work script s t ≡ Some cmd → GoesOn script s
  some_thread_goes_on t cmd w = by_want (wants (course s t) cmd) refl
    where
      by_want : (o : Option BufId) → wants (course s t) cmd ≡ o → GoesOn script s
      by_want None q = (t, thread_goes_on script s quiet t cmd w q)
      by_want (Some d) q = by_holder (reservation s d).holder refl
        where
          by_holder : (o : Option Stamp) → (reservation s d).holder ≡ o → GoesOn script s
          by_holder None r = (t, locking_goes_on script s quiet t cmd d w q (λ st' z. absurd (never st' (sym r ∙ z))))
            where
              never : (st' : Stamp) → None ≡ Some st' → ⊥
              never st' h = cc
          by_holder (Some other) r =
              let u = inv.holder d other r in from_holder (s.last_stamp + 1) u.0 other d u.1 u.2 (omega arith)
