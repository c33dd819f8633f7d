-- What holds in the states of legal journals, and that each entry of each actor lowers the measure there.
use Rattle.std.proofs.Common.{◌≡◌, ℕ, ◌<◌, ◌≤◌, ◌+◌, true, false, List, [], ◌∷◌, length, Some, Ok, IsTrue, refl, sym, ◌∙◌, ap, subst, arith, ◌⊎◌, inl, inr, ⊎_elim}
use Rattle.std.specs.Prelude.{slice_get, unwrap_or}
use Rattle.std.proofs.lemmas.Bool.{or_left, or_right, both_ways}
use Rattle.ttm_base.specs.ListWords.{last_of}
use Rattle.ttm_base.specs.Placement.{forced_places}
use Rattle.ttm_base.specs.declared.BufId.{BufId}
use Rattle.ttm_base.specs.declared.Actor.{Actor}
use Rattle.ttm_base.specs.declared.Actor.TheVariants as actor
use Rattle.journal_model.specs.declared.script.Script.{Script}
use Rattle.journal_model.specs.declared.script.Decl.{Decl}
use Rattle.journal_model.specs.declared.script.Command.{Command}
use Rattle.journal_model.specs.declared.state.State.{State}
use Rattle.journal_model.specs.declared.state.Course.{Course}
use Rattle.journal_model.specs.declared.state.Victim.{Victim}
use Rattle.journal_model.specs.declared.state.Task.{Task}
use Rattle.journal_model.specs.declared.entry.Kind.{Kind}
use Rattle.journal_model.specs.rules.State.{buffer, course, same_buffer}
use Rattle.journal_model.specs.rules.Commands.{decl, undeclared, asked_places}
use Rattle.journal_model.specs.rules.Ready.{has_some_target}
use Rattle.journal_model.specs.rules.Search.{PlaceSearch}
use Rattle.journal_model.specs.scripts.ScriptRules.{is_script}
use Rattle.journal_model.specs.rules.Next.{next}
use Rattle.journal_model.specs.rules.Apply.{applied}
use Rattle.journal_model.specs.rules.Legal.{first_state}
use Rattle.laws.proofs.law_state.JournalCourses.{is_of_engine, is_of_reaper, of_engine, of_reaper}
use Rattle.laws.specs.law_state.GoodState.{GoodState}
use Rattle.laws.specs.law_state.Courses.{GoodCourses}
use Rattle.laws.proofs.law_state.Lists.{get_within}
use Rattle.laws.proofs.law_state.Rules.{Rules, rules_of, declared_pages}
use Rattle.laws.proofs.law_state.GoodStates.{good_keeps, good_first}
use Rattle.laws.proofs.law_state.Pins.{courses_keep, courses_law}
use Rattle.laws.specs.law_sound.Sound.{Sound}
use Rattle.laws.proofs.law_sound.DeadEnds.{command_is}
use Rattle.laws.proofs.law_sound.Measure.{measure}
use Rattle.laws.proofs.law_sound.Along.{Stepped, OfWorker, of_worker, stepped_of, sound_keeps, sound_first}
use Rattle.laws.proofs.law_sound.Gifts.{Gives, SearchOutcome, Filled, seeks, binds, unbinds, moves, fills, lets_go, empties, depopulates, untakes, swaps, finds, evicts, dries, fresh, again, back, evicts_for_swap, nothing}
use Rattle.laws.proofs.law_sound.Bufs.{same_self, clash}
use Rattle.laws.proofs.lemma_end_measure.Locks.{few_threads}
use Rattle.laws.proofs.lemma_end_measure.Border.{Known}
use Rattle.laws.proofs.lemma_end_measure.Falls.{is_searching, entry_falls}
use Rattle.laws.proofs.lemma_end_searches.Victims.{Caught, nobody, single, pair, last_is, last_of_two}
use Rattle.laws.proofs.lemma_end_searches.Ways.{GoodVictims, way_of_last}
use Rattle.laws.proofs.lemma_end_searches.VictimsKeep.{victims_keep, victims_stay, victims_first}
use Rattle.laws.proofs.lemma_end_searches.Listed.{Listed, listed_keeps, listed_stays, listed_first, swaps_below}
use Rattle.laws.proofs.lemma_end_searches.DryPlaces.{DryOf, dry_keeps, dry_stays, dry_first}
use Rattle.laws.proofs.lemma_end_searches.Searches.{is_search, Rows, search_falls}
use Rattle.laws.proofs.lemma_end_ways.VictimSteps.{IsLast, alone, second}
use Rattle.laws.proofs.lemma_end_ways.Spanless.{AreBare, bare_stepped, bare_worker, bare_first}
use Rattle.laws.proofs.lemma_end_ways.OnWays.{Carrying}
use Rattle.laws.proofs.lemma_end_ways.Keeps.{LeftPlaces}
use Rattle.laws.proofs.lemma_end_ways.Targets.{LastWay, carrying_keeps, carrying_worker, carrying_first}
use Rattle.laws.proofs.lemma_end_ways.Falling.{is_carry, carries_fall}
use Rattle.laws.proofs.law_end.Workers.{engine_falls, reaper_falls}

-- what each legal entry keeps
pub record Steady (script : Script) (s : State) : Type 0 where
  pub good : GoodState script s
  pub sound : Sound script s
  pub courses : GoodCourses script s
  pub bare : AreBare s.core.buffers
  pub carrying : Carrying script s
  pub victims : (u : ℕ) → GoodVictims s (course s u)
  pub listed : Listed s
  pub dry : (u : ℕ) → DryOf script s u (course s u)

-- the last of at most two victims
is_last : (vs : List Victim) (v : Victim) → Caught vs → last_of vs ≡ Some v → IsLast v vs
is_last [] v nobody h = cc
is_last (u ∷ []) v single h = alone (ap (λ x. x ∷ []) (last_is u v h))
is_last (u ∷ x ∷ []) v (pair e n d) h =
    let it = last_of_two u x v h in
    second u (ap (λ z. u ∷ z ∷ []) it)
    (λ q. both_ways (same_buffer u.b v.b) (subst (λ z. same_buffer u.b z.b ≡ false) it d) (subst (λ z. same_buffer u.b z ≡ true) q (same_self u.b)))
is_last (u ∷ x ∷ y ∷ vs) v few h = elim few [ ]

-- ---- which entries are searches' and which are carries

module _ (script : Script) (s : State) (c : Course) (cmd : Command) where
  sought_kind : (b : BufId) (q : PlaceSearch) (k : Kind) → SearchOutcome script s c b q k → (is_carry k ≡ true) ⊎ (is_search k ≡ true)
  sought_kind b q k (finds place w m e) = inl refl
  sought_kind b q k (evicts place a n e f) = inr refl
  sought_kind b q k (dries place a n) = inr refl

  filled_kind : (b : BufId) (k : Kind) → Filled script s b k → (is_carry k ≡ true) ⊎ (is_search k ≡ true)
  filled_kind b k (fresh f l) = inr refl
  filled_kind b k (again f l) = inr refl
  filled_kind b k (back f l) = inr refl
  filled_kind b k (evicts_for_swap f e) = inr refl
  filled_kind b k (nothing f) = inr refl

  searching_kind : (x : Task) (k : Kind) → Gives script s c cmd x k → is_searching x k ≡ true → (is_carry k ≡ true) ⊎ (is_search k ≡ true)
  searching_kind x k (seeks {b} sought) h = sought_kind b _ k sought
  searching_kind x k (fills {b} filled) h = filled_kind b k filled
  searching_kind x k binds h = inl refl
  searching_kind x k (unbinds i) h = inl refl
  searching_kind x k moves h = inl refl
  searching_kind x k (depopulates m f) h = inl refl
  searching_kind x k (untakes n) h = inl refl
  searching_kind x k lets_go h = inr refl
  searching_kind x k (empties w f g) h = inr refl
  searching_kind x k (swaps e f g) h = inr refl
  searching_kind x k it h = absurd (clash (sym h))

module _ (script : Script) (fits : IsTrue (is_script script)) where
  rules : Rules script
  rules = rules_of script fits

  pages : (i : ℕ) (d : Decl) → slice_get script.buffers i ≡ Some d → 1 ≤ d.pages
  pages i d e =
      let p = declared_pages script (rules_of script fits) (record { 0 = i }) (get_within script.buffers i d e) in
      let is : (decl script (record { 0 = i })).pages ≡ d.pages = ap (λ o. (unwrap_or o undeclared).pages) e in
      let some = p.some in
      omega (arith, some, is)

  known : (s : State) → Steady script s → Known script s
  known s inv = record { rules = rules; threads = few_threads script fits; pages = pages; good = inv.good; owned = inv.sound.owned }

  module _ (s : State) (t : ℕ) (k : Kind) (inv : Steady script s) (st : Stepped script s t k) where
    places : LeftPlaces script s (course s t) st.step.cmd
    places b on more =
        let p = inv.dry t st.step.cmd st.at on.fine more in
        let it : p.b ≡ b = (let z : Some p.b ≡ Some b = sym p.first ∙ on.first in cc) in
        (subst (λ d. has_some_target (buffer s d) ≡ false) it p.untargeted, subst (λ d. (course s t).dry < length (forced_places (asked_places script st.step.cmd d))) it p.fewer)

    way : LastWay s (course s t)
    way v last = way_of_last (buffer s) (course s t).caught v (inv.victims t).few (inv.victims t).ways last

    rows : Rows script s t
    rows cmd b at held some = (inv.carrying.carried t cmd b (sym (command_is script s inv.sound.owned.courses t) ∙ at) held some).row

    thread_falls : measure script (applied script s (actor.Thread t) k) + 1 ≤ measure script s
    thread_falls =
        entry_falls script s t (known s inv) k st
        (λ h. ⊎_elim
        (λ c. carries_fall script s t (known s inv) inv.carrying (λ v last. is_last (course s t).caught v (inv.victims t).few last) way k st places c)
        (λ c. search_falls script s t (known s inv) inv.victims rows k st c)
        (searching_kind script s (course s t) st.step.cmd st.step.task k st.gives h))

    thread_keeps : next script s (actor.Thread t) ≡ Ok k → Steady script (applied script s (actor.Thread t) k)
    thread_keeps h =
        record {
          good = good_keeps script rules s (actor.Thread t) k inv.good h;
          sound = sound_keeps script rules s (actor.Thread t) k inv.good inv.sound h;
          courses = courses_keep script s (actor.Thread t) k inv.courses h;
          bare = bare_stepped script s t k st inv.bare;
          carrying = carrying_keeps script s t k (known s inv) inv.courses inv.bare st places way inv.carrying;
          victims = victims_keep script s t (known s inv) inv.victims inv.carrying.targets (swaps_below s inv.listed) k st;
          listed = listed_keeps script s t k inv.listed;
          dry = dry_keeps script s t (known s inv) inv.dry k st;
        }

  worker_keeps : (s : State) (who : Actor) (k : Kind) → Steady script s → OfWorker k → next script s who ≡ Ok k → Steady script (applied script s who k)
  worker_keeps s who k inv w h =
      record {
        good = good_keeps script rules s who k inv.good h;
        sound = sound_keeps script rules s who k inv.good inv.sound h;
        courses = courses_keep script s who k inv.courses h;
        bare = bare_worker script s who k w inv.bare;
        carrying = carrying_worker script s who k w inv.carrying;
        victims = victims_stay script s who k w inv.victims;
        listed = listed_stays script s who k w inv.listed;
        dry = dry_stays script s who k w inv.dry;
      }

  pub steady_keeps : (s : State) (who : Actor) (k : Kind) → Steady script s → next script s who ≡ Ok k → Steady script (applied script s who k)
  steady_keeps s (actor.Thread t) k inv h = thread_keeps s t k inv (stepped_of script s t k inv.sound.owned.courses h) h
  steady_keeps s (actor.Engine e) k inv h = worker_keeps s (actor.Engine e) k inv (of_worker k (or_left (is_of_engine k) (is_of_reaper k) (of_engine script s e k h))) h
  steady_keeps s actor.Reaper k inv h = worker_keeps s actor.Reaper k inv (of_worker k (or_right (is_of_engine k) (is_of_reaper k) (of_reaper script s k h))) h

  pub steady_first : Steady script (first_state script)
  steady_first =
      record {
        good = good_first script;
        sound = sound_first script;
        courses = courses_law script [] tt;
        bare = bare_first script;
        carrying = carrying_first script;
        victims = victims_first script;
        listed = listed_first script;
        dry = dry_first script;
      }

  -- the measure falls at each legal entry of each actor
  pub measure_falls : (s : State) (who : Actor) (k : Kind) → Steady script s → next script s who ≡ Ok k → measure script (applied script s who k) + 1 ≤ measure script s
  measure_falls s (actor.Thread t) k inv h = thread_falls s t k inv (stepped_of script s t k inv.sound.owned.courses h)
  measure_falls s (actor.Engine e) k inv h = engine_falls script s e k h
  measure_falls s actor.Reaper k inv h = reaper_falls script s k h
