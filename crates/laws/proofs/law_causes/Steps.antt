-- Each entry of a thread carries on what is known of its searches.
use Rattle.std.proofs.Common.{◌≡◌, ℕ, ◌+◌, suc, Bool, true, false, List, [], ◌∷◌, ◌++◌, length, Some, None, refl, sym, ◌∙◌, ap, ap₂, subst, arith, ◌⊎◌, inl, inr, ⊎_elim}
use Rattle.std.specs.Prelude.{slice_get, not, unwrap_or, option_and_then, is_some, ◌==◌, ◌||◌, if◌then◌else◌}
use Rattle.std.specs.List.{list_all}
use Rattle.std.proofs.lemmas.Bool.{cases_eq, or_left, or_right}
use Rattle.std.proofs.lemmas.Bool.Decides.{nat_tests}
use Rattle.ttm_base.specs.Placement.{forced_places}
use Rattle.ttm_base.specs.declared.Mem.{Mem}
use Rattle.ttm_base.specs.declared.Span.{Span}
use Rattle.ttm_base.specs.declared.Place.{Place}
use Rattle.ttm_base.specs.declared.BufId.{BufId}
use Rattle.ttm_base.specs.declared.Deny.TheVariants as deny
use Rattle.ttm_base.specs.declared.Actor.TheVariants as actor
use Rattle.journal_model.specs.declared.script.Script.{Script}
use Rattle.journal_model.specs.declared.script.Command.{Command}
use Rattle.journal_model.specs.declared.state.State.{State}
use Rattle.journal_model.specs.declared.state.Course.{Course}
use Rattle.journal_model.specs.declared.state.SearchAim.{SearchAim}
use Rattle.journal_model.specs.declared.entry.Kind.{Kind}
use Rattle.journal_model.specs.declared.entry.Kind.TheVariants as kind
use Rattle.journal_model.specs.declared.entry.Why.{Why}
use Rattle.journal_model.specs.declared.entry.DryWhy.{DryWhy}
use Rattle.journal_model.specs.rules.State.{new_buffer, buffer, course, reservation, same_buffer, has_buffer}
use Rattle.journal_model.specs.rules.Commands.{named, command_at_work}
use Rattle.journal_model.specs.rules.Dry.{is_dry}
use Rattle.journal_model.specs.rules.Ready.{is_ready, first_unready}
use Rattle.journal_model.specs.rules.Search.{place_search, place_search_at_work, is_caught, aim_of}
use Rattle.journal_model.specs.rules.Apply.{applied}
use Rattle.journal_model.specs.rules.ApplyCommands.{on_to_next}
use Rattle.journal_model.specs.rules.ApplyVictims.{with_fail, gone_dry, course_after_dry}
use Rattle.journal_model.specs.rules.Legal.{Made}
use Rattle.journal_model.specs.statements.Complete.{is_answer, is_by_thread}
use Rattle.journal_model.specs.statements.Causes.{is_take_of, dry_of, presses, is_at_work, places_sought, is_dry_place, was_dry, search_of, shows_pressure}
use Rattle.laws.specs.law_sound.Sound.{Owned}
use Rattle.laws.proofs.law_sound.Turns.{Works, OnNamed}
use Rattle.laws.proofs.law_sound.Steadies.{next_course}
use Rattle.laws.proofs.law_sound.Bufs.{same_self, other_is, has_found, none_missing, none_last}
use Rattle.laws.proofs.law_sound.Owners.{none_or}
use Rattle.laws.proofs.law_sound.Reservations.{IsFree}
use Rattle.laws.proofs.lemma_end_measure.Frame.{touches, untouched}
use Rattle.laws.proofs.lemma_causes_trail.Found.{Found, takes, catches, dries, no_first}
use Rattle.laws.proofs.lemma_causes_trail.Windows.{ends, Quiet, quiet_cut, quiet_elsewhere, quiet_kept, more_window, Trail, trail_by_victim, trail_by_dry, trail_more, trail_dry}
use Rattle.laws.proofs.lemma_causes_trail.Tasks.{places_of, place_search_places, place_search_forced, place_search_dry, Seeking, aim_is_named, seeking_same}
use Rattle.laws.proofs.lemma_causes_trail.Stages.{is_for_swap, Calm, Stage, calm, pressed, spent, Alike, none_caught_is}

-- a thread's entry is by it
pub by_self : (t : ℕ) → is_by_thread t (actor.Thread t) ≡ true
by_self t = grind (arith, nat_tests)

module _ (script : Script) (s : State) (t : ℕ) (cmd : Command) (at : command_at_work script s t ≡ Some cmd) where
  -- an entry made in this state
  abbrev pub made : Kind → Made
  made k = record { before = s; entry = record { who = actor.Thread t; kind = k } }

  pub at_buffer : (b d : BufId) (k : Kind) → first_unready script s cmd ≡ Some b → is_at_work script t d (made k) ≡ same_buffer d b
  at_buffer b d k first =
      ap (λ o. elim (option_and_then (λ x. first_unready script s x) o) [ None ↦ false | Some c ↦ same_buffer d c ]) at
      ∙ ap (λ o. elim o [ None ↦ false | Some c ↦ same_buffer d c ]) first

  pub places_are : (b : BufId) (aim : SearchAim) → aim_of (course s t) b (buffer s b) ≡ aim → places_sought script s t b ≡ places_of script cmd b aim
  places_are b aim is =
      ap (λ o. elim o [ Some x ↦ (place_search_at_work script s (course s t) x b).list | None ↦ [] ]) at
      ∙ (ap (λ a. (place_search script cmd (course s t) b a).list) is ∙ place_search_places script cmd (course s t) b aim)

  pub dry_place : (b : BufId) (forced : List Place) (n : ℕ) (place : Place) → slice_get forced n ≡ Some place → is_dry script s (course s t).skips b place ≡ true → is_dry_place script s t b forced n ≡ true
  dry_place b forced n place at d = ap (λ o. elim o [ None ↦ false | Some place ↦ is_dry script s (course s t).skips b place ]) at ∙ d

  dry_then : (b : BufId) (forced : List Place) (k : Kind) (n : ℕ) → dry_of b k ≡ Some n → is_dry_place script s t b forced n ≡ true → was_dry script t b forced (made k) ≡ true
  dry_then b forced k n e d = ap (λ o. elim o [ None ↦ true | Some i ↦ is_dry_place script s t b forced i ]) e ∙ d

pub own_dry : (b : BufId) (n : ℕ) (w : DryWhy) → dry_of b (kind.Dry b n w) ≡ Some n
own_dry b n w = ap (λ q. if q then Some n else None) (same_self b)

module _ (script : Script) (s : State) (t : ℕ) (cmd : Command) (at : command_at_work script s t ≡ Some cmd) (o : Owned script s) (j : List Made) (k' k : Kind) (alike : Alike k' k) where
  abbrev m : Made
  m = made script s t cmd at k'

  -- the stage after the entry
  abbrev Next : Course → Command → Type 0
  Next c d = Stage script (applied script s (actor.Thread t) k) (j ++ m ∷ []) t c d

  pub is_open : (b : BufId) → is_answer k ≡ false → is_take_of b k ≡ false → ends b m ≡ false
  is_open b e f = ap₂ (λ a q. a || q) (alike.answer ∙ e) (alike.takes b ∙ f)

  silent : (b : BufId) → dry_of b k ≡ None → presses k ≡ false → shows_pressure b m ≡ false
  silent b e f = ap₂ (λ p q. is_some p || q) (alike.dry b ∙ e) (alike.presses ∙ f)

  -- an answer
  pub begins_anew : is_answer k ≡ true → (d : Command) → Next (on_to_next (course s t)) d
  begins_anew h d =
      calm (refl, refl, refl, refl) (λ b. quiet_cut script t j m b (by_self t) (or_left (is_answer k') (is_take_of b k') (alike.answer ∙ h)))

  -- an entry that says nothing of searches
  pub stays_calm : (c : Course) → ((b : BufId) → dry_of b k ≡ None) → presses k ≡ false → Calm c → ((b : BufId) → Quiet script t b j) → Next c cmd
  stays_calm c e f h quiet = calm h (λ b. quiet_kept script t j m b (by_self t) (silent b (e b) f) (quiet b))

  -- ---- under pressure

  pub is_held : (d : BufId) → Works (course s t) cmd → has_buffer (named cmd) d ≡ true → has_buffer (course s t).held d ≡ true
  is_held d works h = none_missing (course s t) cmd d works.whole h

  pub free_other : (v d : BufId) → IsFree s v → Works (course s t) cmd → has_buffer (named cmd) d ≡ true → same_buffer v d ≡ false
  free_other v d free works h =
      other_is v d
      (λ e. let had = o.held t d (inl (is_held d works h)) in none_or (reservation s d).holder had.0 (subst (λ z. (reservation s z).holder ≡ None) e free.free) had.2)

  pub stays : (d : BufId) → touches script s t k d ≡ false → buffer (applied script s (actor.Thread t) k) d ≡ buffer s d
  stays d h = ap (λ x. unwrap_or x (new_buffer 0)) (untouched script s t k d h)

  pub elsewhere : (b d : BufId) → first_unready script s cmd ≡ Some b → (d ≡ b → ⊥) → Quiet script t d j → Quiet script t d (j ++ m ∷ [])
  elsewhere b d first n quiet = quiet_elsewhere script t j m d (by_self t) (at_buffer script s t cmd at b d k' first ∙ other_is d b n) quiet

  at_work_here : (b : BufId) → first_unready script s cmd ≡ Some b → is_at_work script t b m ≡ true
  at_work_here b first = at_buffer script s t cmd at b b k' first ∙ same_self b

  window : (b : BufId) → first_unready script s cmd ≡ Some b → is_answer k ≡ false → is_take_of b k ≡ false → search_of script t b (j ++ m ∷ []) ≡ search_of script t b j ++ m ∷ []
  window b first e f = more_window script t j m b (by_self t) (is_open b e f) (at_work_here b first)

-- ---- a named buffer's search

same_or : (b d : BufId) → (d ≡ b) ⊎ (d ≡ b → ⊥)
same_or b d = ⊎_elim (λ e. inl (ap (λ i. record { 0 = i }) e)) (λ n. inr (λ e. n (ap (λ x. x.0) e))) (cases_eq d.0 b.0)

-- what was known of the window: nothing told of pressure, or the search was under pressure
abbrev pub Before : Script → State → List Made → ℕ → Command → BufId → SearchAim → Type 0
Before script s j t cmd b aim =
    (((course s t).forced ≡ false) × ((course s t).dry ≡ 0) × Quiet script t b j) ⊎ Trail script t b (places_of script cmd b aim) (course s t).dry (search_of script t b j)

module _ (script : Script) (s : State) (t : ℕ) (cmd : Command) (at : command_at_work script s t ≡ Some cmd) (o : Owned script s) (j : List Made) (b : BufId) (aim : SearchAim) (on : OnNamed s (course s t) cmd)
    (fine : (course s t).fail ≡ None) (seek : Seeking script s cmd b aim) (was : Before script s j t cmd b aim) (quiet : (d : BufId) → (d ≡ b → ⊥) → Quiet script t d j) (k' : Kind) where
  -- the stage after an entry of this kind
  abbrev After : Kind → Type 0
  After k = Stage script (applied script s (actor.Thread t) k) (j ++ made script s t cmd at k' ∷ []) t (next_course script s t k) cmd

  lone : (course s t).caught ≡ []
  lone = none_last (course s t).caught on.alone

  not_caught : is_caught (course s t) b ≡ false
  not_caught = none_caught_is (course s t) b lone

  aim_is : aim_of (course s t) b (buffer s b) ≡ aim
  aim_is = aim_is_named (course s t) b (buffer s b) not_caught ∙ seek.aim_is

  free_first : (course s t).forced ≡ false → ((place_search script cmd (course s t) b aim).forced ≡ false → no_first script s b (place_search script cmd (course s t) b aim).list ≡ true) → no_first script s b (places_of script cmd b aim) ≡ true
  free_first e u = subst (λ l. no_first script s b l ≡ true) (place_search_places script cmd (course s t) b aim) (u (place_search_forced script cmd (course s t) b aim not_caught ∙ e))

  -- it took pages
  took : (mem : Mem) (spans : List Span) → Alike k' (kind.Take b mem spans) → After (kind.Take b mem spans)
  took mem spans alike =
      calm
      (subst (λ q. Calm (if q then course s t else record (course s t) { forced = false; dry = 0 })) (sym not_caught) (refl, refl, fine, ap (list_all is_for_swap) lone))
      (λ d. ⊎_elim
      (λ same. subst (λ z. Quiet script t z (j ++ made script s t cmd at k' ∷ [])) (sym same)
      (quiet_cut script t j (made script s t cmd at k') b (by_self t) (or_right (is_answer k') (is_take_of b k') (alike.takes b ∙ same_self b))))
      (λ n. elsewhere script s t cmd at o j k' (kind.Take b mem spans) alike b d seek.first n (quiet d n))
      (same_or b d))

  -- it caught a victim
  caught_one : (v : BufId) (w : Why) → Alike k' (kind.Catch v w) → ((place_search script cmd (course s t) b aim).forced ≡ false → no_first script s b (place_search script cmd (course s t) b aim).list ≡ true) → presses (kind.Catch v w) ≡ true → IsFree s v
      → After (kind.Catch v w)
  caught_one v w alike u p free =
      pressed (record {
        works = record { unmade = on.works.unmade; begun = on.works.begun; whole = on.works.whole };
        fine = fine;
        b = b;
        aim = aim;
        seeking = seeking_same script s (applied script s (actor.Thread t) (kind.Catch v w)) cmd b aim (λ d h. stays script s t cmd at o j k' (kind.Catch v w) alike d (free_other script s t cmd at o j k' (kind.Catch v w) alike v d free on.works h)) seek;
        trail = subst (Trail script t b (places_of script cmd b aim) (course s t).dry) (sym (window script s t cmd at o j k' (kind.Catch v w) alike b seek.first refl refl)) (by was);
        quiet = λ d n. elsewhere script s t cmd at o j k' (kind.Catch v w) alike b d seek.first n (quiet d n);
      })
    where
      by : Before script s j t cmd b aim → Trail script t b (places_of script cmd b aim) (course s t).dry (search_of script t b j ++ made script s t cmd at k' ∷ [])
      by (inl h) =
          subst (λ n. Trail script t b (places_of script cmd b aim) n (search_of script t b j ++ made script s t cmd at k' ∷ [])) (sym h.1)
          (trail_by_victim script t b (places_of script cmd b aim) (search_of script t b j) (made script s t cmd at k') h.2 (or_right (is_some (dry_of b k')) (presses k') (alike.presses ∙ p)) (alike.dry b) (places_are script s t cmd at b aim aim_is)
          (free_first h.0 u))
      by (inr r) = trail_more script t b (places_of script cmd b aim) (course s t).dry (search_of script t b j) (made script s t cmd at k') (alike.dry b) r

  -- a place went dry
  abbrev nth : ℕ
  nth = (place_search script cmd (course s t) b aim).dry

  nth_is : (place_search script cmd (course s t) b aim).dry ≡ (course s t).dry
  nth_is = place_search_dry script cmd (course s t) b aim not_caught

  list_is : (place_search_at_work script s (course s t) cmd b).list ≡ places_of script cmd b aim
  list_is = ap (λ a. (place_search script cmd (course s t) b a).list) aim_is ∙ place_search_places script cmd (course s t) b aim

  dry_course : (w : DryWhy) → next_course script s t (kind.Dry b nth w) ≡ gone_dry nth (length (forced_places (place_search_at_work script s (course s t) cmd b).list)) (course s t)
  dry_course w =
      ap (λ x. course_after_dry script s b nth x (course s t)) at
      ∙ ap (λ z. if z then with_fail b deny.NoSpace (course s t) else gone_dry nth (length (forced_places (place_search_at_work script s (course s t) cmd b).list)) (course s t)) not_caught

  dry_trail : (w : DryWhy) → Alike k' (kind.Dry b nth w) → (place : Place) → slice_get (forced_places (place_search script cmd (course s t) b aim).list) nth ≡ Some place → is_dry script s (course s t).skips b place ≡ true
      → ((place_search script cmd (course s t) b aim).forced ≡ false → no_first script s b (place_search script cmd (course s t) b aim).list ≡ true)
      → Trail script t b (places_of script cmd b aim) (suc (course s t).dry) (search_of script t b (j ++ made script s t cmd at k' ∷ []))
  dry_trail w alike place here d u =
      subst (Trail script t b (places_of script cmd b aim) (suc (course s t).dry)) (sym (window script s t cmd at o j k' (kind.Dry b nth w) alike b seek.first refl refl)) (by was)
    where
      number : dry_of b k' ≡ Some (course s t).dry
      number = alike.dry b ∙ (own_dry b nth w ∙ ap Some nth_is)

      is_dry_there : was_dry script t b (forced_places (places_of script cmd b aim)) (made script s t cmd at k') ≡ true
      is_dry_there =
          dry_then script s t cmd at b (forced_places (places_of script cmd b aim)) k' (course s t).dry number
          (dry_place script s t cmd at b (forced_places (places_of script cmd b aim)) (course s t).dry place
          (ap₂ (λ l n. slice_get (forced_places l) n) (sym (place_search_places script cmd (course s t) b aim)) (sym nth_is) ∙ here) d)

      by : Before script s j t cmd b aim → Trail script t b (places_of script cmd b aim) (suc (course s t).dry) (search_of script t b j ++ made script s t cmd at k' ∷ [])
      by (inl h) =
          subst (λ n. Trail script t b (places_of script cmd b aim) (suc n) (search_of script t b j ++ made script s t cmd at k' ∷ [])) (sym h.1)
          (trail_by_dry script t b (places_of script cmd b aim) (search_of script t b j) (made script s t cmd at k') h.2 (number ∙ ap Some h.1) is_dry_there (places_are script s t cmd at b aim aim_is) (free_first h.0 u))
      by (inr r) = trail_dry script t b (places_of script cmd b aim) (course s t).dry (search_of script t b j) (made script s t cmd at k') number is_dry_there r

  went_dry : (w : DryWhy) → Alike k' (kind.Dry b nth w) → (place : Place) → slice_get (forced_places (place_search script cmd (course s t) b aim).list) nth ≡ Some place → is_dry script s (course s t).skips b place ≡ true
      → ((place_search script cmd (course s t) b aim).forced ≡ false → no_first script s b (place_search script cmd (course s t) b aim).list ≡ true) → After (kind.Dry b nth w)
  went_dry w alike place here d u =
      subst (λ c. Stage script (applied script s (actor.Thread t) (kind.Dry b nth w)) (j ++ made script s t cmd at k' ∷ []) t c cmd) (sym (dry_course w)) (by (nth + 1 == all) refl)
    where
      all : ℕ
      all = length (forced_places (place_search_at_work script s (course s t) cmd b).list)

      trail : Trail script t b (places_of script cmd b aim) (suc (course s t).dry) (search_of script t b (j ++ made script s t cmd at k' ∷ []))
      trail = dry_trail w alike place here d u

      more : suc (course s t).dry ≡ nth + 1
      more = let e = nth_is in omega (arith, e)

      equal : (a b : ℕ) → (a == b) ≡ true → a ≡ b
      equal a b h = grind (arith, nat_tests)

      by : (q : Bool) → (nth + 1 == length (forced_places (place_search_at_work script s (course s t) cmd b).list)) ≡ q →
          Stage script (applied script s (actor.Thread t) (kind.Dry b nth w)) (j ++ made script s t cmd at k' ∷ []) t (gone_dry nth (length (forced_places (place_search_at_work script s (course s t) cmd b).list)) (course s t)) cmd
      by true e =
          spent (record {
            works = record { unmade = on.works.unmade; begun = on.works.begun; whole = on.works.whole };
            alone = lone;
            failed = ap (λ q. if q then Some deny.NoSpace else (course s t).fail) e;
            b = b;
            is_named = has_found (λ y. not (is_ready script s cmd y)) (named cmd) b seek.first;
            list = places_of script cmd b aim;
            trail = subst (λ n. Trail script t b (places_of script cmd b aim) n (search_of script t b (j ++ made script s t cmd at k' ∷ [])))
                (more ∙ (equal (nth + 1) (length (forced_places (place_search_at_work script s (course s t) cmd b).list)) e ∙ ap (λ l. length (forced_places l)) list_is)) trail;
          })
      by false e =
          pressed (record {
            works = record { unmade = on.works.unmade; begun = on.works.begun; whole = on.works.whole };
            fine = ap (λ q. if q then Some deny.NoSpace else (course s t).fail) e ∙ fine;
            b = b;
            aim = aim;
            seeking = seeking_same script s (applied script s (actor.Thread t) (kind.Dry b nth w)) cmd b aim (λ d h. refl) seek;
            trail = subst (λ n. Trail script t b (places_of script cmd b aim) n (search_of script t b (j ++ made script s t cmd at k' ∷ []))) more trail;
            quiet = λ d n. elsewhere script s t cmd at o j k' (kind.Dry b nth w) alike b d seek.first n (quiet d n);
          })

  pub searched : (k : Kind) → Alike k' k → Found script s (course s t) b (place_search script cmd (course s t) b aim) k → After k
  searched k alike (takes {mem} {spans}) = took mem spans alike
  searched k alike (catches {v} {w} u p free) = caught_one v w alike u p free
  searched k alike (dries {w} place here d y u) = went_dry w alike place here d u
