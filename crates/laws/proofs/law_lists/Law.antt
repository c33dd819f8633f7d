-- In every state that a legal journal leads to, each live buffer without pins is on its own list, and nothing else is on any.
use Rattle.std.proofs.Common.{◌≡◌, ℕ, zero, suc, Bool, true, false, List, [], ◌∷◌, Option, Some, None, Ok, IsTrue, refl, sym, ◌∙◌, ap, subst, arith}
use Rattle.std.specs.Prelude.{slice_get, map, replicate, option_and_then, ◌==◌, if◌then◌else◌}
use Rattle.std.proofs.lemmas.Bool.{eqb-true, eq-eqb, or_left, or_right}
use Rattle.ttm_base.specs.declared.BufId.{BufId}
use Rattle.ttm_base.specs.declared.Actor.{Actor}
use Rattle.ttm_base.specs.declared.Actor.TheVariants as actor
use Rattle.journal_model.specs.declared.script.Script.{Script}
use Rattle.journal_model.specs.declared.state.State.{State}
use Rattle.journal_model.specs.declared.state.Buffer.{Buffer}
use Rattle.journal_model.specs.declared.entry.Entry.{Entry}
use Rattle.journal_model.specs.declared.entry.Kind.{Kind}
use Rattle.journal_model.specs.rules.State.{live_in, reservation}
use Rattle.journal_model.specs.rules.Commands.{decl}
use Rattle.journal_model.specs.rules.Lists.{list_number, is_member}
use Rattle.journal_model.specs.rules.Next.{next}
use Rattle.journal_model.specs.rules.Apply.{applied}
use Rattle.journal_model.specs.scripts.ScriptRules.{is_script}
use Rattle.journal_model.specs.rules.Legal.{World, first_state, first_world, world_after, world_along, state_of, IsLegalFrom, IsLegal}
use Rattle.laws.proofs.law_state.Shown.{legal_step}
use Rattle.laws.proofs.law_state.JournalCourses.{is_of_engine, is_of_reaper, of_engine, of_reaper}
use Rattle.laws.specs.law_state.GoodState.{GoodState}
use Rattle.laws.specs.law_state.Courses.{GoodCourses}
use Rattle.laws.proofs.law_state.Rules.{Rules, rules_of}
use Rattle.laws.proofs.law_state.GoodStates.{good_keeps, good_first}
use Rattle.laws.proofs.law_state.Pins.{courses_keep, courses_law}
use Rattle.laws.specs.law_sound.Sound.{Sound}
use Rattle.laws.proofs.law_sound.Along.{of_worker, stepped_of, sound_keeps, sound_first}
use Rattle.laws.specs.law_lists.GoodLists.{IsOn, BelongsOn, GoodLists}
use Rattle.laws.proofs.law_lists.Bunches.{side_by_side}
use Rattle.laws.proofs.law_lists.OneList.{list_of, list_in, is_number, Stands, nothing_stands}
use Rattle.laws.proofs.law_lists.TwelveLists.{get_below, number_below}
use Rattle.laws.proofs.law_lists.Keeps.{AreListed, listed_keeps, listed_stays}

-- what is carried along
pub record Carried (script : Script) (s : State) : Type 0 where
  pub good : GoodState script s
  pub courses : GoodCourses script s
  pub sound : Sound script s
  pub listed : AreListed script s

entry_listed : (script : Script) → Rules script → (s : State) (who : Actor) (k : Kind) → Carried script s → next script s who ≡ Ok k → AreListed script (applied script s who k)
entry_listed script r s (actor.Thread t) k c h = listed_keeps script r s t c.good c.courses c.listed k (stepped_of script s t k c.sound.owned.courses h)
entry_listed script r s (actor.Engine e) k c h = listed_stays script s (actor.Engine e) k (of_worker k (or_left (is_of_engine k) (is_of_reaper k) (of_engine script s e k h))) c.listed
entry_listed script r s actor.Reaper k c h = listed_stays script s actor.Reaper k (of_worker k (or_right (is_of_engine k) (is_of_reaper k) (of_reaper script s k h))) c.listed

carried_keeps : (script : Script) → Rules script → (s : State) (who : Actor) (k : Kind) → Carried script s → next script s who ≡ Ok k → Carried script (applied script s who k)
carried_keeps script r s who k c h =
    record {
      good = good_keeps script r s who k c.good h;
      courses = courses_keep script s who k c.courses h;
      sound = sound_keeps script r s who k c.good c.sound h;
      listed = entry_listed script r s who k c h;
    }

-- ---- the first state

nobody_lives : {X : Type 0} (xs : List X) (i : ℕ) → ◌≡◌ {A = Option Buffer} (option_and_then (λ x. x) (slice_get (map (λ d. None) xs) i)) None
nobody_lives [] i = refl
nobody_lives (x ∷ xs) zero = refl
nobody_lives (x ∷ xs) (suc i) = nobody_lives xs i

none_listed : (script : Script) (d : BufId) → list_in script (first_state script).reservations (first_state script).core.buffers d ≡ None
none_listed script d = ap (list_of script d _) (nobody_lives script.buffers d.0)

empty_list : (n i : ℕ) (l : List BufId) → slice_get (replicate n []) i ≡ Some l → l ≡ []
empty_list zero i l h = cc
empty_list (suc n) zero l h = let e : [] ≡ l = cc in sym e
empty_list (suc n) (suc i) l h = empty_list n i l h

first_listed : (script : Script) → AreListed script (first_state script)
first_listed script =
    record {
      twelve = refl;
      each = λ i l h.
          subst (Stands script (list_in script (first_state script).reservations (first_state script).core.buffers) i) (sym (empty_list 12 i l h))
          (nothing_stands script (list_in script (first_state script).reservations (first_state script).core.buffers) i (none_listed script));
    }

-- ---- along a journal

carried_along : (script : Script) → Rules script → (w : World) (es : List Entry) → Carried script w.state → IsLegalFrom script w es → Carried script (world_along script w es).state
carried_along script r w [] c h = c
carried_along script r w (e ∷ es) c h =
    let l = legal_step script w e h.0 in
    carried_along script r (world_after script w e) es (subst (Carried script) (sym l.state) (carried_keeps script r w.state e.who l.kind c l.step)) h.1

pub carried_law : (script : Script) (journal : List Entry) → IsTrue (is_script script) → IsLegal script journal → Carried script (state_of script journal)
carried_law script journal fits h =
    carried_along script (rules_of script fits) (first_world script) journal
    (record { good = good_first script; courses = courses_law script [] tt; sound = sound_first script; listed = first_listed script }) h

-- ---- in plain words

module _ (script : Script) (r : Rules script) (s : State) (h : AreListed script s) where
  on_own : (b : BufId) (x : Buffer) → live_in s.core.buffers b ≡ Some x → (reservation s b).pins ≡ 0 → IsOn s (list_number x.mem (decl script b).prio) b
  on_own b x live loose =
      let many = h.twelve in
      let low = number_below script r b x.mem in
      let l = get_below s.lists (list_number x.mem (decl script b).prio) (omega (arith, many, low)) in
      (l.0, l.1, (h.each (list_number x.mem (decl script b).prio) l.0 l.1).has b ∙ (ap (is_number (list_number x.mem (decl script b).prio)) (ap (list_of script b (reservation s b).pins) live) ∙ own (reservation s b).pins loose))
    where
      own : (pins : ℕ) → pins ≡ 0 → is_number (list_number x.mem (decl script b).prio) (list_of script b pins (Some x)) ≡ true
      own pins e = ap (λ p. is_number (list_number x.mem (decl script b).prio) (list_of script b p (Some x))) e ∙ eq-eqb (list_number x.mem (decl script b).prio) (list_number x.mem (decl script b).prio) refl

  belongs : (i : ℕ) (b : BufId) → IsOn s i b → BelongsOn script s i b
  belongs i b on = by (live_in s.core.buffers b) refl (sym ((h.each i on.0 on.1).has b) ∙ on.2)
    where
      by_pins : (x : Buffer) → live_in s.core.buffers b ≡ Some x → (q : Bool) → ((reservation s b).pins == 0) ≡ q → is_number i (if q then Some (list_number x.mem (decl script b).prio) else None) ≡ true → BelongsOn script s i b
      by_pins x e true p g = record { buffer = x; live = e; loose = eqb-true (reservation s b).pins 0 p; number = sym (eqb-true (list_number x.mem (decl script b).prio) i g) }
      by_pins x e false p g = cc

      by : (o : Option Buffer) → live_in s.core.buffers b ≡ o → is_number i (list_of script b (reservation s b).pins o) ≡ true → BelongsOn script s i b
      by None e g = cc
      by (Some x) e g = by_pins x e ((reservation s b).pins == 0) refl g

  good_lists : GoodLists script s
  good_lists =
      record {
        twelve = h.twelve;
        listed = on_own;
        no_other = belongs;
        once = λ i l k. (h.each i l k).once;
        groups = λ i l group k. side_by_side (is_member script group) l ((h.each i l k).groups group);
      }

pub lists_law : (script : Script) (journal : List Entry) → IsTrue (is_script script) → IsLegal script journal → GoodLists script (state_of script journal)
lists_law script journal fits h = good_lists script (rules_of script fits) (state_of script journal) (carried_law script journal fits h).listed
