-- Mappings follow a turn of an actor, and their entries name the places that pages have.
use Rattle.std.proofs.Common.{◌≡◌, ℕ, suc, Bool, true, false, cond, List, [], ◌∷◌, ◌++◌, Option, Some, None, Contains, find, refl, sym, subst, ◌∙◌, ap, arith}
use Rattle.std.specs.Prelude.{Result, Ok, Err, option_and_then, option_map}
use Rattle.ttm_base.specs.declared.Actor.{Actor}
use Rattle.ttm_base.specs.declared.Need.{Need}
use Rattle.ttm_base.specs.Pages.{Page}
use Rattle.journal_model.specs.declared.entry.Entry.{Entry}
use Rattle.journal_model.specs.rules.Legal.{IsLegal, made_of, state_of}
use Rattle.journal_model.specs.marks.Mapped.{Mapping, count_answers, is_through, mapped_entry, mappings}
use Rattle.journal_model.specs.statements.MarkLaws.{MapsAreRight}
use Rattle.journal_model.specs.rules.Places.{place_of}
use Rattle.journal_model.proofs.JournalLaws.{IsLegal-append}
use Rattle.laws.proofs.law_state.Turns.{next_is_legal}
use Rattle.law_legal.specs.law_maps.Following.{page_there}
use Rattle.law_legal.proofs.law_maps.Right.{maps_right}
use Rattle.cpu_maps.specs.declared.area.Area.{Area}
use Rattle.map_follow.specs.Follows.{Follows, standing}
use Rattle.map_follow.specs.Laws.{areas_after}
use Rattle.map_follow.proofs.Law.{entries_followed}
use Rattle.map_follow.proofs.Standing.{found_passes, through_is}
use Rattle.room_state.specs.declared.turns.Step.{Step}
use Rattle.room_state.specs.declared.turns.Step.TheVariants as step
use Rattle.room_state.specs.turns.Turns.{step_of}
use Rattle.device_core.specs.Kept.{Kept, after_step, entry_of, world_behind}
use Rattle.device_core.specs.Mapped.{IsDevice, NamePlaces}

-- an actor's next entry keeps the journal legal
legal_with : (k : Kept) (who : Actor) (e : Entry) → IsLegal k.script k.journal → entry_of k who ≡ Ok e → IsLegal k.script (k.journal ++ e ∷ [])
legal_with k who e legal h = IsLegal-append k.script k.journal e legal (next_is_legal k.script (world_behind k) who e h)

-- ---- a turn

module _ (k now : Kept) (who : Actor) (areas new : List Area) (device : IsDevice k areas) (made : now ≡ after_step k (entry_of k who)) where
  pub device_made : (answer : Step) → answer ≡ step.Made → answer ≡ step_of (entry_of k who) →
      ((before : List Entry) (e : Entry) → now.journal ≡ before ++ e ∷ [] → new ≡ areas_after now.script (state_of now.script before) e areas) → IsDevice now new
  device_made answer is told put = by (entry_of k who) refl made (sym told ∙ is)
    where
      by : (r : Result Entry Need) → entry_of k who ≡ r → now ≡ after_step k r → step_of r ≡ step.Made → IsDevice now new
      by (Err need) q at g = cc
      by (Ok e) q at g =
          let legal = legal_with k who e device.legal q in
          let areas_are : new ≡ areas_after k.script (state_of k.script k.journal) e areas =
          put k.journal e (ap (λ (z : Kept). z.journal) at) ∙ ap (λ s. areas_after s (state_of s k.journal) e areas) (ap (λ (z : Kept). z.script) at) in
          subst (λ (z : Kept). IsDevice z new) (sym at)
          (record {
            fits = device.fits;
            legal = legal;
            follows = subst (Follows k.script (made_of k.script (k.journal ++ e ∷ []))) (sym areas_are) (entries_followed k.script k.journal e areas device.fits legal device.follows);
          })

  pub device_needed : (need : Need) (answer : Step) → answer ≡ step.Need need → answer ≡ step_of (entry_of k who) → new ≡ areas → IsDevice now new
  device_needed need answer is told same = by (entry_of k who) made (sym told ∙ is)
    where
      by : (r : Result Entry Need) → now ≡ after_step k r → step_of r ≡ step.Need need → IsDevice now new
      by (Ok e) at g = cc
      by (Err other) at g = subst (λ (z : Kept). IsDevice z new) (sym at) (subst (IsDevice k) (sym same) device)

-- ---- places

-- what is found in a list is one of its elements
found_within : (p : Mapping → Bool) (xs : List Mapping) (x : Mapping) → find p xs ≡ Some x → Contains xs x
found_within p [] x h = cc
found_within p (y ∷ ys) x h = by (p y) h (found_within p ys x)
  where
    by : (a : Bool) → cond a (Some y) (find p ys) ≡ Some x → (find p ys ≡ Some x → Contains ys x) → Contains (y ∷ ys) x
    by true g rest = let same : y ≡ x = cc in (0, omega arith, same)
    by false g rest = let r = rest g in let l = r.1 in (suc r.0, omega (arith, l), r.2)

module _ (k : Kept) (areas : List Area) (device : IsDevice k areas) where
  -- each entry names the place that the page has
  pub names_places : NamePlaces k areas
  names_places thread b i place at = by (standing k.script thread n b) refl
    where
      n : ℕ
      n = count_answers thread (made_of k.script k.journal)

      entry : Option Mapping → Option Page
      entry o = option_and_then (λ m. mapped_entry k.script (made_of k.script k.journal) m i) o

      is_known : entry (standing k.script thread n b) ≡ Some (page_there place)
      is_known = sym (device.follows.know thread b i) ∙ ap (option_map page_there) at

      by : (o : Option Mapping) → standing k.script thread n b ≡ o → page_there place ≡ place_of (state_of k.script k.journal).core b i
      by None e = let z : entry None ≡ Some (page_there place) = sym (ap entry e) ∙ is_known in cc
      by (Some m) e =
          let through = through_is thread n b m (found_passes (λ m. is_through m thread n (record { b = b; off = 0; len = 0 })) (mappings k.script) m e) in
          let has = found_within (λ m. is_through m thread n (record { b = b; off = 0; len = 0 })) (mappings k.script) m e in
          subst (λ c. page_there place ≡ place_of (state_of k.script k.journal).core c i) through.same
          (maps_right k.script k.journal device.fits device.legal m i (page_there place) has (sym (ap entry e) ∙ is_known))

  -- so does each that the definitions give a mapping
  pub right_now : MapsAreRight k.script k.journal
  right_now = maps_right k.script k.journal device.fits device.legal
