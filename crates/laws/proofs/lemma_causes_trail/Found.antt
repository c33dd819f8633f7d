-- What a search that takes, evicts or goes dry tells of the state, and a fill that finds nothing.
use Rattle.std.proofs.Common.{◌≡◌, ℕ, Bool, true, false, List, [], ◌∷◌, Option, Some, None, Ok, Err, refl, sym, ◌∙◌, ap, subst, ◌⊎◌, inl, inr}
use Rattle.std.specs.Prelude.{slice_get, unwrap_or, is_none, not, ◌&&◌, ◌||◌, if◌then◌else◌}
use Rattle.std.specs.List.{list_all}
use Rattle.std.proofs.lemmas.Bool.{both_ways, or_right}
use Rattle.ttm_base.specs.declared.Mem.{Mem}
use Rattle.ttm_base.specs.declared.Mem.TheVariants.{System, Tt, Vram}
use Rattle.ttm_base.specs.declared.BufId.{BufId}
use Rattle.ttm_base.specs.declared.Place.{Place}
use Rattle.ttm_base.specs.declared.FlaggedPlace.{FlaggedPlace}
use Rattle.ttm_base.specs.declared.Span.{Span}
use Rattle.ttm_base.specs.declared.Need.TheVariants as need
use Rattle.ttm_base.specs.Placement.{first_places, forced_places}
use Rattle.journal_model.specs.declared.script.Script.{Script}
use Rattle.journal_model.specs.declared.state.State.{State}
use Rattle.journal_model.specs.declared.state.Ghost.{Ghost}
use Rattle.journal_model.specs.declared.state.Course.{Course}
use Rattle.journal_model.specs.declared.entry.Kind.{Kind}
use Rattle.journal_model.specs.declared.entry.Kind.TheVariants as kind
use Rattle.journal_model.specs.declared.entry.Why.{Why}
use Rattle.journal_model.specs.declared.entry.Why.TheVariants as why
use Rattle.journal_model.specs.declared.entry.DryWhy.{DryWhy}
use Rattle.journal_model.specs.declared.entry.DryWhy.TheVariants as dry
use Rattle.ttm_base.specs.declared.Loc.{Loc}
use Rattle.ttm_base.specs.declared.Loc.TheVariants as loc
use Rattle.journal_model.specs.rules.State.{buffer}
use Rattle.journal_model.specs.rules.Commands.{whole}
use Rattle.journal_model.specs.rules.Places.{loc_of}
use Rattle.journal_model.specs.rules.Holds.{free_frame, free_slot}
use Rattle.journal_model.specs.rules.Choice.{choice, choice_in}
use Rattle.journal_model.specs.rules.Dry.{is_long_enough, victim, ghost_in, is_dry, causes, dry_why, swap_victim, ghost_with_frame}
use Rattle.journal_model.specs.rules.Search.{Step, PlaceSearch, why_of, step_of_crowded, step_of_forced_place, step_of_forced, first_choice, step_of_place_search}
use Rattle.journal_model.specs.rules.PageSteps.{page_to_fill, filled_by, step_without_victim, step_without_frame, step_of_fill}
use Rattle.journal_model.specs.statements.Causes.{presses}
use Rattle.laws.proofs.law_sound.Reservations.{IsFree, victim_free}

-- no place that is tried first has a choice
abbrev pub no_first : Script → State → BufId → List FlaggedPlace → Bool
no_first script s b list = list_all (λ place. is_none (choice script s.core b place)) (first_places list)

-- where it isn't yet under pressure
abbrev pub Unchosen : Script → State → BufId → PlaceSearch → Type 0
Unchosen script s b q = q.forced ≡ false → no_first script s b q.list ≡ true

pub data Found (script : Script) (s : State) (c : Course) (b : BufId) (q : PlaceSearch) : Kind → Type 0 where
  takes : {mem : Mem} {spans : List Span} → Found script s c b q (kind.Take b mem spans)
  catches : {v : BufId} {w : Why} → Unchosen script s b q → presses (kind.Catch v w) ≡ true → IsFree s v → Found script s c b q (kind.Catch v w)
  dries : {w : DryWhy} (place : Place) → slice_get (forced_places q.list) q.dry ≡ Some place → is_dry script s c.skips b place ≡ true → w ≡ dry_why script s b place → Unchosen script s b q → Found script s c b q (kind.Dry b q.dry w)

-- a place in SYSTEM has a choice
in_system : (script : Script) (s : State) (b : BufId) (place : Place) → choice script s.core b place ≡ None → place.mem ≡ System → ⊥
in_system script s b place lacks e = clash (sym (ap (λ m. choice_in m script s.core b place) e) ∙ lacks)
  where
    clash : ◌≡◌ {A = Option (List Span)} (Some []) None → ⊥
    clash h = cc

why_presses : (v : BufId) (m : Mem) → (m ≡ System → ⊥) → presses (kind.Catch v (why_of m)) ≡ true
why_presses v System n = absurd (n refl)
why_presses v Tt n = refl
why_presses v Vram n = refl

module _ (script : Script) (s : State) (c : Course) (b : BufId) (q : PlaceSearch) where
  short_dry : (place : Place) → is_long_enough script b place ≡ false → is_dry script s c.skips b place ≡ true
  short_dry place e = ap (λ l. not l || (is_none (choice script s.core b place) && is_none (victim script s c.skips place) && is_none (ghost_in script s place))) e

  crowded_dry : (place : Place) → choice script s.core b place ≡ None → victim script s c.skips place ≡ None → ghost_in script s place ≡ None → is_dry script s c.skips b place ≡ true
  crowded_dry place e f g =
      or_right (not (is_long_enough script b place)) (is_none (choice script s.core b place) && is_none (victim script s c.skips place) && is_none (ghost_in script s place))
      (ap (λ o. is_none o && is_none (victim script s c.skips place) && is_none (ghost_in script s place)) e
      ∙ (ap (λ o. is_none o && is_none (ghost_in script s place)) f ∙ ap is_none g))

  crowded_found : Unchosen script s b q → (place : Place) → slice_get (forced_places q.list) q.dry ≡ Some place → choice script s.core b place ≡ None → (k : Kind) →
      step_of_crowded script s c b q.dry place ≡ Ok k → Found script s c b q k
  crowded_found none place at lacks k h = by_long (is_long_enough script b place) refl h
    where
      by_ghost : is_long_enough script b place ≡ true → victim script s c.skips place ≡ None → (o : Option Ghost) → ghost_in script s place ≡ o →
          ◌≡◌ {A = Step} (elim o [ Some g ↦ Err (need.Ghost g.num) | None ↦ Ok (kind.Dry b q.dry (dry.Of (causes script s place))) ]) (Ok k) → Found script s c b q k
      by_ghost long e (Some g) f h = cc
      by_ghost long e None f h = let it : kind.Dry b q.dry (dry.Of (causes script s place)) ≡ k = cc in subst (Found script s c b q) it (dries place at (crowded_dry place lacks e f) (ap (λ l. if l then dry.Of (causes script s place) else dry.Short) (sym long)) none)

      by_victim : is_long_enough script b place ≡ true → (o : Option BufId) → victim script s c.skips place ≡ o →
          ◌≡◌ {A = Step} (elim o [
            | Some v ↦ Ok (kind.Catch v (why_of place.mem))
            | None ↦ elim (ghost_in script s place) [ Some g ↦ Err (need.Ghost g.num) | None ↦ Ok (kind.Dry b q.dry (dry.Of (causes script s place))) ]
          ]) (Ok k) → Found script s c b q k
      by_victim long (Some v) e h =
          let it : kind.Catch v (why_of place.mem) ≡ k = cc in
          subst (Found script s c b q) it (catches none (why_presses v place.mem (in_system script s b place lacks)) (victim_free script s c.skips place v e))
      by_victim long None e h = by_ghost long e (ghost_in script s place) refl h

      by_long : (l : Bool) → is_long_enough script b place ≡ l →
          ◌≡◌ {A = Step} (elim l [
            | false ↦ Ok (kind.Dry b q.dry dry.Short)
            | true ↦ elim (victim script s c.skips place) [
              | Some v ↦ Ok (kind.Catch v (why_of place.mem))
              | None ↦ elim (ghost_in script s place) [ Some g ↦ Err (need.Ghost g.num) | None ↦ Ok (kind.Dry b q.dry (dry.Of (causes script s place))) ]
            ]
          ]) (Ok k) → Found script s c b q k
      by_long false e h = let it : kind.Dry b q.dry dry.Short ≡ k = cc in subst (Found script s c b q) it (dries place at (short_dry place e) (ap (λ l. if l then dry.Of (causes script s place) else dry.Short) (sym e)) none)
      by_long true e h = by_victim e (victim script s c.skips place) refl h

  took : (mem : Mem) (spans : List Span) (k : Kind) → ◌≡◌ {A = Step} (Ok (kind.Take b mem spans)) (Ok k) → Found script s c b q k
  took mem spans k h = let it : kind.Take b mem spans ≡ k = cc in subst (Found script s c b q) it takes

  forced_found : Unchosen script s b q → (k : Kind) → step_of_forced script s c b q.dry (forced_places q.list) ≡ Ok k → Found script s c b q k
  forced_found none k h = by_place (slice_get (forced_places q.list) q.dry) refl h
    where
      by_choice : (place : Place) → slice_get (forced_places q.list) q.dry ≡ Some place → (o : Option (List Span)) → choice script s.core b place ≡ o →
          ◌≡◌ {A = Step} (elim o [ Some spans ↦ Ok (kind.Take b place.mem spans) | None ↦ step_of_crowded script s c b q.dry place ]) (Ok k) → Found script s c b q k
      by_choice place at (Some spans) e h = took place.mem spans k h
      by_choice place at None e h = crowded_found none place at e k h

      by_place : (o : Option Place) → slice_get (forced_places q.list) q.dry ≡ o → step_of_forced_place script s c b q.dry (unwrap_or o (whole System)) ≡ Ok k → Found script s c b q k
      by_place (Some place) at h = by_choice place at (choice script s.core b place) refl h
      by_place None at h = took System [] k h

  unchosen : (places : List Place) → first_choice script s b places ≡ None → list_all (λ place. is_none (choice script s.core b place)) places ≡ true
  unchosen [] h = refl
  unchosen (p ∷ places) h = by (λ k. unchosen places k) (choice script s.core b p) h
    where
      by : (first_choice script s b places ≡ None → list_all (λ place. is_none (choice script s.core b place)) places ≡ true) → (o : Option (List Span)) →
          ◌≡◌ {A = Option (Mem × List Span)} (elim o [ Some spans ↦ Some (p.mem, spans) | None ↦ first_choice script s b places ]) None → (is_none o && list_all (λ place. is_none (choice script s.core b place)) places) ≡ true
      by later (Some spans) h = cc
      by later None h = later h

  pub place_search_found : (k : Kind) → step_of_place_search script s c b q ≡ Ok k → Found script s c b q k
  place_search_found k h = by_forced q.forced refl h
    where
      by_first : q.forced ≡ false → (o : Option (Mem × List Span)) → first_choice script s b (first_places q.list) ≡ o →
          ◌≡◌ {A = Step} (elim o [ Some found ↦ Ok (kind.Take b found.0 found.1) | None ↦ step_of_forced script s c b q.dry (forced_places q.list) ]) (Ok k) → Found script s c b q k
      by_first f (Some found) e h = took found.0 found.1 k h
      by_first f None e h = forced_found (λ g. unchosen (first_places q.list) e) k h

      by_forced : (f : Bool) → q.forced ≡ f →
          ◌≡◌ {A = Step} (elim f [
            | true ↦ step_of_forced script s c b q.dry (forced_places q.list)
            | false ↦ elim (first_choice script s b (first_places q.list)) [
              | Some found ↦ Ok (kind.Take b found.0 found.1)
              | None ↦ step_of_forced script s c b q.dry (forced_places q.list)
            ]
          ]) (Ok k) → Found script s c b q k
      by_forced true e h = forced_found (λ f. absurd (both_ways q.forced f e)) k h
      by_forced false e h = by_first e (first_choice script s b (first_places q.list)) refl h

-- ---- a fill that finds nothing

pub record Starved (script : Script) (s : State) : Type 0 where
  pub frames : free_frame script s.core ≡ None
  pub ghosts : ghost_with_frame s ≡ None
  pub slots : (free_slot script s.core ≡ None) ⊎ (swap_victim s ≡ None)

pub fill_starved : (script : Script) (s : State) (b d : BufId) → step_of_fill script s b ≡ Ok (kind.NoPages d) → Starved script s
fill_starved script s b d h = by_frame (free_frame script s.core) refl h
  where
    by_ghost : free_frame script s.core ≡ None → (free_slot script s.core ≡ None) ⊎ (swap_victim s ≡ None) → (o : Option Ghost) → ghost_with_frame s ≡ o →
        ◌≡◌ {A = Step} (elim o [ Some g ↦ Err (need.Ghost g.num) | None ↦ Ok (kind.NoPages b) ]) (Ok (kind.NoPages d)) → Starved script s
    by_ghost f n (Some g) e h = cc
    by_ghost f n None e h = record { frames = f; ghosts = e; slots = n }

    by_victim : free_frame script s.core ≡ None → (o : Option BufId) → swap_victim s ≡ o →
        ◌≡◌ {A = Step} (elim o [ Some v ↦ Ok (kind.Catch v why.Swap) | None ↦ step_without_victim s b ]) (Ok (kind.NoPages d)) → Starved script s
    by_victim f (Some v) e h = cc
    by_victim f None e h = by_ghost f (inr e) (ghost_with_frame s) refl h

    by_slot : free_frame script s.core ≡ None → (o : Option ℕ) → free_slot script s.core ≡ o →
        ◌≡◌ {A = Step} (elim o [
          | None ↦ step_without_victim s b
          | Some slot ↦ elim (swap_victim s) [ Some v ↦ Ok (kind.Catch v why.Swap) | None ↦ step_without_victim s b ]
        ]) (Ok (kind.NoPages d)) → Starved script s
    by_slot f None e h = by_ghost f (inl e) (ghost_with_frame s) refl h
    by_slot f (Some slot) e h = by_victim f (swap_victim s) refl h

    filled : (frame : ℕ) (l : Loc) → ◌≡◌ {A = Step} (Ok (filled_by b (page_to_fill (buffer s b)) frame l)) (Ok (kind.NoPages d)) → ⊥
    filled frame loc.Zero h = cc
    filled frame (loc.Frame n) h = cc
    filled frame (loc.Slot n) h = cc

    by_frame : (o : Option ℕ) → free_frame script s.core ≡ o →
        ◌≡◌ {A = Step} (elim o [ Some frame ↦ Ok (filled_by b (page_to_fill (buffer s b)) frame (loc_of (buffer s b) (page_to_fill (buffer s b)))) | None ↦ step_without_frame script s b ]) (Ok (kind.NoPages d)) → Starved script s
    by_frame (Some frame) e h = absurd (filled frame (loc_of (buffer s b) (page_to_fill (buffer s b))) h)
    by_frame None e h = by_slot e (free_slot script s.core) refl h
