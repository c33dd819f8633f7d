-- What a search comes to where its places have no choice.
use Rattle.std.proofs.Common.{◌≡◌, ℕ, Bool, true, false, List, Option, Some, None, Ok, refl, sym, ◌∙◌, ap}
use Rattle.std.specs.Prelude.{◌&&◌, ◌||◌, not, is_some}
use Rattle.ttm_base.specs.declared.Actor.TheVariants as actor
use Rattle.ttm_base.specs.declared.Mem.{Mem}
use Rattle.ttm_base.specs.declared.Span.{Span}
use Rattle.ttm_base.specs.Placement.{first_places}
use Rattle.journal_model.specs.declared.script.Script.{Script}
use Rattle.journal_model.specs.declared.state.Course.{Course}
use Rattle.journal_model.specs.declared.state.State.{State}
use Rattle.journal_model.specs.declared.entry.Kind.TheVariants as kind
use Rattle.journal_model.specs.rules.State.{course}
use Rattle.journal_model.specs.rules.Choice.{choice}
use Rattle.journal_model.specs.rules.Search.{Step, first_choice, step_of_crowded, step_of_place_search}
use Rattle.journal_model.specs.rules.Next.{next}
use Rattle.room_state.specs.turns.Searching.{BufferSearch, finds_choice, has_choice, buffer_search_of, place_at_work}
use Rattle.room_state.proofs.turns.BufferSearched.{buffer_searcher_next}

module _ (script : Script) (s : State) (c : Course) (h : BufferSearch) where
  abbrev first : Option (Mem × List Span)
  first = first_choice script s h.b (first_places h.place_search.list)

  abbrev at_work : Option (List Span)
  at_work = choice script s.core h.b (place_at_work h.place_search)

  abbrev crowded_step : Step
  crowded_step = step_of_crowded script s c h.b h.place_search.dry (place_at_work h.place_search)

  -- at the forced place
  abbrev forced_by : Option (List Span) → Step
  forced_by o = elim o [ Some spans ↦ Ok (kind.Take h.b (place_at_work h.place_search).mem spans) | None ↦ crowded_step ]

  -- before it
  abbrev first_by : Option (Mem × List Span) → Step
  first_by o = elim o [ Some found ↦ Ok (kind.Take h.b found.0 found.1) | None ↦ forced_by at_work ]

  abbrev step_by : Bool → Step
  step_by q = elim q [ true ↦ forced_by at_work | false ↦ first_by first ]

  step_is : step_of_place_search script s c h.b h.place_search ≡ step_by h.place_search.forced
  step_is = refl

  -- the first places have one
  pub takes_first : (found : Mem × List Span) → h.place_search.forced ≡ false → first ≡ Some found → step_of_place_search script s c h.b h.place_search ≡ Ok (kind.Take h.b found.0 found.1)
  takes_first found f e = ap step_by f ∙ ap first_by e

  -- the forced place has one
  pub takes_forced : (spans : List Span) → h.place_search.forced ≡ true → at_work ≡ Some spans → step_of_place_search script s c h.b h.place_search ≡ Ok (kind.Take h.b (place_at_work h.place_search).mem spans)
  takes_forced spans f e = ap step_by f ∙ ap forced_by e

  -- the forced place alone has one
  pub takes_last : (spans : List Span) → h.place_search.forced ≡ false → first ≡ None → at_work ≡ Some spans → step_of_place_search script s c h.b h.place_search ≡ Ok (kind.Take h.b (place_at_work h.place_search).mem spans)
  takes_last spans f n e = ap step_by f ∙ ap first_by n ∙ ap forced_by e

  -- no place has one
  pub crowded : has_choice script s h ≡ false → step_of_place_search script s c h.b h.place_search ≡ crowded_step
  crowded e = by h.place_search.forced first at_work refl refl refl e
    where
      by : (f : Bool) (o : Option (Mem × List Span)) (p : Option (List Span)) → h.place_search.forced ≡ f → first ≡ o → at_work ≡ p → (not f && is_some o || is_some p) ≡ false → step_of_place_search script s c h.b h.place_search ≡ crowded_step
      by f o (Some spans) a b d e = absurd (full (not f && is_some o) e)
        where
          full : (q : Bool) → (q || true) ≡ false → ⊥
          full true e = cc
          full false e = cc
      by true o None a b d e = ap step_by a ∙ ap forced_by d
      by false None None a b d e = ap step_by a ∙ ap first_by b ∙ ap forced_by d
      by false (Some x) None a b d e = cc

-- of a thread's search
pub crowded_next : (script : Script) (s : State) (t : ℕ) (h : BufferSearch) → buffer_search_of script s t ≡ Some h → finds_choice script s t ≡ false →
    next script s (actor.Thread t) ≡ step_of_crowded script s (course s t) h.b h.place_search.dry (place_at_work h.place_search)
crowded_next script s t h at n =
    let none : has_choice script s h ≡ false = sym (ap (λ o. elim o [ Some h ↦ has_choice script s h | None ↦ false ]) at) ∙ n in
    buffer_searcher_next script s t h at ∙ crowded script s (course s t) h none
