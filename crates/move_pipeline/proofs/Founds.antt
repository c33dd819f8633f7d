-- What a search finds is what it takes.
use Rattle.std.proofs.Common.{◌≡◌, ℕ, zero, suc, ◌+◌, Bool, true, false, List, [], ◌∷◌, Option, Some, None, Ok, drop, refl, sym, ◌∙◌, ap, arith}
use Rattle.std.specs.Prelude.{◌&&◌, ◌||◌, not, is_some, option_map, slice_get}
use Rattle.ttm_base.specs.declared.Actor.TheVariants as actor
use Rattle.ttm_base.specs.declared.BufId.{BufId}
use Rattle.ttm_base.specs.declared.Mem.{Mem}
use Rattle.ttm_base.specs.declared.Span.{Span}
use Rattle.ttm_base.specs.declared.FlaggedPlace.{FlaggedPlace}
use Rattle.ttm_base.specs.Placement.{first_places}
use Rattle.journal_model.specs.declared.script.Script.{Script}
use Rattle.journal_model.specs.declared.state.Course.{Course}
use Rattle.journal_model.specs.declared.state.State.{State}
use Rattle.journal_model.specs.declared.entry.Kind.TheVariants as kind
use Rattle.journal_model.specs.rules.State.{course}
use Rattle.journal_model.specs.rules.Choice.{choice}
use Rattle.journal_model.specs.rules.Search.{first_choice, step_of_place_search}
use Rattle.room_state.specs.turns.Turns.{Kept, state_behind}
use Rattle.room_state.specs.turns.Searching.{BufferSearch, finds_choice, has_choice, buffer_search_of, place_at_work}
use Rattle.room_state.specs.turns.Turns.{entry_of}
use Rattle.room_state.proofs.turns.Threads.{entry_is}
use Rattle.room_state.proofs.turns.BufferSearched.{buffer_searcher_next}
use Rattle.room_state.proofs.turns.Finds.{takes_first, takes_forced, takes_last}
use Rattle.move_pipeline.specs.Finds.{found, found_at, or_else, tried_at}

-- ---- place by place

dropped : {X : Type 0} (xs : List X) (i : ℕ) (x : X) → slice_get xs i ≡ Some x → drop i xs ≡ x ∷ drop (i + 1) xs
dropped [] i x e = cc
dropped (y ∷ xs) zero x e = let same : y ≡ x = cc in let n : 0 + 1 ≡ suc zero = omega arith in ap (λ z. z ∷ xs) same ∙ ap (λ k. x ∷ drop k (y ∷ xs)) (sym n)
dropped (y ∷ xs) (suc i) x e = let n : suc i + 1 ≡ suc (i + 1) = omega arith in dropped xs i x e ∙ ap (λ k. x ∷ drop k (y ∷ xs)) (sym n)

module _ (script : Script) (s : State) (b : BufId) where
  abbrev rest_of : List FlaggedPlace → Option (Mem × List Span)
  rest_of ps = first_choice script s b (first_places ps)

  -- the first place has a choice, or the others are tried
  one_first : (p : FlaggedPlace) (ps : List FlaggedPlace) → rest_of (p ∷ ps) ≡ or_else (tried_at script s b p) (rest_of ps)
  one_first p ps = by p.fallback refl
    where
      by_choice : (o : Option (List Span)) → elim o [ Some spans ↦ Some (p.place.mem, spans) | None ↦ rest_of ps ] ≡ or_else (option_map (λ spans. (p.place.mem, spans)) o) (rest_of ps)
      by_choice None = refl
      by_choice (Some spans) = refl

      by : (q : Bool) → p.fallback ≡ q → rest_of (p ∷ ps) ≡ or_else (elim q [ true ↦ None | false ↦ found_at script s b p.place ]) (rest_of ps)
      by true f = rw f refl
      by false f = rw f (by_choice (choice script s.core b p.place))

  by_one : (ps : List FlaggedPlace) (i : ℕ) (p : FlaggedPlace) (o : Option (Mem × List Span)) → slice_get ps i ≡ Some p → o ≡ tried_at script s b p → rest_of (drop i ps) ≡ or_else o (rest_of (drop (i + 1) ps))
  by_one ps i p o at e = ap rest_of (dropped ps i p at) ∙ one_first p (drop (i + 1) ps) ∙ ap (λ o. or_else o (rest_of (drop (i + 1) ps))) (sym e)

  -- a place without a choice is passed over
  pub lacking : (ps : List FlaggedPlace) (i : ℕ) (p : FlaggedPlace) → slice_get ps i ≡ Some p → None ≡ tried_at script s b p → rest_of (drop i ps) ≡ rest_of (drop (i + 1) ps)
  lacking ps i p at e = by_one ps i p None at e

  -- one with a choice is the first
  pub having : (ps : List FlaggedPlace) (i : ℕ) (p : FlaggedPlace) (x : Mem × List Span) → slice_get ps i ≡ Some p → Some x ≡ tried_at script s b p → Some x ≡ rest_of (drop i ps)
  having ps i p x at e = sym (by_one ps i p (Some x) at e)

-- ---- all of a search

module _ (script : Script) (s : State) (h : BufferSearch) where
  abbrev at_work : Option (Mem × List Span)
  at_work = found_at script s h.b (place_at_work h.place_search)

  -- the places tried first aren't tried, or have none, or have one
  abbrev by_first : Bool → Option (Mem × List Span) → Option (Mem × List Span)
  by_first q o = or_else (elim q [ true ↦ None | false ↦ o ]) at_work

  not_forced : (o : Option (Mem × List Span)) → h.place_search.forced ≡ false → o ≡ first_choice script s h.b (first_places h.place_search.list) → found script s h ≡ or_else o at_work
  not_forced o f e = ap (λ q. by_first q (first_choice script s h.b (first_places h.place_search.list))) f ∙ ap (λ o. or_else o at_work) (sym e)

  pub first_one : (x : Mem × List Span) → h.place_search.forced ≡ false → Some x ≡ first_choice script s h.b (first_places h.place_search.list) → Some x ≡ found script s h
  first_one x f e = sym (not_forced (Some x) f e)

  pub last_one : h.place_search.forced ≡ false → None ≡ first_choice script s h.b (first_places h.place_search.list) → at_work ≡ found script s h
  last_one f e = sym (not_forced None f e)

  pub forced_one : h.place_search.forced ≡ true → at_work ≡ found script s h
  forced_one f = sym (ap (λ q. by_first q (first_choice script s h.b (first_places h.place_search.list))) f)

  -- something is found where a place has a choice
  found_where : is_some (found script s h) ≡ has_choice script s h
  found_where = by h.place_search.forced (first_choice script s h.b (first_places h.place_search.list)) (choice script s.core h.b (place_at_work h.place_search))
    where
      by : (f : Bool) (o : Option (Mem × List Span)) (p : Option (List Span)) →
          is_some (or_else (elim f [ true ↦ None | false ↦ o ]) (option_map (λ spans. ((place_at_work h.place_search).mem, spans)) p)) ≡ (not f && is_some o || is_some p)
      by true o None = refl
      by true o (Some spans) = refl
      by false None None = refl
      by false None (Some spans) = refl
      by false (Some x) p = refl

  -- and it is what the search takes
  found_taken : (x : Mem × List Span) → found script s h ≡ Some x → (c : Course) → step_of_place_search script s c h.b h.place_search ≡ Ok (kind.Take h.b x.0 x.1)
  found_taken x e c = by h.place_search.forced (first_choice script s h.b (first_places h.place_search.list)) (choice script s.core h.b (place_at_work h.place_search)) refl refl refl e
    where
      by : (f : Bool) (o : Option (Mem × List Span)) (p : Option (List Span)) → h.place_search.forced ≡ f → first_choice script s h.b (first_places h.place_search.list) ≡ o → choice script s.core h.b (place_at_work h.place_search) ≡ p →
          or_else (elim f [ true ↦ None | false ↦ o ]) (option_map (λ spans. ((place_at_work h.place_search).mem, spans)) p) ≡ Some x → step_of_place_search script s c h.b h.place_search ≡ Ok (kind.Take h.b x.0 x.1)
      by true o None f a d g = cc
      by true o (Some spans) f a d g = let same : ((place_at_work h.place_search).mem, spans) ≡ x = cc in takes_forced script s c h spans f d ∙ ap (λ (y : Mem × List Span). Ok (kind.Take h.b y.0 y.1)) same
      by false (Some y) p f a d g = let same : y ≡ x = cc in takes_first script s c h y f a ∙ ap (λ (z : Mem × List Span). Ok (kind.Take h.b z.0 z.1)) same
      by false None None f a d g = cc
      by false None (Some spans) f a d g = let same : ((place_at_work h.place_search).mem, spans) ≡ x = cc in takes_last script s c h spans f a d ∙ ap (λ (y : Mem × List Span). Ok (kind.Take h.b y.0 y.1)) same

-- ---- of a thread

module _ (r : Kept) (t : ℕ) (h : BufferSearch) (at : buffer_search_of r.script (state_behind r) t ≡ Some h) where
  finds_as : finds_choice r.script (state_behind r) t ≡ has_choice r.script (state_behind r) h
  finds_as = ap (λ o. elim o [ Some h ↦ has_choice r.script (state_behind r) h | None ↦ false ]) at

  -- it is told where it finds something
  pub tells : (o : Option (Mem × List Span)) → o ≡ found r.script (state_behind r) h → is_some o ≡ finds_choice r.script (state_behind r) t
  tells o e = ap is_some e ∙ found_where r.script (state_behind r) h ∙ sym finds_as

  -- what it finds is taken next
  pub entry_takes : (x : Mem × List Span) → Some x ≡ found r.script (state_behind r) h → entry_of r (actor.Thread t) ≡ Ok (record { who = actor.Thread t; kind = kind.Take h.b x.0 x.1 })
  entry_takes x e = entry_is r t (kind.Take h.b x.0 x.1) refl (buffer_searcher_next r.script (state_behind r) t h at ∙ found_taken r.script (state_behind r) h x (sym e) (course (state_behind r) t))
