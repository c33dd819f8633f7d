-- A legal journal has at most as many entries as the measure of the first state says, and the simulator's own schedule ends.
use Rattle.std.proofs.Common.{◌≡◌, subst, ℕ, ◌<◌, ◌≤◌, ◌+◌, zero, suc, Bool, true, false, List, [], ◌∷◌, Option, Some, None, Result, Ok, Err, refl, sym, ◌∙◌, ap, arith, ◌⊎◌, inl, inr, ⊎_elim}
use Rattle.std.proofs.lemmas.Bool.{false≢true}
use Rattle.std.specs.Prelude.{length, find, slice_get, is_ok}
use Rattle.ttm_base.specs.declared.Actor.{Actor}
use Rattle.ttm_base.specs.declared.Need.{Need}
use Rattle.journal_model.specs.declared.script.Script.{Script}
use Rattle.journal_model.specs.declared.state.State.{State}
use Rattle.journal_model.specs.declared.entry.Entry.{Entry}
use Rattle.journal_model.specs.declared.entry.Kind.{Kind}
use Rattle.journal_model.specs.rules.Next.{next}
use Rattle.journal_model.specs.rules.Apply.{applied}
use Rattle.journal_model.specs.rules.Stores.{showing}
use Rattle.journal_model.specs.rules.Legal.{World, first_world, first_state, world_after, world_along, state_of, shown_step, IsLegalNext, IsLegalFrom, IsLegal}
use Rattle.journal_model.specs.statements.Complete.{is_over}
use Rattle.journal_model.specs.statements.DeadEnd.{can_step}
use Rattle.journal_model.specs.statements.Scheduled.{Run, run_of, stepped, appended, actor_of_turn, own_order, scheduled_actors}
use Rattle.laws.proofs.law_state.Shown.{shown_alike}
use Rattle.laws.proofs.law_sound.Measure.{measure}

-- an entry that is shown is one alone, and is no need
ok_is : (r : Result Entry Need) (x y : Entry) → r ≡ Ok x → r ≡ Ok y → x ≡ y
ok_is r x y e f = cc

err_ok : (n : Need) (r : Result Entry Need) (x : Entry) → r ≡ Err n → r ≡ Ok x → ⊥
err_ok n r x e f = cc

-- an invariant, and the two laws that the kinds' lemmas give
module _ (script : Script) (Inv : State → Type 0)
    (keeps : (s : State) (who : Actor) (k : Kind) → Inv s → next script s who ≡ Ok k → Inv (applied script s who k))
    (falls : (s : State) (who : Actor) (k : Kind) → Inv s → next script s who ≡ Ok k → measure script (applied script s who k) + 1 ≤ measure script s) where
  -- the state after an entry that is legal next
  legal_kind : (w : World) (e : Entry) → IsLegalNext script w e → (k : Kind) × (next script w.state e.who ≡ Ok k) × ((world_after script w e).state ≡ applied script w.state e.who k)
  legal_kind w e h = by_step (next script w.state e.who) refl h
    where
      by_step : (r : Result Kind Need) → next script w.state e.who ≡ r → shown_step script w e.who r ≡ Ok e → (k : Kind) × (next script w.state e.who ≡ Ok k) × ((world_after script w e).state ≡ applied script w.state e.who k)
      by_step (Ok k) n h =
          let it : (record { who = e.who; kind = showing script w.stores w.state e.who k }) ≡ e = ok_is (shown_step script w e.who (Ok k)) _ e refl h in
          (k, n, ap (λ f. applied script w.state f.who f.kind) (sym it) ∙ shown_alike script w.stores w.state w.state e.who k)
      by_step (Err need) n h = absurd (err_ok need (shown_step script w e.who (Err need)) e refl h)

  pub next_falls : (w : World) (e : Entry) → Inv w.state → IsLegalNext script w e →
      Inv (world_after script w e).state × (measure script (world_after script w e).state + 1 ≤ measure script w.state)
  next_falls w e sound h =
      let k = legal_kind w e h in (
        subst Inv (sym k.2) (keeps w.state e.who k.0 sound k.1),
        subst (λ s. measure script s + 1 ≤ measure script w.state) (sym k.2) (falls w.state e.who k.0 sound k.1),
      )

  pub ends_from : (w : World) (es : List Entry) → Inv w.state → IsLegalFrom script w es → length es + measure script (world_along script w es).state ≤ measure script w.state
  ends_from w [] sound h = omega arith
  ends_from w (e ∷ es) sound h =
      let n = next_falls w e sound h.0 in
      let less : measure script (world_after script w e).state + 1 ≤ measure script w.state = n.1 in
      let rest : length es + measure script (world_along script (world_after script w e) es).state ≤ measure script (world_after script w e).state = ends_from (world_after script w e) es n.0 h.1 in
      omega arith

  -- each legal journal, under whatever schedule
  pub journal_ends : (journal : List Entry) → Inv (first_state script) → IsLegal script journal → length journal ≤ measure script (first_state script)
  journal_ends journal sound h =
      let a : length journal + measure script (state_of script journal) ≤ measure script (first_state script) = ends_from (first_world script) journal sound h in omega arith

  -- ---- the simulator

  get_beyond : {X : Type 0} (xs : List X) (i : ℕ) → length xs ≤ i → slice_get xs i ≡ None
  get_beyond [] i h = refl
  get_beyond (x ∷ xs) zero h = absurd (omega arith)
  get_beyond (x ∷ xs) (suc i) h = get_beyond xs i (omega arith)

  -- a turn keeps what is sound, and never raises the measure
  turn_keeps : (r : Run) (who : Option Actor) → Inv r.world.state →
      Inv (stepped script r who).world.state × (measure script (stepped script r who).world.state ≤ measure script r.world.state)
  turn_keeps r None sound = (sound, omega arith)
  turn_keeps r (Some who) sound = by_step (next script r.world.state who) refl
    where
      by_step : (step : Result Kind Need) → next script r.world.state who ≡ step →
          Inv (appended script r (shown_step script r.world who step)).world.state × (measure script (appended script r (shown_step script r.world who step)).world.state ≤ measure script r.world.state)
      by_step (Ok k) n =
          let same : applied script r.world.state who (showing script r.world.stores r.world.state who k) ≡ applied script r.world.state who k = shown_alike script r.world.stores r.world.state r.world.state who k in
          let less : measure script (applied script r.world.state who k) + 1 ≤ measure script r.world.state = falls r.world.state who k sound n in (
            subst Inv (sym same) (keeps r.world.state who k sound n),
            subst (λ s. measure script s ≤ measure script r.world.state) (sym same) (omega arith),
          )
      by_step (Err need) n = (sound, omega arith)

  -- and one that makes an entry lowers it
  turn_lowers : (r : Run) (who : Actor) → Inv r.world.state → can_step script r.world.state who ≡ true →
      measure script (stepped script r (Some who)).world.state + 1 ≤ measure script r.world.state
  turn_lowers r who sound can = by_step (next script r.world.state who) refl can
    where
      by_step : (step : Result Kind Need) → next script r.world.state who ≡ step → is_ok step ≡ true →
          measure script (appended script r (shown_step script r.world who step)).world.state + 1 ≤ measure script r.world.state
      by_step (Ok k) n c =
          let same : applied script r.world.state who (showing script r.world.stores r.world.state who k) ≡ applied script r.world.state who k = shown_alike script r.world.stores r.world.state r.world.state who k in
          subst (λ s. measure script s + 1 ≤ measure script r.world.state) (sym same) (falls r.world.state who k sound n)
      by_step (Err need) n c = absurd (false≢true c)

  module _ (sound_first : Inv (first_state script))
      (goes : (s : State) → Inv s → is_over script s ≡ false → (who : Actor) × (find (can_step script s) (own_order script s) ≡ Some who) × (can_step script s who ≡ true))
      (rests : (s : State) → Inv s → is_over script s ≡ true → find (can_step script s) (own_order script s) ≡ None) where
    run_sound : (n : ℕ) → Inv (run_of script n).world.state × (measure script (run_of script n).world.state ≤ measure script (first_state script))
    run_sound zero = (sound_first, omega arith)
    run_sound (suc n) =
        let before = run_sound n in
        let after = turn_keeps (run_of script n) (actor_of_turn script (run_of script n).world.state n) before.0 in
        let a : measure script (run_of script n).world.state ≤ measure script (first_state script) = before.1 in
        let b : measure script (run_of script (suc n)).world.state ≤ measure script (run_of script n).world.state = after.1 in
        (after.0, omega arith)

    abbrev at_turn : ℕ → State
    at_turn n = (run_of script n).world.state

    -- after the script's own turns: over, or as many entries as turns
    counts : (n turn : ℕ) → turn ≡ n + length (scheduled_actors script) → (is_over script (at_turn turn) ≡ true) ⊎ (measure script (at_turn turn) + n ≤ measure script (first_state script))
    counts zero turn e = let a : measure script (at_turn turn) ≤ measure script (first_state script) = (run_sound turn).1 in inr (omega arith)
    counts (suc n) zero e = absurd (omega arith)
    counts (suc n) (suc turn) e = by_over (is_over script (at_turn turn)) refl (counts n turn (omega arith))
      where
        own : (o : Option Actor) → find (can_step script (at_turn turn)) (own_order script (at_turn turn)) ≡ o → actor_of_turn script (at_turn turn) turn ≡ o
        own o f = let g : slice_get (scheduled_actors script) turn ≡ None = get_beyond (scheduled_actors script) turn (omega arith) in
            ap (λ a. elim a [ Some who ↦ Some who | None ↦ find (can_step script (at_turn turn)) (own_order script (at_turn turn)) ]) g ∙ f

        by_over : (q : Bool) → is_over script (at_turn turn) ≡ q → (is_over script (at_turn turn) ≡ true) ⊎ (measure script (at_turn turn) + n ≤ measure script (first_state script)) →
            (is_over script (at_turn (suc turn)) ≡ true) ⊎ (measure script (at_turn (suc turn)) + suc n ≤ measure script (first_state script))
        by_over true o before =
            inl (ap (λ who. is_over script (stepped script (run_of script turn) who).world.state) (own None (rests (at_turn turn) (run_sound turn).0 o)) ∙ o)
        by_over false o before =
            let g = goes (at_turn turn) (run_sound turn).0 o in
            let who : actor_of_turn script (at_turn turn) turn ≡ Some g.0 = own (Some g.0) g.1 in
            let less : measure script (stepped script (run_of script turn) (Some g.0)).world.state + 1 ≤ measure script (at_turn turn) = turn_lowers (run_of script turn) g.0 (run_sound turn).0 g.2 in
            let it : measure script (at_turn (suc turn)) + 1 ≤ measure script (at_turn turn) = subst (λ w. measure script (stepped script (run_of script turn) w).world.state + 1 ≤ measure script (at_turn turn)) (sym who) less in
            ⊎_elim (λ h. absurd (clash (sym o ∙ h))) (λ h. inr (omega arith)) before
          where
            clash : false ≡ true → ⊥
            clash h = cc

    -- the own schedule ends within the limit
    pub sim_ends : (n : ℕ) → measure script (first_state script) < n → is_over script (at_turn (n + length (scheduled_actors script))) ≡ true
    sim_ends n h = ⊎_elim (λ o. o) (λ k. absurd (omega arith)) (counts n (n + length (scheduled_actors script)) refl)
