-- A victim that is let go lowers the measure.
use Rattle.std.proofs.Common.{◌≡◌, ℕ, ◌≤◌, ◌+◌, Bool, true, false, Option, Some, None, Ok, refl, sym, ◌∙◌, ap, ap₂, arith}
use Rattle.std.specs.Prelude.{sum_by, not, is_some, option_map, ◌||◌, ◌&&◌, if◌then◌else◌}
use Rattle.std.specs.List.{enumerate_from}
use Rattle.ttm_base.specs.ListWords.{last_of}
use Rattle.ttm_base.specs.declared.Mem.{Mem}
use Rattle.ttm_base.specs.declared.Mem.TheVariants.{System, Tt, Vram}
use Rattle.ttm_base.specs.declared.BufId.{BufId}
use Rattle.ttm_base.specs.declared.JobId.{JobId}
use Rattle.ttm_base.specs.declared.Stamp.{Stamp}
use Rattle.journal_model.specs.declared.script.Script.{Script}
use Rattle.journal_model.specs.declared.state.State.{State}
use Rattle.journal_model.specs.declared.state.Victim.{Victim}
use Rattle.journal_model.specs.declared.entry.Why.{Why}
use Rattle.journal_model.specs.declared.entry.Why.TheVariants as why
use Rattle.journal_model.specs.declared.entry.Kind.TheVariants as kind
use Rattle.journal_model.specs.rules.State.{buffer, course, has_buffer, has_target}
use Rattle.journal_model.specs.rules.Holds.{free_slot}
use Rattle.journal_model.specs.rules.Dry.{has_frame}
use Rattle.journal_model.specs.rules.Waits.{waited_for, jobs_before_write}
use Rattle.journal_model.specs.rules.Search.{Step}
use Rattle.journal_model.specs.rules.PageSteps.{unless_waiting, once_idle, first_frame_page, why_caught, step_of_swap_out, step_of_empty}
use Rattle.journal_model.specs.rules.ApplyVictims.{no_longer_caught}
use Rattle.laws.proofs.law_sound.Measure.{one_if, to_give_back, victim_left, not_skipped, search_share, search_left, slot_debt, measure}
use Rattle.laws.proofs.law_sound.MeasureFalls.{sum_most}
use Rattle.laws.proofs.law_sound.Along.{Stepped}
use Rattle.laws.proofs.law_sound.Turns.{OnVictim, Emptied, for_tt, for_swap, left_vram}
use Rattle.laws.proofs.law_sound.Bufs.{let_go}
use Rattle.laws.proofs.law_sound.Steadies.{own_course}
use Rattle.laws.proofs.lemma_end_measure.Locks.{locks_most}
use Rattle.laws.proofs.lemma_end_measure.Slots.{same_all}
use Rattle.laws.proofs.lemma_end_measure.Skipping.{let_go_falls, room_most, search_was}
use Rattle.laws.proofs.lemma_end_measure.Border.{Known}
use Rattle.laws.proofs.lemma_end_measure.Parts.{after, parts_fall}
use Rattle.laws.proofs.lemma_end_searches.Victims.{Caught, found_last, still_failed}

-- a victim that was caught for swap, and is let go, has no frame, or finds no slot
kept_in : (script : Script) (s : State) (b : BufId) → step_of_swap_out script s b (Ok (kind.Loose b)) (Ok (kind.Loose b)) ≡ Ok (kind.Loose b) → (has_frame (buffer s b) && is_some (free_slot script s.core)) ≡ false
kept_in script s b h = by_frame (has_frame (buffer s b)) h
  where
    by_wait : (o : Option JobId) (slot : ℕ) → unless_waiting o (kind.SwapOut b (first_frame_page (buffer s b)) slot) ≡ Ok (kind.Loose b) → ⊥
    by_wait None slot k = cc
    by_wait (Some i) slot k = cc

    by_slot : (o : Option ℕ) → ◌≡◌ {A = Step} (elim o [ None ↦ Ok (kind.Loose b) | Some slot ↦ once_idle s.core b (kind.SwapOut b (first_frame_page (buffer s b)) slot) ]) (Ok (kind.Loose b)) → is_some o ≡ false
    by_slot None k = refl
    by_slot (Some slot) k = absurd (by_wait (waited_for s.core (jobs_before_write (buffer s b))) slot k)

    by_frame : (q : Bool) →
        ◌≡◌ {A = Step} (elim q [ false ↦ Ok (kind.Loose b) | true ↦ elim (free_slot script s.core) [ None ↦ Ok (kind.Loose b) | Some slot ↦ once_idle s.core b (kind.SwapOut b (first_frame_page (buffer s b)) slot) ] ]) (Ok (kind.Loose b))
        → (q && is_some (free_slot script s.core)) ≡ false
    by_frame false k = refl
    by_frame true k = by_slot (free_slot script s.core) k

module _ (script : Script) (s : State) (t : ℕ) (v : Victim) (known : Known script s) (st : Stepped script s t (kind.Loose v.b)) (stamp : Stamp) (e : (course s t).stamp ≡ Some stamp) (on : OnVictim (course s t) st.step.cmd v) (fine : (course s t).fail ≡ None)
    (few : Caught (course s t).caught) (bare : has_target System (buffer s v.b) ≡ false) (emptied : Emptied v (buffer s v.b)) (unfailed : v.fail ≡ None) (step : step_of_empty script s (course s t) v.b ≡ Ok (kind.Loose v.b)) where
  why_is : why_caught (course s t) v.b ≡ Some v.why
  why_is = ap (option_map (λ w. w.why)) (found_last (course s t).caught v few on.last)

  stuck : v.why ≡ why.Swap → (has_frame (buffer s v.b) && is_some (free_slot script s.core)) ≡ false
  stuck w =
      kept_in script s v.b
      (sym (ap (λ o. elim o [
        | Some y ↦ elim y [ why.Swap ↦ step_of_swap_out script s v.b (Ok (kind.Loose v.b)) (Ok (kind.Loose v.b)) | why.Tt ↦ Ok (kind.Loose v.b) | why.Vram ↦ Ok (kind.Loose v.b) ]
        | None ↦ Ok (kind.Loose v.b)
      ]) (why_is ∙ ap Some w))
      ∙ step)

  -- what the victim was worth
  worth : victim_left (buffer s v.b) v + slot_debt (is_some (free_slot script s.core)) (buffer s v.b) v ≡ 2097160
  worth = by emptied
    where
      as_victim : (w : Why) → v.why ≡ w → victim_left (buffer s v.b) v ≡ elim w [
        | why.Swap ↦ 0
        | why.Tt ↦ 2097160
        | why.Vram ↦ elim (buffer s v.b).mem [
          | Vram ↦ elim v.fail [ None ↦ one_if (not (has_target Tt (buffer s v.b))) | Some deny ↦ 2097160 + to_give_back (buffer s v.b) ]
          | Tt ↦ 2097160
          | System ↦ 2097160
        ]
      ]
      as_victim w is =
          ap₂ (λ y q. elim y [
            | why.Swap ↦ 0
            | why.Tt ↦ if q then 0 else 2097160
            | why.Vram ↦ elim (buffer s v.b).mem [
              | Vram ↦ elim v.fail [ None ↦ one_if (not (has_target Tt (buffer s v.b))) | Some deny ↦ 2097160 + to_give_back (buffer s v.b) ]
              | Tt ↦ 2097160
              | System ↦ 2097160
            ]
          ]) is bare

      as_debt : (w : Why) → v.why ≡ w → slot_debt (is_some (free_slot script s.core)) (buffer s v.b) v ≡ elim w [ why.Swap ↦ if has_frame (buffer s v.b) && is_some (free_slot script s.core) then 0 else 2097160 | why.Tt ↦ 0 | why.Vram ↦ 0 ]
      as_debt w is =
          ap₂ (λ y q. elim y [ why.Swap ↦ if q || (has_frame (buffer s v.b) && is_some (free_slot script s.core)) then 0 else 2097160 | why.Tt ↦ 0 | why.Vram ↦ 0 ]) is bare

      elsewhere : (m : Mem) → (m ≡ Vram → ⊥) → ◌≡◌ {A = ℕ} (elim m [
        | Vram ↦ elim v.fail [ None ↦ one_if (not (has_target Tt (buffer s v.b))) | Some deny ↦ 2097160 + to_give_back (buffer s v.b) ]
        | Tt ↦ 2097160
        | System ↦ 2097160
      ]) 2097160
      elsewhere Vram n = absurd (n refl)
      elsewhere Tt n = refl
      elsewhere System n = refl

      by : Emptied v (buffer s v.b) → victim_left (buffer s v.b) v + slot_debt (is_some (free_slot script s.core)) (buffer s v.b) v ≡ 2097160
      by (for_tt w) = let a = as_victim why.Tt w in let b = as_debt why.Tt w in omega (arith, a, b)
      by (for_swap w) =
          let a = as_victim why.Swap w in
          let b = as_debt why.Swap w in
          let c : ◌≡◌ {A = ℕ} (if has_frame (buffer s v.b) && is_some (free_slot script s.core) then 0 else 2097160) 2097160 = ap (λ q. if q then 0 else 2097160) (stuck w) in
          omega (arith, a, b, c)
      by (left_vram w n) = let a = as_victim why.Vram w in let b = as_debt why.Vram w in let c = elsewhere (buffer s v.b).mem n in omega (arith, a, b, c)

  search_falls : search_left script s (no_longer_caught v.b (course s t)) st.step.cmd + victim_left (buffer s v.b) v ≤ search_left script s (course s t) st.step.cmd + 6
  search_falls =
      let victims = let_go_falls (λ w. victim_left (buffer s w.b) w) v (course s t).caught on.last in
      let room = room_most (last_of (let_go v.b (course s t).caught)) in
      let shares =
      sum_most (search_share script s (no_longer_caught v.b (course s t)) st.step.cmd) (search_share script s (course s t) st.step.cmd) (enumerate_from 0 script.buffers)
      (λ y.
      let same : not_skipped (no_longer_caught v.b (course s t)) y ≡ not_skipped (course s t) y =
      ap (λ q. if has_buffer (course s t).skips (record { 0 = y.0 }) || q then 0 else y.1.pages) (still_failed (course s t).caught v few on.last unfailed (record { 0 = y.0 })) in
      omega (arith, same)) in
      omega (arith, victims, room, shares)

  pub loose_falls : measure script (after script s t (kind.Loose v.b)) + 1 ≤ measure script s
  loose_falls =
      parts_fall script s t (kind.Loose v.b) known st (same_all s.core.buffers)
      (let now = search_was script s t (kind.Loose v.b) known st (no_longer_caught v.b (course s t)) (after script s t (kind.Loose v.b)) stamp refl on.works.unmade e on.works.whole fine in
      let was = search_was script s t (kind.Loose v.b) known st (course s t) s stamp refl on.works.unmade e on.works.whole fine in
      let less = search_falls in
      let own = ap (λ c. sum_by (λ w. slot_debt (is_some (free_slot script s.core)) (buffer s w.b) w) c.caught) (own_course script s t (kind.Loose v.b) st.here) in
      let debts = let_go_falls (λ w. slot_debt (is_some (free_slot script s.core)) (buffer s w.b) w) v (course s t).caught on.last in
      let part = worth in
      let most = locks_most script known.rules known.threads (after script s t (kind.Loose v.b)) in
      omega (arith, now, was, less, own, debts, part, most))
