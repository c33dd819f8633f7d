-- A dry place, and a page that isn't available, lower the measure.
use Rattle.std.proofs.Common.{◌≡◌, ℕ, ◌≤◌, ◌+◌, ◌*◌, Bool, true, false, [], ◌∷◌, length, Option, Some, None, refl, sym, ◌∙◌, ap, ap₂, subst, arith}
use Rattle.std.specs.Prelude.{slice_get, sum_by, map, unwrap_or, is_some, ◌||◌, ◌&&◌, if◌then◌else◌}
use Rattle.std.specs.List.{list_any, enumerate_from}
use Rattle.std.proofs.lemmas.Bool.{or_from, or_left, or_right, and_from}
use Rattle.std.proofs.lemmas.List.Sums.{sum_by-cons}
use Rattle.ttm_base.specs.ListWords.{last_of}
use Rattle.ttm_base.specs.declared.Mem.TheVariants.{System, Tt, Vram}
use Rattle.ttm_base.specs.declared.BufId.{BufId}
use Rattle.ttm_base.specs.declared.Deny.{Deny}
use Rattle.ttm_base.specs.declared.Stamp.{Stamp}
use Rattle.journal_model.specs.declared.script.Script.{Script}
use Rattle.journal_model.specs.declared.script.Decl.{Decl}
use Rattle.journal_model.specs.declared.script.Command.{Command}
use Rattle.journal_model.specs.declared.state.State.{State}
use Rattle.journal_model.specs.declared.state.Course.{Course}
use Rattle.journal_model.specs.declared.state.Victim.{Victim}
use Rattle.journal_model.specs.declared.state.Buffer.{Buffer}
use Rattle.journal_model.specs.declared.entry.Why.TheVariants as why
use Rattle.journal_model.specs.declared.entry.Kind.{Kind}
use Rattle.journal_model.specs.rules.State.{new_buffer, buffer, course, reservation_in, live_in, same_buffer, has_buffer, has_target}
use Rattle.journal_model.specs.rules.Commands.{decl, undeclared, named}
use Rattle.journal_model.specs.rules.Holds.{free_slot}
use Rattle.journal_model.specs.rules.Dry.{has_frame}
use Rattle.journal_model.specs.rules.ApplyVictims.{failed_if}
use Rattle.laws.specs.law_state.GoodState.{HasPages}
use Rattle.laws.proofs.law_state.Lists.{get_within}
use Rattle.laws.proofs.law_sound.Measure.{steps_left, named_left, to_give_back, victim_left, has_failed, not_skipped, room_for_victims, if_named, search_share, search_left, slot_debt, slot_debts, locks_left, measure}
use Rattle.laws.proofs.law_sound.MeasureFalls.{sum_most}
use Rattle.laws.proofs.law_sound.Along.{Stepped}
use Rattle.laws.proofs.law_sound.Turns.{Works, OnVictim, InVram}
use Rattle.laws.proofs.law_sound.Bufs.{same_self}
use Rattle.laws.proofs.law_sound.Steadies.{next_course, own_course}
use Rattle.laws.proofs.lemma_end_measure.Frame.{left_of}
use Rattle.laws.proofs.lemma_end_measure.Working.{times_left, give_most}
use Rattle.laws.proofs.lemma_end_measure.Slots.{Fewer, same_all, no_debts}
use Rattle.laws.proofs.lemma_end_measure.Giving.{live_at, get_below, enumerate_falls}
use Rattle.laws.proofs.lemma_end_measure.Skipping.{wide_falls, search_was}
use Rattle.laws.proofs.lemma_end_measure.Border.{Known, shared}
use Rattle.laws.proofs.lemma_end_measure.Parts.{after, parts_fall, locks_stay, failed_was}
use Rattle.laws.proofs.lemma_end_searches.Victims.{Caught, alone_for_vram, failed_alone}

-- ---- pages

module _ (script : Script) (s : State) (known : Known script s) where
  -- the declaration of a live buffer
  pub record Declared (b : BufId) (x : Buffer) : Type 0 where
    pub decl : Decl
    pub at : slice_get script.buffers b.0 ≡ Some decl
    pub some : 1 ≤ decl.pages
    pub pages : length x.table ≡ decl.pages

  pub declared_live : (b : BufId) (x : Buffer) → live_in s.core.buffers b ≡ Some x → Declared b x
  declared_live b x live =
      let inside = get_within s.core.buffers b.0 (Some x) (live_at s.core.buffers b x live) in
      let many = known.good.many in
      let d = get_below script.buffers b.0 (omega (arith, inside, many)) in
      let table : length x.table ≡ (decl script b).pages = subst (HasPages script b) live (known.good.tables b) in
      record { decl = d.0; at = d.1; some = known.pages b.0 d.0 d.1; pages = table ∙ ap (λ o. (unwrap_or o undeclared).pages) d.1 }

  -- what is to be given back costs less than a search does
  gift_most : (b : BufId) → to_give_back (buffer s b) ≤ 5 * length (buffer s b).table
  gift_most b = by (live_in s.core.buffers b) refl
    where
      by : (o : Option Buffer) → live_in s.core.buffers b ≡ o → to_give_back (unwrap_or o (new_buffer 0)) ≤ 5 * length (unwrap_or o (new_buffer 0)).table
      by None e = omega arith
      by (Some x) e = let d = declared_live b x e in let most = give_most x in let some = d.some in let pages = d.pages in omega (arith, most, some, pages)

  gift_share : (c : Course) (cmd : Command) (e : ℕ × Decl) → if_named cmd (λ b. to_give_back (buffer s b)) e ≤ search_share script s c cmd e
  gift_share c cmd e = by (has_buffer (named cmd) (record { 0 = e.0 }))
    where
      cost : to_give_back (buffer s (record { 0 = e.0 })) ≤ named_left script s cmd (record { 0 = e.0 })
      cost =
          let most = gift_most (record { 0 = e.0 }) in
          let product : 5 * length (buffer s (record { 0 = e.0 })).table ≤ (5 + 6291456 * steps_left script cmd (record { 0 = e.0 }) (buffer s (record { 0 = e.0 }))) * length (buffer s (record { 0 = e.0 })).table =
          times_left 5 (5 + 6291456 * steps_left script cmd (record { 0 = e.0 }) (buffer s (record { 0 = e.0 }))) (length (buffer s (record { 0 = e.0 })).table) (omega arith) in
          omega (arith, most, product)

      by : (q : Bool) → (if q then to_give_back (buffer s (record { 0 = e.0 })) else 0) ≤ 4194304 * not_skipped c e + (if q then named_left script s cmd (record { 0 = e.0 }) else 0)
      by true = let h = cost in omega (arith, h)
      by false = omega arith

  pub gifts_most : (c : Course) (cmd : Command) → sum_by (if_named cmd (λ b. to_give_back (buffer s b))) (enumerate_from 0 script.buffers) ≤ sum_by (search_share script s c cmd) (enumerate_from 0 script.buffers)
  gifts_most c cmd = sum_most (if_named cmd (λ b. to_give_back (buffer s b))) (search_share script s c cmd) (enumerate_from 0 script.buffers) (gift_share c cmd)

-- ---- the search of a named buffer fails

module _ (script : Script) (s : State) (t : ℕ) (k : Kind) (known : Known script s) (st : Stepped script s t k) (core : (after script s t k).core ≡ s.core) (stamp : Stamp) (e : (course s t).stamp ≡ Some stamp)
    (works : Works (course s t) st.step.cmd) (fine : (course s t).fail ≡ None) where
  fewer : Fewer s.core.buffers (after script s t k).core.buffers
  fewer = subst (λ c. Fewer s.core.buffers c.buffers) (sym core) (same_all s.core.buffers)

  shared_same : shared (after script s t k) ≡ shared s
  shared_same = ap (λ c. shared (record s { core = c })) core

  pub fail_falls : (forced : Bool) (dry : ℕ) (d : Deny) → next_course script s t k ≡ record (course s t) { forced = forced; dry = dry; fail = Some d } → (course s t).caught ≡ [] → measure script (after script s t k) + 1 ≤ measure script s
  fail_falls forced dry d own alone =
      wide_falls script s t k known st fewer
      (let none = no_debts script (after script s t k) t (ap (λ c. c.caught) (own_course script s t k st.here ∙ own) ∙ alone) in omega (arith, none))
      (let now = ap (left_of script (after script s t k) t) own ∙ failed_was script s t k known st (record (course s t) { forced = forced; dry = dry; fail = Some d }) (after script s t k) stamp d refl works.unmade e works.whole refl in
      let was = search_was script s t k known st (course s t) s stamp refl works.unmade e works.whole fine in
      let gifts = gifts_most script s known (course s t) st.step.cmd in
      let same : sum_by (if_named st.step.cmd (λ b. to_give_back (buffer (after script s t k) b))) (enumerate_from 0 script.buffers) ≡ sum_by (if_named st.step.cmd (λ b. to_give_back (buffer s b))) (enumerate_from 0 script.buffers) =
      ap (λ c. sum_by (if_named st.step.cmd (λ b. to_give_back (buffer (record s { core = c }) b))) (enumerate_from 0 script.buffers)) core in
      let others = shared_same in
      omega (arith, now, was, gifts, same, others))

  -- one more place is dry
  pub dry_falls : (forced : Bool) (dry : ℕ) → next_course script s t k ≡ record (course s t) { forced = forced; dry = dry } → (course s t).caught ≡ [] → (course s t).dry + 1 ≡ dry → dry ≤ 8
      → locks_left script (after script s t k) ≤ locks_left script s → measure script (after script s t k) + 1 ≤ measure script s
  dry_falls forced dry own alone more most locks =
      parts_fall script s t k known st fewer
      (let none = no_debts script (after script s t k) t (ap (λ c. c.caught) (own_course script s t k st.here ∙ own) ∙ alone) in
      let now = ap (left_of script (after script s t k) t) own ∙ search_was script s t k known st (record (course s t) { forced = forced; dry = dry }) (after script s t k) stamp refl works.unmade e works.whole fine in
      let was = search_was script s t k known st (course s t) s stamp refl works.unmade e works.whole fine in
      let same : search_left script (after script s t k) (record (course s t) { forced = forced; dry = dry }) st.step.cmd ≡ search_left script s (record (course s t) { forced = forced; dry = dry }) st.step.cmd =
      ap (λ c. search_left script (record s { core = c }) (record (course s t) { forced = forced; dry = dry }) st.step.cmd) core in
      let others = shared_same in
      omega (arith, none, now, was, same, others, locks, more, most))

-- ---- the search of a victim fails

module _ (script : Script) (s : State) (t : ℕ) (k : Kind) (known : Known script s) (st : Stepped script s t k) (core : (after script s t k).core ≡ s.core) (reservations : (after script s t k).reservations ≡ s.reservations) (stamp : Stamp) (e : (course s t).stamp ≡ Some stamp)
    (v : Victim) (x : Buffer) (on : OnVictim (course s t) st.step.cmd v) (fine : (course s t).fail ≡ None) (live : live_in s.core.buffers v.b ≡ Some x) (few : Caught (course s t).caught) (vram : InVram v (buffer s v.b)) (unfailed : v.fail ≡ None)
    (unskipped : has_buffer (course s t).skips v.b ≡ false) (d : Deny) where
  alone : (course s t).caught ≡ v ∷ []
  alone = alone_for_vram (course s t).caught v few on.last vram.why

  failed : map (failed_if d v.b) (course s t).caught ≡ record v { fail = Some d } ∷ []
  failed = ap (map (failed_if d v.b)) alone ∙ failed_alone v d

  is : buffer s v.b ≡ x
  is = ap (λ o. unwrap_or o (new_buffer 0)) live

  -- what it costs now: what it may give back
  part : victim_left (buffer s v.b) (record v { fail = Some d }) ≡ 2097160 + to_give_back (buffer s v.b)
  part =
      ap₂ (λ w m. elim w [
        | why.Swap ↦ 0
        | why.Tt ↦ if has_target System (buffer s v.b) then 0 else 2097160
        | why.Vram ↦ elim m [ Vram ↦ 2097160 + to_give_back (buffer s v.b) | Tt ↦ 2097160 | System ↦ 2097160 ]
      ]) vram.why vram.mem

  -- it was one that may be skipped, and is none any more
  skip_was : (n : ℕ) (y : Decl) → v.b.0 ≡ n → not_skipped (course s t) (n, y) ≡ y.pages
  skip_was n y at =
      let it : v.b ≡ record { 0 = n } = ap (λ i. record { 0 = i }) at in
      ap (λ q. if q then 0 else y.pages)
      (or_from (has_buffer (course s t).skips (record { 0 = n })) (list_any (has_failed (record { 0 = n })) (course s t).caught)
      (subst (λ z. has_buffer (course s t).skips z ≡ false) it unskipped)
      (ap (list_any (has_failed (record { 0 = n }))) alone ∙ no_fail))
    where
      no_fail : ((same_buffer (record { 0 = n }) v.b && is_some v.fail) || false) ≡ false
      no_fail = by (same_buffer (record { 0 = n }) v.b)
        where
          by : (q : Bool) → ((q && is_some v.fail) || false) ≡ false
          by true = ap (λ o. is_some o || false) unfailed
          by false = refl

  skip_now : not_skipped (record (course s t) { caught = map (failed_if d v.b) (course s t).caught }) (v.b.0, decl script v.b) ≡ 0
  skip_now =
      ap (λ vs. if has_buffer (course s t).skips v.b || list_any (has_failed v.b) vs then 0 else (decl script v.b).pages) failed
      ∙ ap (λ q. if q then 0 else (decl script v.b).pages) (or_right (has_buffer (course s t).skips v.b) ((same_buffer v.b v.b && true) || false) (or_left (same_buffer v.b v.b && true) false (and_from (same_buffer v.b v.b) true (same_self v.b) refl)))

  skips_most : (y : ℕ × Decl) → not_skipped (record (course s t) { caught = map (failed_if d v.b) (course s t).caught }) y ≤ not_skipped (course s t) y
  skips_most y =
      subst (λ vs. (if has_buffer (course s t).skips (record { 0 = y.0 }) || list_any (has_failed (record { 0 = y.0 })) vs then 0 else y.1.pages) ≤ not_skipped (course s t) y) (sym failed)
      (subst (λ vs. (if has_buffer (course s t).skips (record { 0 = y.0 }) || list_any (has_failed (record { 0 = y.0 })) (record v { fail = Some d } ∷ []) then 0 else y.1.pages) ≤ (if has_buffer (course s t).skips (record { 0 = y.0 }) || list_any (has_failed (record { 0 = y.0 })) vs then 0 else y.1.pages)) (sym alone)
      (by (has_buffer (course s t).skips (record { 0 = y.0 })) (same_buffer (record { 0 = y.0 }) v.b) (is_some v.fail)))
    where
      by : (p q r : Bool) → (if p || ((q && true) || false) then 0 else y.1.pages) ≤ (if p || ((q && r) || false) then 0 else y.1.pages)
      by true q r = omega arith
      by false true r = omega arith
      by false false r = omega arith

  search_falls : search_left script (after script s t k) (record (course s t) { caught = map (failed_if d v.b) (course s t).caught }) st.step.cmd + 1 ≤ search_left script s (course s t) st.step.cmd
  search_falls =
      let declared = declared_live script s known v.b x live in
      let pages = declared.some in
      let table = declared.pages in
      let is_decl : decl script v.b ≡ declared.decl = ap (λ o. unwrap_or o undeclared) declared.at in
      let same : search_left script (after script s t k) (record (course s t) { caught = map (failed_if d v.b) (course s t).caught }) st.step.cmd ≡ search_left script s (record (course s t) { caught = map (failed_if d v.b) (course s t).caught }) st.step.cmd =
      ap (λ z. search_left script (record s { core = z }) (record (course s t) { caught = map (failed_if d v.b) (course s t).caught }) st.step.cmd) core in
      let room : room_for_victims (last_of (map (failed_if d v.b) (course s t).caught)) ≡ room_for_victims (last_of (course s t).caught) =
      ap (λ vs. room_for_victims (last_of vs)) failed ∙ sym (ap (λ vs. room_for_victims (last_of vs)) alone) in
      let victims : sum_by (λ w. victim_left (buffer s w.b) w) (map (failed_if d v.b) (course s t).caught) ≡ 2097160 + to_give_back (buffer s v.b) =
      ap (sum_by (λ w. victim_left (buffer s w.b) w)) failed ∙ (sum_by-cons (λ w. victim_left (buffer s w.b) w) (record v { fail = Some d }) [] ∙ (let p = part in omega (arith, p))) in
      let gift : to_give_back (buffer s v.b) ≤ 2 * declared.decl.pages + 3 =
      subst (λ z. to_give_back z ≤ 2 * declared.decl.pages + 3) (sym is) (let most = give_most x in omega (arith, most, table)) in
      let shares =
      enumerate_falls (search_share script s (record (course s t) { caught = map (failed_if d v.b) (course s t).caught }) st.step.cmd) (search_share script s (course s t) st.step.cmd) (4194304 * declared.decl.pages) script.buffers 0 v.b.0 declared.decl declared.at
      (λ y. let m = skips_most y in omega (arith, m))
      (let at : 0 + v.b.0 ≡ v.b.0 = omega arith in
      subst (λ n. search_share script s (record (course s t) { caught = map (failed_if d v.b) (course s t).caught }) st.step.cmd (n, declared.decl) + 4194304 * declared.decl.pages ≤ search_share script s (course s t) st.step.cmd (n, declared.decl)) (sym at)
      (let before = skip_was v.b.0 declared.decl refl in
      let now : not_skipped (record (course s t) { caught = map (failed_if d v.b) (course s t).caught }) (v.b.0, declared.decl) ≡ 0 = subst (λ y. not_skipped (record (course s t) { caught = map (failed_if d v.b) (course s t).caught }) (v.b.0, y) ≡ 0) is_decl skip_now in
      omega (arith, before, now))) in
      omega (arith, same, room, victims, gift, shares, pages)

  pub victim_fail_falls : next_course script s t k ≡ record (course s t) { caught = map (failed_if d v.b) (course s t).caught } → measure script (after script s t k) + 1 ≤ measure script s
  victim_fail_falls own =
      parts_fall script s t k known st (subst (λ z. Fewer s.core.buffers z.buffers) (sym core) (same_all s.core.buffers))
      (let now = ap (left_of script (after script s t k) t) own ∙ search_was script s t k known st (record (course s t) { caught = map (failed_if d v.b) (course s t).caught }) (after script s t k) stamp refl on.works.unmade e on.works.whole fine in
      let was = search_was script s t k known st (course s t) s stamp refl on.works.unmade e on.works.whole fine in
      let falls = search_falls in
      let debts : slot_debts script (after script s t k) t ≡ 0 =
      ap (λ z. sum_by (λ w. slot_debt (is_some (free_slot script (after script s t k).core)) (buffer (after script s t k) w.b) w) z.caught) (own_course script s t k st.here ∙ own)
      ∙ (ap (sum_by (λ w. slot_debt (is_some (free_slot script (after script s t k).core)) (buffer (after script s t k) w.b) w)) failed
      ∙ (sum_by-cons (λ w. slot_debt (is_some (free_slot script (after script s t k).core)) (buffer (after script s t k) w.b) w) (record v { fail = Some d }) [] ∙ (let p = no_debt (is_some (free_slot script (after script s t k).core)) (buffer (after script s t k) v.b) in omega (arith, p)))) in
      let others : shared (after script s t k) ≡ shared s = ap (λ z. shared (record s { core = z })) core in
      let locks =
      locks_stay script s t k known st (record (course s t) { caught = map (failed_if d v.b) (course s t).caught }) own refl refl refl refl
      (λ b h g. ap (λ gs. (reservation_in gs b).holder) reservations ∙ g) in
      omega (arith, now, was, falls, debts, others, locks))
    where
      no_debt : (free : Bool) (y : Buffer) → slot_debt free y (record v { fail = Some d }) ≡ 0
      no_debt free y = ap (λ w. elim w [ why.Swap ↦ if has_target System y || (has_frame y && free) then 0 else 2097160 | why.Tt ↦ 0 | why.Vram ↦ 0 ]) vram.why
