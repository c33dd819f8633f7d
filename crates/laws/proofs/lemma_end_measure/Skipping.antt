-- A skipped victim lowers the measure, and what a failed search of a named buffer gives back.
use Rattle.std.proofs.Common.{◌≡◌, ℕ, ◌≤◌, ◌+◌, Bool, true, false, List, [], ◌∷◌, ◌++◌, length, Option, Some, None, refl, sym, ◌∙◌, ap, ap₂, subst, arith, inr, ⊎_elim}
use Rattle.std.specs.Prelude.{sum_by, cond, not, unwrap_or, is_some, is_none, ◌||◌, if◌then◌else◌}
use Rattle.std.specs.List.{list_any, enumerate_from}
use Rattle.std.proofs.lemmas.Bool.{and_parts, or_cases, or_left, or_right}
use Rattle.std.proofs.lemmas.List.Sums.{sum_by-cons}
use Rattle.ttm_base.specs.ListWords.{last_of, last_or}
use Rattle.ttm_base.specs.declared.Mem.TheVariants.{System, Tt, Vram}
use Rattle.ttm_base.specs.declared.BufId.{BufId}
use Rattle.ttm_base.specs.declared.Deny.{Deny}
use Rattle.ttm_base.specs.declared.Stamp.{Stamp}
use Rattle.ttm_base.specs.declared.Actor.TheVariants as actor
use Rattle.journal_model.specs.declared.script.Script.{Script}
use Rattle.journal_model.specs.declared.script.Decl.{Decl}
use Rattle.journal_model.specs.declared.script.Command.{Command}
use Rattle.journal_model.specs.declared.state.State.{State}
use Rattle.journal_model.specs.declared.state.Course.{Course}
use Rattle.journal_model.specs.declared.state.Victim.{Victim}
use Rattle.journal_model.specs.declared.entry.Why.{Why}
use Rattle.journal_model.specs.declared.entry.Why.TheVariants as why
use Rattle.journal_model.specs.declared.entry.Kind.{Kind}
use Rattle.journal_model.specs.declared.entry.Kind.TheVariants as kind
use Rattle.journal_model.specs.rules.State.{new_buffer, buffer, course, same_buffer, has_buffer, has_target}
use Rattle.journal_model.specs.rules.Tasks.{first_missing}
use Rattle.journal_model.specs.rules.Holds.{free_slot}
use Rattle.journal_model.specs.rules.Apply.{applied}
use Rattle.journal_model.specs.rules.ApplyVictims.{no_longer_caught, with_skip}
use Rattle.laws.proofs.law_sound.Measure.{one_if, packet_count, to_give_back, victim_left, has_failed, not_skipped, room_for_victims, if_named, search_share, search_left, later_commands, thread_left, slot_debt, slot_debts, measure}
use Rattle.laws.proofs.law_sound.MeasureFalls.{sum_most}
use Rattle.laws.proofs.law_sound.Along.{Stepped}
use Rattle.laws.proofs.law_sound.Turns.{OnVictim, InVram}
use Rattle.laws.proofs.law_sound.Bufs.{same_self, same_is, same_or_other, let_go, has_more, has_new}
use Rattle.laws.proofs.law_sound.Steadies.{next_course, own_course}
use Rattle.laws.proofs.lemma_end_measure.Locks.{locks_most}
use Rattle.laws.proofs.lemma_end_measure.Frame.{left_of, left_is, others_left}
use Rattle.laws.proofs.lemma_end_measure.Working.{phase_is}
use Rattle.laws.proofs.lemma_end_measure.Slots.{Fewer, same_all, debts_keep}
use Rattle.laws.proofs.lemma_end_measure.Sums.{sum_one}
use Rattle.laws.proofs.lemma_end_measure.Border.{Known, shared, range, one, others_same, own_is, own_now}

-- ---- victims let go

pub let_go_most : (f : Victim → ℕ) (b : BufId) (vs : List Victim) → sum_by f (let_go b vs) ≤ sum_by f vs
let_go_most f b [] = omega arith
let_go_most f b (v ∷ vs) = by (same_buffer b v.b) (let_go_most f b vs)
  where
    by : (q : Bool) → sum_by f (let_go b vs) ≤ sum_by f vs → sum_by f (cond (not q) (v ∷ let_go b vs) (let_go b vs)) ≤ sum_by f (v ∷ vs)
    by true h = omega (arith, h, sum_by-cons f v vs)
    by false h = omega (arith, h, sum_by-cons f v vs, sum_by-cons f v (let_go b vs))

-- the sum loses the part of the victim that was let go
pub let_go_falls : (f : Victim → ℕ) (v : Victim) (vs : List Victim) → last_of vs ≡ Some v → sum_by f (let_go v.b vs) + f v ≤ sum_by f vs
let_go_falls f v [] h = cc
let_go_falls f v (w ∷ vs) h = from w vs (let it : last_or w vs ≡ v = cc in it)
  where
    from : (w : Victim) (vs : List Victim) → last_or w vs ≡ v → sum_by f (let_go v.b (w ∷ vs)) + f v ≤ sum_by f (w ∷ vs)
    from w [] e =
        let gone : same_buffer v.b w.b ≡ true = subst (λ u. same_buffer v.b u.b ≡ true) (sym e) (same_self v.b) in
        let now : sum_by f (let_go v.b (w ∷ [])) ≡ 0 = ap (λ q. sum_by f (cond (not q) (w ∷ []) [])) gone in
        let same : f w ≡ f v = ap f e in
        let sum = sum_by-cons f w [] in
        omega (arith, now, same, sum)
    from w (x ∷ vs) e =
        let rest = from x vs e in
        let kept = by (same_buffer v.b w.b) in
        let sum = sum_by-cons f w (x ∷ vs) in
        omega (arith, rest, kept, sum)
      where
        by : (q : Bool) → sum_by f (cond (not q) (w ∷ let_go v.b (x ∷ vs)) (let_go v.b (x ∷ vs))) ≤ f w + sum_by f (let_go v.b (x ∷ vs))
        by true = omega arith
        by false = omega (arith, sum_by-cons f w (let_go v.b (x ∷ vs)))

-- other victims that failed are still there
failed_stays : (b d : BufId) (vs : List Victim) → (d ≡ b → ⊥) → list_any (has_failed d) vs ≡ true → list_any (has_failed d) (let_go b vs) ≡ true
failed_stays b d [] n h = h
failed_stays b d (v ∷ vs) n h = by (same_buffer b v.b) refl (λ k. failed_stays b d vs n k)
  where
    by : (q : Bool) → same_buffer b v.b ≡ q → (list_any (has_failed d) vs ≡ true → list_any (has_failed d) (let_go b vs) ≡ true) → list_any (has_failed d) (cond (not q) (v ∷ let_go b vs) (let_go b vs)) ≡ true
    by true e rest =
        ⊎_elim
        (λ k. absurd (n (same_is d v.b (and_parts (same_buffer d v.b) (is_some v.fail) k).0 ∙ sym (same_is b v.b e))))
        rest
        (or_cases (has_failed d v) (list_any (has_failed d) vs) h)
    by false e rest =
        ⊎_elim
        (λ k. or_left (has_failed d v) (list_any (has_failed d) (let_go b vs)) k)
        (λ k. or_right (has_failed d v) (list_any (has_failed d) (let_go b vs)) (rest k))
        (or_cases (has_failed d v) (list_any (has_failed d) vs) h)

pub room_most : (o : Option Victim) → room_for_victims o ≤ 2
room_most None = omega arith
room_most (Some v) = by v.why
  where
    by : (w : Why) → elim w [ why.Vram ↦ 1 | why.Tt ↦ 0 | why.Swap ↦ 0 ] ≤ 2
    by why.Vram = omega arith
    by why.Tt = omega arith
    by why.Swap = omega arith

-- with a further buffer skipped no more may be
pub skips_most : (c : Course) (b : BufId) (e : ℕ × Decl) → not_skipped (with_skip b (no_longer_caught b c)) e ≤ not_skipped c e
skips_most c b e = by (has_buffer c.skips (record { 0 = e.0 }) || list_any (has_failed (record { 0 = e.0 })) c.caught) refl
  where
    low : (q : Bool) → (if q then 0 else e.1.pages) ≤ e.1.pages
    low true = omega arith
    low false = omega arith

    by : (q : Bool) → (has_buffer c.skips (record { 0 = e.0 }) || list_any (has_failed (record { 0 = e.0 })) c.caught) ≡ q →
        (if has_buffer (c.skips ++ b ∷ []) (record { 0 = e.0 }) || list_any (has_failed (record { 0 = e.0 })) (let_go b c.caught) then 0 else e.1.pages) ≤ (if q then 0 else e.1.pages)
    by false h = low (has_buffer (c.skips ++ b ∷ []) (record { 0 = e.0 }) || list_any (has_failed (record { 0 = e.0 })) (let_go b c.caught))
    by true h =
        subst (λ q. (if q then 0 else e.1.pages) ≤ 0) (sym now) (omega arith)
      where
        now : (has_buffer (c.skips ++ b ∷ []) (record { 0 = e.0 }) || list_any (has_failed (record { 0 = e.0 })) (let_go b c.caught)) ≡ true
        now =
            ⊎_elim
            (λ k. or_left (has_buffer (c.skips ++ b ∷ []) (record { 0 = e.0 })) _ (has_more c.skips b (record { 0 = e.0 }) k))
            (λ k.
            ⊎_elim
            (λ q. or_left (has_buffer (c.skips ++ b ∷ []) (record { 0 = e.0 })) _ (subst (λ z. has_buffer (c.skips ++ b ∷ []) z ≡ true) (sym q) (has_new c.skips b)))
            (λ n. or_right (has_buffer (c.skips ++ b ∷ []) (record { 0 = e.0 })) _ (failed_stays b (record { 0 = e.0 }) c.caught n k))
            (same_or_other (record { 0 = e.0 }) b))
            (or_cases (has_buffer c.skips (record { 0 = e.0 })) (list_any (has_failed (record { 0 = e.0 })) c.caught) h)

-- ---- the own thread's search

-- a search after a victim was skipped
skip_search : (script : Script) (s : State) (c : Course) (cmd : Command) (v : Victim) (d : Deny) → last_of c.caught ≡ Some v → InVram v (buffer s v.b) → v.fail ≡ Some d
    → search_left script s (with_skip v.b (no_longer_caught v.b c)) cmd + 2097154 ≤ search_left script s c cmd
skip_search script s c cmd v d last vram fail =
    let victims = let_go_falls (λ w. victim_left (buffer s w.b) w) v c.caught last in
    let part : victim_left (buffer s v.b) v ≡ 2097160 + to_give_back (buffer s v.b) =
    ap₂ (λ w m. elim w [
      | why.Swap ↦ 0
      | why.Tt ↦ if has_target System (buffer s v.b) then 0 else 2097160
      | why.Vram ↦ elim m [
        | Vram ↦ elim v.fail [ None ↦ one_if (not (has_target Tt (buffer s v.b))) | Some deny ↦ 2097160 + to_give_back (buffer s v.b) ]
        | Tt ↦ 2097160
        | System ↦ 2097160
      ]
    ]) vram.why vram.mem
    ∙ ap (λ o. elim o [ None ↦ one_if (not (has_target Tt (buffer s v.b))) | Some deny ↦ 2097160 + to_give_back (buffer s v.b) ]) fail in
    let room = room_most (last_of (let_go v.b c.caught)) in
    let shares =
    sum_most (search_share script s (with_skip v.b (no_longer_caught v.b c)) cmd) (search_share script s c cmd) (enumerate_from 0 script.buffers)
    (λ e. let m = skips_most c v.b e in omega (arith, m)) in
    omega (arith, victims, part, room, shares)

module _ (script : Script) (s : State) (t : ℕ) (k : Kind) (known : Known script s) (st : Stepped script s t k) where
  -- an entry that lets nobody wait longer than all locks are worth, and whose thread has no greater debts
  pub wide_falls : Fewer s.core.buffers (applied script s (actor.Thread t) k).core.buffers
      → slot_debts script (applied script s (actor.Thread t) k) t ≤ slot_debts script s t
      → left_of script (applied script s (actor.Thread t) k) t (next_course script s t k) + shared (applied script s (actor.Thread t) k) + 2097153 ≤ left_of script s t (course s t) + shared s
      → measure script (applied script s (actor.Thread t) k) + 1 ≤ measure script s
  wide_falls fewer owed less =
      let r = range script s t k known st in
      let a = r.0 in
      let b = r.1 in
      let threads = sum_one (thread_left script (applied script s (actor.Thread t) k)) (thread_left script s) t (length script.threads) 1 a b
      (λ u n. let e = others_left script s (applied script s (actor.Thread t) k) t u (one script s t k known st) known.owned.courses n (λ d h. others_same script s t k known st u d n h) in omega (arith, e)) in
      let debts = sum_one (slot_debts script (applied script s (actor.Thread t) k)) (slot_debts script s) t (length script.threads) 1 a b
      (λ u n. debts_keep script s (applied script s (actor.Thread t) k) u ((one script s t k known st).others u n) fewer (λ d h. ap (λ p. unwrap_or p (new_buffer 0)) (others_same script s t k known st u d n (inr h)))) in
      let mine = own_is script s t k known st in
      let was = left_is script s known.owned.courses t in
      let most = locks_most script known.rules known.threads (applied script s (actor.Thread t) k) in
      omega (arith, threads, debts, mine, was, owed, most, less)

  -- a working command whose search hasn't failed
  pub search_was : (c : Course) (z : State) (stamp : Stamp) → c.answered ≡ (course s t).answered → c.made ≡ false → c.stamp ≡ Some stamp → first_missing c st.step.cmd ≡ None → c.fail ≡ None
      → left_of script z t c ≡ packet_count st.step.cmd + search_left script z c st.step.cmd + later_commands script t (course s t).answered
  search_was c z stamp a m e f fine =
      own_now script s t k known st z c a
      ∙ ap (λ n. n + later_commands script t (course s t).answered)
      (phase_is script z c st.step.cmd false false true m (ap is_none e) (ap is_none f)
      ∙ ap (λ o. elim o [
        | Some deny ↦ 2097153 + sum_by (if_named st.step.cmd (λ b. to_give_back (buffer z b))) (enumerate_from 0 script.buffers)
        | None ↦ packet_count st.step.cmd + search_left script z c st.step.cmd
      ]) fine)

pub skip_falls : (script : Script) (s : State) (t : ℕ) (v : Victim) (d : Deny) (stamp : Stamp) → Known script s → (st : Stepped script s t (kind.Skip v.b)) → (course s t).stamp ≡ Some stamp → OnVictim (course s t) st.step.cmd v → (course s t).fail ≡ None
    → InVram v (buffer s v.b) → v.fail ≡ Some d → measure script (applied script s (actor.Thread t) (kind.Skip v.b)) + 1 ≤ measure script s
skip_falls script s t v d stamp known st e on fine vram fail =
    wide_falls script s t (kind.Skip v.b) known st (same_all s.core.buffers)
    (let own = ap (λ c. sum_by (λ w. slot_debt (is_some (free_slot script s.core)) (buffer s w.b) w) c.caught) (own_course script s t (kind.Skip v.b) st.here) in
    let most = let_go_most (λ w. slot_debt (is_some (free_slot script s.core)) (buffer s w.b) w) v.b (course s t).caught in
    omega (arith, own, most))
    (let was = search_was script s t (kind.Skip v.b) known st (course s t) s stamp refl on.works.unmade e on.works.whole fine in
    let now = search_was script s t (kind.Skip v.b) known st (with_skip v.b (no_longer_caught v.b (course s t))) (applied script s (actor.Thread t) (kind.Skip v.b)) stamp refl on.works.unmade e on.works.whole fine in
    let less = skip_search script s (course s t) st.step.cmd v d on.last vram fail in
    omega (arith, was, now, less))
