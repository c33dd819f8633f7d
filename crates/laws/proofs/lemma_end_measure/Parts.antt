-- The parts of the measure after an entry of one thread.
use Rattle.std.proofs.Common.{◌≡◌, ℕ, ◌≤◌, ◌+◌, true, false, length, Some, None, sym, ◌∙◌, ap, subst, arith, inr, ⊎_elim}
use Rattle.std.specs.Prelude.{sum_by, unwrap_or, is_none}
use Rattle.std.specs.List.{enumerate_from}
use Rattle.std.proofs.lemmas.Bool.{cases_eq, not-false, not_from_true}
use Rattle.ttm_base.specs.declared.BufId.{BufId}
use Rattle.ttm_base.specs.declared.Deny.{Deny}
use Rattle.ttm_base.specs.declared.Stamp.{Stamp}
use Rattle.ttm_base.specs.declared.Actor.TheVariants as actor
use Rattle.journal_model.specs.declared.script.Script.{Script}
use Rattle.journal_model.specs.declared.state.State.{State}
use Rattle.journal_model.specs.declared.state.Course.{Course}
use Rattle.journal_model.specs.declared.entry.Kind.{Kind}
use Rattle.journal_model.specs.rules.State.{new_buffer, buffer, course, reservation}
use Rattle.journal_model.specs.rules.Tasks.{first_missing}
use Rattle.journal_model.specs.rules.Apply.{applied}
use Rattle.journal_model.specs.statements.Scheduled.{Ticketed}
use Rattle.laws.proofs.law_sound.Measure.{is_elder, number_of, waits_for_elder, missing, packet_count, to_give_back, if_named, search_left, later_commands, thread_left, slot_debts, locks_left, measure}
use Rattle.laws.proofs.law_sound.Along.{Stepped}
use Rattle.laws.proofs.law_sound.Steadies.{next_course, own_course}
use Rattle.laws.proofs.lemma_end_measure.Locks.{digit, locks_keep}
use Rattle.laws.proofs.lemma_end_measure.Locking.{waits_of, waits_from, missing_in, missing_is, stamps_same, missing_other, missing_own}
use Rattle.laws.proofs.lemma_end_measure.Frame.{left_of, left_is, others_left}
use Rattle.laws.proofs.lemma_end_measure.Working.{phase_is}
use Rattle.laws.proofs.lemma_end_measure.Slots.{Fewer, debts_keep}
use Rattle.laws.proofs.lemma_end_measure.Sums.{sum_one}
use Rattle.laws.proofs.lemma_end_measure.Border.{Known, shared, range, one, others_same, own_is, own_now}

-- the state after an entry of a thread
abbrev pub after : Script → State → ℕ → Kind → State
after script s t k = applied script s (actor.Thread t) k

module _ (script : Script) (s : State) (t : ℕ) (k : Kind) (known : Known script s) (st : Stepped script s t k) where
  -- what falls of one thread's parts, of the shared ones and of the locks, falls of the measure
  pub parts_fall : Fewer s.core.buffers (after script s t k).core.buffers
      → left_of script (after script s t k) t (next_course script s t k) + slot_debts script (after script s t k) t + shared (after script s t k) + locks_left script (after script s t k) + 1
      ≤ left_of script s t (course s t) + slot_debts script s t + shared s + locks_left script s
      → measure script (after script s t k) + 1 ≤ measure script s
  parts_fall fewer less =
      let r = range script s t k known st in
      let a = r.0 in
      let b = r.1 in
      let threads = sum_one (thread_left script (after script s t k)) (thread_left script s) t (length script.threads) 1 a b
      (λ u n. let e = others_left script s (after script s t k) t u (one script s t k known st) known.owned.courses n (λ d h. others_same script s t k known st u d n h) in omega (arith, e)) in
      let debts = sum_one (slot_debts script (after script s t k)) (slot_debts script s) t (length script.threads) 1 a b
      (λ u n. debts_keep script s (after script s t k) u ((one script s t k known st).others u n) fewer (λ d h. ap (λ p. unwrap_or p (new_buffer 0)) (others_same script s t k known st u d n (inr h)))) in
      let mine = own_is script s t k known st in
      let was = left_is script s known.owned.courses t in
      omega (arith, threads, debts, mine, was, less)

  -- a thread that stays where it is in its locks, and lets nobody go
  pub locks_stay : (c : Course) → next_course script s t k ≡ c → c.stamp ≡ (course s t).stamp → c.held ≡ (course s t).held → c.first ≡ (course s t).first → missing_in script t c ≡ missing_in script t (course s t)
      → ((d : BufId) (h : Stamp) → (reservation s d).holder ≡ Some h → (reservation (after script s t k) d).holder ≡ Some h) → locks_left script (after script s t k) ≤ locks_left script s
  locks_stay c own stamp held first misses kept =
      locks_keep script s (after script s t k) (stamps_same script s t k known st (ap (λ x. x.stamp) own ∙ stamp)) digits less
    where
      is_own : course (after script s t k) t ≡ c
      is_own = own_course script s t k st.here ∙ own

      same : {A : Type 0} (f : Course → A) → f c ≡ f (course s t) → (u : ℕ) → f (course (after script s t k) u) ≡ f (course s u)
      same f e u = ⊎_elim (λ q. subst (λ v. f (course (after script s t k) v) ≡ f (course s v)) (sym q) (ap f is_own ∙ e)) (λ n. ap f ((one script s t k known st).others u n)) (cases_eq u t)

      digits : (x : Ticketed) → digit s x ≡ false → digit (after script s t k) x ≡ false
      digits x h =
          let w = waits_of s (course s x.thread) (not-false (waits_for_elder s (course s x.thread)) h) in
          not_from_true (waits_for_elder (after script s t k) (course (after script s t k) x.thread))
          (waits_from (after script s t k) (course (after script s t k) x.thread)
          (record {
            first = w.first;
            holder = w.holder;
            is_first = same (λ y. y.first) first x.thread ∙ w.is_first;
            empty = same (λ y. y.held) held x.thread ∙ w.empty;
            held = kept w.first w.holder w.held;
            elder = ap (λ o. is_elder (number_of o) (Some w.holder.0)) (same (λ y. y.stamp) stamp x.thread) ∙ w.elder;
          }))

      less : (u : ℕ) → missing script (after script s t k) u ≤ missing script s u
      less u =
          ⊎_elim
          (λ q.
          subst (λ v. missing script (after script s t k) v ≤ missing script s v) (sym q)
          (let now = missing_own script s t k known st ∙ (ap (missing_in script t) own ∙ misses) in
          let was = missing_is script s known.owned.courses t in
          omega (arith, now, was)))
          (λ n. let e = missing_other script s t k known st u n in omega (arith, e))
          (cases_eq u t)

  -- a working command whose search has failed
  pub failed_was : (c : Course) (z : State) (stamp : Stamp) (d : Deny) → c.answered ≡ (course s t).answered → c.made ≡ false → c.stamp ≡ Some stamp → first_missing c st.step.cmd ≡ None → c.fail ≡ Some d
      → left_of script z t c ≡ 2097153 + sum_by (if_named st.step.cmd (λ b. to_give_back (buffer z b))) (enumerate_from 0 script.buffers) + later_commands script t (course s t).answered
  failed_was c z stamp d a m e f failed =
      own_now script s t k known st z c a
      ∙ ap (λ n. n + later_commands script t (course s t).answered)
      (phase_is script z c st.step.cmd false false true m (ap is_none e) (ap is_none f)
      ∙ ap (λ o. elim o [
        | Some deny ↦ 2097153 + sum_by (if_named st.step.cmd (λ b. to_give_back (buffer z b))) (enumerate_from 0 script.buffers)
        | None ↦ packet_count st.step.cmd + search_left script z c st.step.cmd
      ]) failed)
