-- Pages that get frames, and those that go to swap, lower the measure.
use Rattle.std.proofs.Common.{◌≡◌, ℕ, ◌≤◌, ◌+◌, ◌*◌, zero, suc, Bool, true, false, List, [], ◌∷◌, length, Some, None, refl, sym, ◌∙◌, ap, subst, arith, ◌⊎◌, inl, inr, ⊎_elim}
use Rattle.std.specs.Prelude.{slice_get, slice_set, sum_by, count_by, cond, not, unwrap_or, is_some, option_map, ◌||◌, ◌&&◌, if◌then◌else◌}
use Rattle.std.specs.List.{enumerate_from}
use Rattle.std.proofs.lemmas.Bool.{cases_Bool, both_ways, not-true}
use Rattle.std.proofs.lemmas.List.Sums.{sum_by-cons}
use Rattle.ttm_base.specs.ListWords.{count_from}
use Rattle.ttm_base.specs.declared.Mem.TheVariants.{System, Tt, Vram}
use Rattle.ttm_base.specs.declared.BufId.{BufId}
use Rattle.ttm_base.specs.declared.Loc.{Loc}
use Rattle.ttm_base.specs.declared.Loc.TheVariants as loc
use Rattle.ttm_base.specs.declared.Stamp.{Stamp}
use Rattle.journal_model.specs.declared.script.Script.{Script}
use Rattle.journal_model.specs.declared.script.Decl.{Decl}
use Rattle.journal_model.specs.declared.script.Command.{Command}
use Rattle.journal_model.specs.declared.script.Command.TheVariants as command
use Rattle.journal_model.specs.declared.state.State.{State}
use Rattle.journal_model.specs.declared.state.Course.{Course}
use Rattle.journal_model.specs.declared.state.Victim.{Victim}
use Rattle.journal_model.specs.declared.state.Buffer.{Buffer}
use Rattle.journal_model.specs.declared.entry.Why.{Why}
use Rattle.journal_model.specs.declared.entry.Why.TheVariants as why
use Rattle.journal_model.specs.declared.entry.Kind.{Kind}
use Rattle.journal_model.specs.declared.entry.Kind.TheVariants as kind
use Rattle.journal_model.specs.rules.State.{new_buffer, buffer, course, live_in, changed, same_buffer, has_buffer, has_target}
use Rattle.journal_model.specs.rules.Commands.{named}
use Rattle.journal_model.specs.statements.Complete.{thread_numbers}
use Rattle.journal_model.specs.rules.Places.{is_frame, loc_of}
use Rattle.journal_model.specs.rules.Holds.{free_slot}
use Rattle.journal_model.specs.rules.Dry.{has_frame}
use Rattle.journal_model.specs.rules.Ready.{has_all_frames}
use Rattle.journal_model.specs.rules.Search.{is_caught}
use Rattle.journal_model.specs.rules.PageSteps.{page_to_fill, first_frame_page}
use Rattle.journal_model.specs.rules.ApplyPages.{with_loc}
use Rattle.laws.proofs.law_sound.Measure.{one_if, to_give_back, is_slot, slots_to_fill, steps_left, named_left, victim_left, not_skipped, search_share, slot_debt, slot_debts, left_of_buffer, job_left, page_left, thread_left, locks_left, measure}
use Rattle.laws.proofs.law_sound.MeasureFalls.{sum_set, sum_most}
use Rattle.laws.proofs.law_sound.Along.{Stepped}
use Rattle.laws.proofs.law_sound.Turns.{Works, OnVictim}
use Rattle.laws.proofs.law_sound.Bufs.{same_self, same_is, last_caught, none_missing}
use Rattle.laws.proofs.law_sound.Steadies.{next_course, own_course}
use Rattle.laws.proofs.lemma_end_measure.Frame.{left_of, left_is, others_left, untouched}
use Rattle.laws.proofs.lemma_end_measure.Slots.{Fewer, no_debts}
use Rattle.laws.proofs.lemma_end_measure.Sums.{sum_one, fewer_kept}
use Rattle.laws.proofs.lemma_end_measure.Giving.{live_at, changed_here, enumerate_falls}
use Rattle.laws.proofs.lemma_end_measure.Skipping.{search_was}
use Rattle.laws.proofs.lemma_end_measure.Border.{Known, shared, range, one, others_same, own_is}
use Rattle.laws.proofs.lemma_end_measure.Parts.{after, parts_fall}
use Rattle.laws.proofs.lemma_end_searches.Victims.{Caught, Last, nobody, single, pair, last_is, last_of_two}
use Rattle.laws.proofs.lemma_end_searches.Failing.{declared_live}
use Rattle.laws.proofs.lemma_end_searches.Tables.{Passing, to_fill, first_frame, is_swap_out, slots_fall, slots_keep, named_same, system_set, vram_set, slots_set, frame_fewer}

-- ---- victims

-- what a victim costs whose search hasn't failed
unfailed_part : (y : Buffer) (v : Victim) → v.fail ≡ None → victim_left y v ≡ elim v.why [
  | why.Swap ↦ 0
  | why.Tt ↦ if has_target System y then 0 else 2097160
  | why.Vram ↦ elim y.mem [ Vram ↦ one_if (not (has_target Tt y)) | Tt ↦ 2097160 | System ↦ 2097160 ]
]
unfailed_part y v f =
    ap (λ o. elim v.why [
      | why.Swap ↦ 0
      | why.Tt ↦ if has_target System y then 0 else 2097160
      | why.Vram ↦ elim y.mem [
        | Vram ↦ elim o [ None ↦ one_if (not (has_target Tt y)) | Some deny ↦ 2097160 + to_give_back y ]
        | Tt ↦ 2097160
        | System ↦ 2097160
      ]
    ]) f

swap_part : (y : Buffer) (v : Victim) → v.why ≡ why.Swap → victim_left y v ≡ 0
swap_part y v w =
    ap (λ q. elim q [
      | why.Swap ↦ 0
      | why.Tt ↦ if has_target System y then 0 else 2097160
      | why.Vram ↦ elim y.mem [
        | Vram ↦ elim v.fail [ None ↦ one_if (not (has_target Tt y)) | Some deny ↦ 2097160 + to_give_back y ]
        | Tt ↦ 2097160
        | System ↦ 2097160
      ]
    ]) w

vram_debt : (free : Bool) (y : Buffer) (v : Victim) → v.why ≡ why.Vram → slot_debt free y v ≡ 0
vram_debt free y v w = ap (λ q. elim q [ why.Swap ↦ if has_target System y || (has_frame y && free) then 0 else 2097160 | why.Tt ↦ 0 | why.Vram ↦ 0 ]) w

debt_most : (free : Bool) (y : Buffer) (v : Victim) → slot_debt free y v ≤ 2097160
debt_most free y v = by v.why (has_target System y || (has_frame y && free))
  where
    by : (w : Why) (q : Bool) → elim w [ why.Swap ↦ if q then 0 else 2097160 | why.Tt ↦ 0 | why.Vram ↦ 0 ] ≤ 2097160
    by why.Swap true = omega arith
    by why.Swap false = omega arith
    by why.Tt q = omega arith
    by why.Vram q = omega arith

-- at most one victim for swap
debts_most : (free : Bool) (f : BufId → Buffer) (vs : List Victim) → Caught vs → sum_by (λ v. slot_debt free (f v.b) v) vs ≤ 2097160
debts_most free f [] nobody = omega arith
debts_most free f (v ∷ []) single = let most = debt_most free (f v.b) v in let sum = sum_by-cons (λ w. slot_debt free (f w.b) w) v [] in omega (arith, most, sum)
debts_most free f (v ∷ w ∷ []) (pair e n d) =
    let none = vram_debt free (f v.b) v e in
    let most = debt_most free (f w.b) w in
    let a = sum_by-cons (λ u. slot_debt free (f u.b) u) v (w ∷ []) in
    let b = sum_by-cons (λ u. slot_debt free (f u.b) u) w [] in
    omega (arith, none, most, a, b)
debts_most free f (v ∷ w ∷ x ∷ vs) few = elim few [ ]

-- ---- a buffer of whose table one page changes

module _ (script : Script) (s : State) (t : ℕ) (k : Kind) (known : Known script s) (st : Stepped script s t k) (b : BufId) (page : ℕ) (l : Loc) (live : live_in s.core.buffers b ≡ Some (buffer s b))
    (core : (after script s t k).core ≡ record s.core { buffers = changed (with_loc page l) s.core.buffers b })
    (others : (d : BufId) → same_buffer b d ≡ false → live_in (after script s t k).core.buffers d ≡ live_in s.core.buffers d) where
  now_is : buffer (after script s t k) b ≡ with_loc page l (buffer s b)
  now_is = ap (λ c. unwrap_or (live_in c.buffers b) (new_buffer 0)) core ∙ ap (λ o. unwrap_or o (new_buffer 0)) (changed_here (with_loc page l) s.core.buffers b (buffer s b) live)

  other_is : (d : BufId) → same_buffer b d ≡ false → buffer (after script s t k) d ≡ buffer s d
  other_is d h = ap (λ o. unwrap_or o (new_buffer 0)) (others d h)

  shared_set : shared (after script s t k) + left_of_buffer (Some (buffer s b)) ≡ shared s + left_of_buffer (Some (with_loc page l (buffer s b)))
  shared_set =
      let all : shared (after script s t k) ≡ sum_by left_of_buffer (changed (with_loc page l) s.core.buffers b) + sum_by job_left s.core.jobs + length s.core.ghosts =
      ap (λ c. sum_by left_of_buffer c.buffers + sum_by job_left c.jobs + length c.ghosts) core in
      let set : sum_by left_of_buffer (changed (with_loc page l) s.core.buffers b) ≡ sum_by left_of_buffer (slice_set s.core.buffers b.0 (Some (with_loc page l (buffer s b)))) =
      ap (λ o. sum_by left_of_buffer (slice_set s.core.buffers b.0 (option_map (with_loc page l) o))) live in
      let sum = sum_set left_of_buffer s.core.buffers b.0 (Some (buffer s b)) (Some (with_loc page l (buffer s b))) (live_at s.core.buffers b (buffer s b) live) in
      omega (arith, all, set, sum)

  named_now : (cmd : Command) → named_left script (after script s t k) cmd b ≡ (5 + 6291456 * steps_left script cmd b (buffer s b)) * length (buffer s b).table + 67108865 * slots_to_fill cmd (with_loc page l (buffer s b))
  named_now cmd =
      ap (λ x. (5 + 6291456 * steps_left script cmd b x) * length x.table + 67108865 * slots_to_fill cmd x) now_is
      ∙ ap (λ n. n + 67108865 * slots_to_fill cmd (with_loc page l (buffer s b))) (named_same script cmd b (buffer s b) page l)

  share_keeps : (cmd : Command) → (has_buffer (named cmd) b ≡ true → slots_to_fill cmd (with_loc page l (buffer s b)) ≤ slots_to_fill cmd (buffer s b)) → (y : ℕ × Decl)
      → search_share script (after script s t k) (course s t) cmd y ≤ search_share script s (course s t) cmd y
  share_keeps cmd less y = by (has_buffer (named cmd) (record { 0 = y.0 })) refl
    where
      cost : has_buffer (named cmd) (record { 0 = y.0 }) ≡ true → named_left script (after script s t k) cmd (record { 0 = y.0 }) ≤ named_left script s cmd (record { 0 = y.0 })
      cost h =
          ⊎_elim
          (λ q.
          let it : b ≡ record { 0 = y.0 } = same_is b (record { 0 = y.0 }) q in
          subst (λ z. named_left script (after script s t k) cmd z ≤ named_left script s cmd z) it
          (let n = named_now cmd in let fewer = less (subst (λ z. has_buffer (named cmd) z ≡ true) (sym it) h) in omega (arith, n, fewer)))
          (λ q.
          let same : named_left script (after script s t k) cmd (record { 0 = y.0 }) ≡ named_left script s cmd (record { 0 = y.0 }) =
          ap (λ x. (5 + 6291456 * steps_left script cmd (record { 0 = y.0 }) x) * length x.table + 67108865 * slots_to_fill cmd x) (other_is (record { 0 = y.0 }) q) in
          omega (arith, same))
          (cases_Bool (same_buffer b (record { 0 = y.0 })))

      by : (q : Bool) → has_buffer (named cmd) (record { 0 = y.0 }) ≡ q →
          4194304 * not_skipped (course s t) y + (if q then named_left script (after script s t k) cmd (record { 0 = y.0 }) else 0) ≤ 4194304 * not_skipped (course s t) y + (if q then named_left script s cmd (record { 0 = y.0 }) else 0)
      by true h = let c = cost h in omega (arith, c)
      by false h = omega arith

  shares_keep : (cmd : Command) → (has_buffer (named cmd) b ≡ true → slots_to_fill cmd (with_loc page l (buffer s b)) ≤ slots_to_fill cmd (buffer s b))
      → sum_by (search_share script (after script s t k) (course s t) cmd) (enumerate_from 0 script.buffers) ≤ sum_by (search_share script s (course s t) cmd) (enumerate_from 0 script.buffers)
  shares_keep cmd less = sum_most (search_share script (after script s t k) (course s t) cmd) (search_share script s (course s t) cmd) (enumerate_from 0 script.buffers) (share_keeps cmd less)

  shares_fall : (cmd : Command) → has_buffer (named cmd) b ≡ true → slots_to_fill cmd (with_loc page l (buffer s b)) + 1 ≤ slots_to_fill cmd (buffer s b)
      → sum_by (search_share script (after script s t k) (course s t) cmd) (enumerate_from 0 script.buffers) + 67108865 ≤ sum_by (search_share script s (course s t) cmd) (enumerate_from 0 script.buffers)
  shares_fall cmd member less =
      let d = declared_live script s known b (buffer s b) live in
      enumerate_falls (search_share script (after script s t k) (course s t) cmd) (search_share script s (course s t) cmd) 67108865 script.buffers 0 b.0 d.decl d.at (share_keeps cmd (λ h. omega (arith, less)))
      (let at : 0 + b.0 ≡ b.0 = omega arith in
      subst (λ n. search_share script (after script s t k) (course s t) cmd (n, d.decl) + 67108865 ≤ search_share script s (course s t) cmd (n, d.decl)) (sym at)
      (let now : search_share script (after script s t k) (course s t) cmd (b.0, d.decl) ≡ 4194304 * not_skipped (course s t) (b.0, d.decl) + named_left script (after script s t k) cmd b =
      ap (λ q. 4194304 * not_skipped (course s t) (b.0, d.decl) + (if q then named_left script (after script s t k) cmd b else 0)) member in
      let was : search_share script s (course s t) cmd (b.0, d.decl) ≡ 4194304 * not_skipped (course s t) (b.0, d.decl) + named_left script s cmd b =
      ap (λ q. 4194304 * not_skipped (course s t) (b.0, d.decl) + (if q then named_left script s cmd b else 0)) member in
      let n = named_now cmd in
      omega (arith, now, was, n, less)))

  -- the victims' part, where one buffer changes and the victims on it cost no more
  victims_none : (course s t).caught ≡ [] → sum_by (λ w. victim_left (buffer (after script s t k) w.b) w) (course s t).caught ≤ sum_by (λ w. victim_left (buffer s w.b) w) (course s t).caught
  victims_none alone = subst (λ vs. sum_by (λ w. victim_left (buffer (after script s t k) w.b) w) vs ≤ sum_by (λ w. victim_left (buffer s w.b) w) vs) (sym alone) (omega arith)

  victims_one : (v : Victim) → v.b ≡ b → v.fail ≡ None → (course s t).caught ≡ v ∷ [] → sum_by (λ w. victim_left (buffer (after script s t k) w.b) w) (course s t).caught ≤ sum_by (λ w. victim_left (buffer s w.b) w) (course s t).caught
  victims_one v is f alone =
      subst (λ vs. sum_by (λ w. victim_left (buffer (after script s t k) w.b) w) vs ≤ sum_by (λ w. victim_left (buffer s w.b) w) vs) (sym alone)
      (let now = ap (λ d. victim_left (buffer (after script s t k) d) v) is ∙ (ap (λ x. victim_left x v) now_is ∙ unfailed_part (with_loc page l (buffer s b)) v f) in
      let was = ap (λ d. victim_left (buffer s d) v) is ∙ unfailed_part (buffer s b) v f in
      let same : victim_left (buffer (after script s t k) v.b) v ≡ victim_left (buffer s v.b) v = now ∙ sym was in
      let a = sum_by-cons (λ w. victim_left (buffer (after script s t k) w.b) w) v [] in
      let c = sum_by-cons (λ w. victim_left (buffer s w.b) w) v [] in
      omega (arith, same, a, c))

  victims_swap : (vs : List Victim) (v : Victim) → Caught vs → Last vs v → v.b ≡ b → v.why ≡ why.Swap → sum_by (λ w. victim_left (buffer (after script s t k) w.b) w) vs ≤ sum_by (λ w. victim_left (buffer s w.b) w) vs
  victims_swap [] v nobody h is w = cc
  victims_swap (u ∷ []) v single h is w =
      let it = last_is u v h in
      let none = swap_part (buffer (after script s t k) u.b) u (ap (λ z. z.why) it ∙ w) in
      let a = sum_by-cons (λ z. victim_left (buffer (after script s t k) z.b) z) u [] in
      omega (arith, none, a)
  victims_swap (u ∷ x ∷ []) v (pair e n p) h is w =
      let it = last_of_two u x v h in
      let none = swap_part (buffer (after script s t k) x.b) x (ap (λ z. z.why) it ∙ w) in
      let at : x.b ≡ b = ap (λ z. z.b) it ∙ is in
      let apart : same_buffer b u.b ≡ false = turned b u.b (subst (λ z. same_buffer u.b z ≡ false) at p) in
      let same : victim_left (buffer (after script s t k) u.b) u ≡ victim_left (buffer s u.b) u = ap (λ y. victim_left y u) (other_is u.b apart) in
      let a = sum_by-cons (λ z. victim_left (buffer (after script s t k) z.b) z) u (x ∷ []) in
      let c = sum_by-cons (λ z. victim_left (buffer (after script s t k) z.b) z) x [] in
      let d = sum_by-cons (λ z. victim_left (buffer s z.b) z) u (x ∷ []) in
      omega (arith, none, same, a, c, d)
    where
      turned : (a b : BufId) → same_buffer b a ≡ false → same_buffer a b ≡ false
      turned a b q = ⊎_elim (λ r. absurd (both_ways (same_buffer b a) q (subst (λ z. same_buffer z a ≡ true) (same_is a b r) (same_self a)))) (λ r. r) (cases_Bool (same_buffer a b))
  victims_swap (u ∷ x ∷ y ∷ vs) v few h is w = elim few [ ]

-- ---- a fill

-- whose page is filled: a named buffer's, or a victim's that is to leave VRAM
pub data Filler (s : State) (c : Course) (cmd : Command) : BufId → Type 0 where
  for_named : {b : BufId} → Works c cmd → c.caught ≡ [] → has_buffer (named cmd) b ≡ true → ((buffer s b).mem ≡ System) ⊎ ((buffer s b).mem ≡ Vram) → Filler s c cmd b
  for_victim : (v : Victim) → OnVictim c cmd v → c.caught ≡ v ∷ [] → v.why ≡ why.Vram → v.fail ≡ None → (buffer s v.b).mem ≡ Vram → Filler s c cmd v.b

pub works_of : (s : State) (c : Course) (cmd : Command) (b : BufId) → Filler s c cmd b → Works c cmd
works_of s c cmd b (for_named works alone member place) = works
works_of s c cmd b (for_victim v on alone w f m) = on.works

module _ (script : Script) (s : State) (t : ℕ) (k : Kind) (known : Known script s) (st : Stepped script s t k) (b : BufId) (page frame : ℕ) (a : Loc) (live : live_in s.core.buffers b ≡ Some (buffer s b))
    (core : (after script s t k).core ≡ record s.core { buffers = changed (with_loc page (loc.Frame frame)) s.core.buffers b })
    (others : (d : BufId) → same_buffer b d ≡ false → live_in (after script s t k).core.buffers d ≡ live_in s.core.buffers d)
    (own : next_course script s t k ≡ course s t) (locks : locks_left script (after script s t k) ≡ locks_left script s) (stamp : Stamp) (e : (course s t).stamp ≡ Some stamp) (fine : (course s t).fail ≡ None)
    (at : slice_get (buffer s b).table page ≡ Some a) (empty : is_frame a ≡ false) (filler : Filler s (course s t) st.step.cmd b) where
  abbrev filled : Buffer
  filled = with_loc page (loc.Frame frame) (buffer s b)

  fewer : Fewer s.core.buffers (after script s t k).core.buffers
  fewer = subst (λ c. Fewer s.core.buffers c.buffers) (sym core) (fewer_kept (option_map (with_loc page (loc.Frame frame))) (frame_fewer page frame) s.core.buffers b.0)

  slots : count_by is_slot (slice_set (buffer s b).table page (loc.Frame frame)) + cond (is_slot a) 1 0 ≡ count_by is_slot (buffer s b).table
  slots = let z = slots_set (buffer s b) page a (loc.Frame frame) at in omega (arith, z)

  fewer_slots : has_buffer (named st.step.cmd) b ≡ true → slots_to_fill st.step.cmd (with_loc page (loc.Frame frame) (buffer s b)) ≤ slots_to_fill st.step.cmd (buffer s b)
  fewer_slots h = slots_keep st.step.cmd (buffer s b) (with_loc page (loc.Frame frame) (buffer s b)) (let z = slots in omega (arith, z))

  victims_most : (c : BufId) → c ≡ b → Filler s (course s t) st.step.cmd c → sum_by (λ w. victim_left (buffer (after script s t k) w.b) w) (course s t).caught ≤ sum_by (λ w. victim_left (buffer s w.b) w) (course s t).caught
  victims_most c is (for_named works alone member place) = victims_none script s t k known st b page (loc.Frame frame) live core others alone
  victims_most c is (for_victim v on alone w f m) = victims_one script s t k known st b page (loc.Frame frame) live core others v is f alone

  no_debt : (c : BufId) → Filler s (course s t) st.step.cmd c → slot_debts script (after script s t k) t ≡ 0
  no_debt c (for_named works alone member place) = no_debts script (after script s t k) t (ap (λ z. z.caught) (own_course script s t k st.here ∙ own) ∙ alone)
  no_debt c (for_victim v on alone w f m) =
      ap (sum_by (λ x. slot_debt (is_some (free_slot script (after script s t k).core)) (buffer (after script s t k) x.b) x)) (ap (λ z. z.caught) (own_course script s t k st.here ∙ own) ∙ alone)
      ∙ (let sum = sum_by-cons (λ x. slot_debt (is_some (free_slot script (after script s t k).core)) (buffer (after script s t k) x.b) x) v [] in
      let none = vram_debt (is_some (free_slot script (after script s t k).core)) (buffer (after script s t k) v.b) v w in
      omega (arith, sum, none))

  -- the buffer's part, and what the search costs less by its slots
  fill_sum : (n : ℕ) → sum_by (search_share script (after script s t k) (course s t) st.step.cmd) (enumerate_from 0 script.buffers) + n ≤ sum_by (search_share script s (course s t) st.step.cmd) (enumerate_from 0 script.buffers)
      → left_of_buffer (Some (with_loc page (loc.Frame frame) (buffer s b))) + 1 ≤ left_of_buffer (Some (buffer s b)) + n → measure script (after script s t k) + 1 ≤ measure script s
  fill_sum n shares part =
      let works = works_of s (course s t) st.step.cmd b filler in
      parts_fall script s t k known st fewer
      (let now = ap (left_of script (after script s t k) t) own ∙ search_was script s t k known st (course s t) (after script s t k) stamp refl works.unmade e works.whole fine in
      let was = search_was script s t k known st (course s t) s stamp refl works.unmade e works.whole fine in
      let victims = victims_most b refl filler in
      let none = no_debt b filler in
      let all = shared_set script s t k known st b page (loc.Frame frame) live core others in
      omega (arith, now, was, victims, none, all, locks, shares, part))

  keep : sum_by (search_share script (after script s t k) (course s t) st.step.cmd) (enumerate_from 0 script.buffers) + 0 ≤ sum_by (search_share script s (course s t) st.step.cmd) (enumerate_from 0 script.buffers)
  keep = let z = shares_keep script s t k known st b page (loc.Frame frame) live core others st.step.cmd fewer_slots in omega (arith, z)

  in_vram : (buffer s b).mem ≡ Vram → measure script (after script s t k) + 1 ≤ measure script s
  in_vram m =
      fill_sum 0 keep
      (let set = vram_set (buffer s b) page a (loc.Frame frame) at m in
      let one : ◌≡◌ {A = ℕ} (cond (not (is_frame a)) 1 0) 1 = ap (λ q. cond (not q) 1 0) empty in
      omega (arith, set, one))

  fresh_in_system : a ≡ loc.Zero → (buffer s b).mem ≡ System → measure script (after script s t k) + 1 ≤ measure script s
  fresh_in_system z m =
      fill_sum 0 keep
      (let set = system_set (buffer s b) page a (loc.Frame frame) at m in
      let one : page_left a ≡ 67108865 = ap page_left z in
      omega (arith, set, one))

  back_in_system : {slot : ℕ} → a ≡ loc.Slot slot → is_swap_out st.step.cmd ≡ false → has_buffer (named st.step.cmd) b ≡ true → measure script (after script s t k) + 1 ≤ measure script s
  back_in_system z q member =
      by (filled_mem b filler)
    where
      one : ◌≡◌ {A = ℕ} (cond (is_slot a) 1 0) 1
      one = ap (λ y. cond (is_slot y) 1 0) z

      filled_mem : (c : BufId) → Filler s (course s t) st.step.cmd c → ((buffer s c).mem ≡ System) ⊎ ((buffer s c).mem ≡ Vram)
      filled_mem c (for_named works alone m place) = place
      filled_mem c (for_victim v on alone w f m) = inr m

      by : ((buffer s b).mem ≡ System) ⊎ ((buffer s b).mem ≡ Vram) → measure script (after script s t k) + 1 ≤ measure script s
      by (inr m) = in_vram m
      by (inl m) =
          fill_sum 67108865
          (shares_fall script s t k known st b page (loc.Frame frame) live core others st.step.cmd member
          (slots_fall st.step.cmd (buffer s b) (with_loc page (loc.Frame frame) (buffer s b)) 1 q (let y = slots in let o = one in omega (arith, y, o))))
          (let set = system_set (buffer s b) page a (loc.Frame frame) at m in omega (arith, set))

-- a page without a frame
module _ (x : Buffer) (lacks : has_all_frames x ≡ false) where
  page_lacks : is_frame (to_fill x lacks).element ≡ false
  page_lacks = not-true (is_frame (to_fill x lacks).element) (to_fill x lacks).passes

  page_is : loc_of x (page_to_fill x) ≡ (to_fill x lacks).element
  page_is = ap (λ o. unwrap_or o loc.Zero) (to_fill x lacks).at

pub populate_falls : (script : Script) (s : State) (t : ℕ) (b : BufId) (frame : ℕ) (stamp : Stamp) → Known script s → (st : Stepped script s t (kind.Populate b (page_to_fill (buffer s b)) frame)) → (course s t).stamp ≡ Some stamp → (course s t).fail ≡ None
    → live_in s.core.buffers b ≡ Some (buffer s b) → has_all_frames (buffer s b) ≡ false → loc_of (buffer s b) (page_to_fill (buffer s b)) ≡ loc.Zero → Filler s (course s t) st.step.cmd b
    → measure script (after script s t (kind.Populate b (page_to_fill (buffer s b)) frame)) + 1 ≤ measure script s
populate_falls script s t b frame stamp known st e fine live lacks fresh filler =
    ⊎_elim
    (λ m. fresh_in_system script s t (kind.Populate b (page_to_fill (buffer s b)) frame) known st b (page_to_fill (buffer s b)) frame (to_fill (buffer s b) lacks).element live refl
    (λ d h. untouched script s t (kind.Populate b (page_to_fill (buffer s b)) frame) d h) refl refl stamp e fine (to_fill (buffer s b) lacks).at (page_lacks (buffer s b) lacks) filler (sym (page_is (buffer s b) lacks) ∙ fresh) m)
    (λ m. in_vram script s t (kind.Populate b (page_to_fill (buffer s b)) frame) known st b (page_to_fill (buffer s b)) frame (to_fill (buffer s b) lacks).element live refl
    (λ d h. untouched script s t (kind.Populate b (page_to_fill (buffer s b)) frame) d h) refl refl stamp e fine (to_fill (buffer s b) lacks).at (page_lacks (buffer s b) lacks) filler m)
    (place b filler)
  where
    place : (c : BufId) → Filler s (course s t) st.step.cmd c → ((buffer s c).mem ≡ System) ⊎ ((buffer s c).mem ≡ Vram)
    place c (for_named works alone member at) = at
    place c (for_victim v on alone w f m) = inr m

pub swap_in_falls : (script : Script) (s : State) (t : ℕ) (b : BufId) (slot frame : ℕ) (stamp : Stamp) → Known script s → (st : Stepped script s t (kind.SwapIn b (page_to_fill (buffer s b)) slot frame)) → (course s t).stamp ≡ Some stamp → (course s t).fail ≡ None
    → live_in s.core.buffers b ≡ Some (buffer s b) → has_all_frames (buffer s b) ≡ false → loc_of (buffer s b) (page_to_fill (buffer s b)) ≡ loc.Slot slot → Filler s (course s t) st.step.cmd b
    → ((buffer s b).mem ≡ System → is_swap_out st.step.cmd ≡ false)
    → measure script (after script s t (kind.SwapIn b (page_to_fill (buffer s b)) slot frame)) + 1 ≤ measure script s
swap_in_falls script s t b slot frame stamp known st e fine live lacks back filler asks = by b refl filler
  where
    vram : (buffer s b).mem ≡ Vram → measure script (after script s t (kind.SwapIn b (page_to_fill (buffer s b)) slot frame)) + 1 ≤ measure script s
    vram m =
        in_vram script s t (kind.SwapIn b (page_to_fill (buffer s b)) slot frame) known st b (page_to_fill (buffer s b)) frame (to_fill (buffer s b) lacks).element live refl
        (λ d h. untouched script s t (kind.SwapIn b (page_to_fill (buffer s b)) slot frame) d h) refl refl stamp e fine (to_fill (buffer s b) lacks).at (page_lacks (buffer s b) lacks) filler m

    by : (c : BufId) → c ≡ b → Filler s (course s t) st.step.cmd c → measure script (after script s t (kind.SwapIn b (page_to_fill (buffer s b)) slot frame)) + 1 ≤ measure script s
    by c is (for_victim v on alone w f m) = vram (subst (λ z. (buffer s z).mem ≡ Vram) is m)
    by c is (for_named works alone member (inr m)) = vram (subst (λ z. (buffer s z).mem ≡ Vram) is m)
    by c is (for_named works alone member (inl m)) =
        back_in_system script s t (kind.SwapIn b (page_to_fill (buffer s b)) slot frame) known st b (page_to_fill (buffer s b)) frame (to_fill (buffer s b) lacks).element live refl
        (λ d h. untouched script s t (kind.SwapIn b (page_to_fill (buffer s b)) slot frame) d h) refl refl stamp e fine (to_fill (buffer s b) lacks).at (page_lacks (buffer s b) lacks) filler
        (sym (page_is (buffer s b) lacks) ∙ back) (asks (subst (λ z. (buffer s z).mem ≡ System) is m)) (subst (λ z. has_buffer (named st.step.cmd) z ≡ true) is member)

-- ---- a page goes to swap

-- whose page goes: a named buffer's, or a victim's that was caught for swap
pub data Swapper (s : State) (c : Course) (cmd : Command) (b : BufId) : Type 0 where
  by_name : c.caught ≡ [] → cmd ≡ command.SwapOut b → Swapper s c cmd b
  by_victim : (v : Victim) → Last c.caught v → v.b ≡ b → v.why ≡ why.Swap → Swapper s c cmd b

length-count : (n from : ℕ) → length (count_from 1 n from) ≡ n
length-count zero from = refl
length-count (suc n) from = ap suc (length-count n (1 + from))

sum_each : (f : ℕ → ℕ) (xs : List ℕ) → ((x : ℕ) → f x ≤ 2097160) → sum_by f xs ≤ 2097160 * length xs
sum_each f [] h = omega arith
sum_each f (x ∷ xs) h = let here = h x in let rest = sum_each f xs h in let sum = sum_by-cons f x xs in omega (arith, here, rest, sum)

module _ (script : Script) (s : State) (t : ℕ) (b : BufId) (slot : ℕ) (known : Known script s) (st : Stepped script s t (kind.SwapOut b (first_frame_page (buffer s b)) slot)) (stamp : Stamp) (e : (course s t).stamp ≡ Some stamp)
    (works : Works (course s t) st.step.cmd) (fine : (course s t).fail ≡ None) (few : (u : ℕ) → Caught (course s u).caught) (live : live_in s.core.buffers b ≡ Some (buffer s b)) (frame : has_frame (buffer s b) ≡ true)
    (stands : (buffer s b).mem ≡ System) (swapper : Swapper s (course s t) st.step.cmd b) where
  abbrev out : Kind
  out = kind.SwapOut b (first_frame_page (buffer s b)) slot

  others_stay : (d : BufId) → same_buffer b d ≡ false → live_in (after script s t out).core.buffers d ≡ live_in s.core.buffers d
  others_stay d h = untouched script s t out d h

  gone : Passing is_frame (buffer s b).table (first_frame_page (buffer s b))
  gone = first_frame (buffer s b) frame

  -- each other thread may find that the last slot went
  all_debts : sum_by (slot_debts script (after script s t out)) (thread_numbers script) ≤ 33554560
  all_debts =
      let each = sum_each (slot_debts script (after script s t out)) (thread_numbers script)
      (λ u. debts_most (is_some (free_slot script (after script s t out).core)) (buffer (after script s t out)) (course s u).caught (few u)) in
      let numbers = length-count (length script.threads) 1 in
      let threads = known.threads in
      omega (arith, each, numbers, threads)

  part : left_of_buffer (Some (with_loc (first_frame_page (buffer s b)) (loc.Slot slot) (buffer s b))) + 67108864 ≡ left_of_buffer (Some (buffer s b))
  part =
      let set = system_set (buffer s b) (first_frame_page (buffer s b)) gone.element (loc.Slot slot) gone.at stands in
      let is = frame_left gone.element gone.passes in
      omega (arith, set, is)
    where
      frame_left : (l : Loc) → is_frame l ≡ true → page_left l ≡ 67108864
      frame_left loc.Zero h = cc
      frame_left (loc.Frame f) h = refl
      frame_left (loc.Slot k) h = cc

  swap_victims : Swapper s (course s t) st.step.cmd b → sum_by (λ w. victim_left (buffer (after script s t out) w.b) w) (course s t).caught ≤ sum_by (λ w. victim_left (buffer s w.b) w) (course s t).caught
  swap_victims (by_name alone is) = victims_none script s t out known st b (first_frame_page (buffer s b)) (loc.Slot slot) live refl others_stay alone
  swap_victims (by_victim v last is w) = victims_swap script s t out known st b (first_frame_page (buffer s b)) (loc.Slot slot) live refl others_stay (course s t).caught v (few t) last is w

  swap_slots : Swapper s (course s t) st.step.cmd b → has_buffer (named st.step.cmd) b ≡ true → slots_to_fill st.step.cmd (with_loc (first_frame_page (buffer s b)) (loc.Slot slot) (buffer s b)) ≤ slots_to_fill st.step.cmd (buffer s b)
  swap_slots (by_name alone is) h = subst (λ c. slots_to_fill c (with_loc (first_frame_page (buffer s b)) (loc.Slot slot) (buffer s b)) ≤ slots_to_fill c (buffer s b)) (sym is) (omega arith)
  swap_slots (by_victim v last is w) h =
      absurd (both_ways (has_buffer (course s t).held b) ((known.owned.steady t).apart b (subst (λ z. is_caught (course s t) z ≡ true) is (last_caught (course s t) v last))) (none_missing (course s t) st.step.cmd b works.whole h))

  pub swap_out_falls : measure script (after script s t out) + 1 ≤ measure script s
  swap_out_falls =
      let r = range script s t out known st in
      let low = r.0 in
      let high = r.1 in
      let threads = sum_one (thread_left script (after script s t out)) (thread_left script s) t (length script.threads) 1 low high
      (λ u n. let same = others_left script s (after script s t out) t u (one script s t out known st) known.owned.courses n (λ d h. others_same script s t out known st u d n h) in omega (arith, same)) in
      let debts = all_debts in
      let mine = own_is script s t out known st in
      let before = left_is script s known.owned.courses t in
      let now = search_was script s t out known st (course s t) (after script s t out) stamp refl works.unmade e works.whole fine in
      let was = search_was script s t out known st (course s t) s stamp refl works.unmade e works.whole fine in
      let victims = swap_victims swapper in
      let shares = shares_keep script s t out known st b (first_frame_page (buffer s b)) (loc.Slot slot) live refl others_stay st.step.cmd (swap_slots swapper) in
      let all = shared_set script s t out known st b (first_frame_page (buffer s b)) (loc.Slot slot) live refl others_stay in
      let falls = part in
      omega (arith, threads, debts, mine, before, now, was, victims, shares, all, falls)
