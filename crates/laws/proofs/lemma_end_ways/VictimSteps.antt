-- The steps of a victim on its way lower the measure: out of VRAM and TT, and giving back what its search took.
use Rattle.std.proofs.Common.{◌≡◌, ℕ, ◌≤◌, ◌+◌, Bool, true, false, List, [], ◌∷◌, Some, None, refl, sym, ◌∙◌, ap, ap₂, arith, inr}
use Rattle.std.specs.Prelude.{sum_by, unwrap_or, is_some, not, ◌&&◌, ◌||◌, if◌then◌else◌}
use Rattle.std.proofs.lemmas.Bool.{false_from_ne_true}
use Rattle.std.proofs.lemmas.List.Sums.{sum_by-cons}
use Rattle.ttm_base.specs.declared.Mem.{Mem}
use Rattle.ttm_base.specs.declared.Mem.TheVariants.{System, Tt, Vram}
use Rattle.ttm_base.specs.declared.BufId.{BufId}
use Rattle.ttm_base.specs.declared.Stamp.{Stamp}
use Rattle.ttm_base.specs.declared.Deny.{Deny}
use Rattle.ttm_base.specs.declared.Actor.TheVariants as actor
use Rattle.journal_model.specs.declared.script.Script.{Script}
use Rattle.journal_model.specs.declared.script.Command.{Command}
use Rattle.journal_model.specs.declared.state.State.{State}
use Rattle.journal_model.specs.declared.state.Victim.{Victim}
use Rattle.journal_model.specs.declared.state.Buffer.{Buffer}
use Rattle.journal_model.specs.declared.entry.Why.{Why}
use Rattle.journal_model.specs.declared.entry.Why.TheVariants as why
use Rattle.journal_model.specs.declared.entry.Left.{Left}
use Rattle.journal_model.specs.declared.entry.Kind.{Kind}
use Rattle.journal_model.specs.declared.entry.Kind.TheVariants as kind
use Rattle.journal_model.specs.rules.State.{new_buffer, buffer, course, same_buffer, has_buffer, has_target, live_in}
use Rattle.journal_model.specs.rules.Commands.{named}
use Rattle.journal_model.specs.rules.Holds.{free_slot}
use Rattle.journal_model.specs.rules.Dry.{has_frame}
use Rattle.journal_model.specs.rules.Search.{is_caught}
use Rattle.journal_model.specs.rules.Apply.{applied}
use Rattle.journal_model.specs.rules.ApplyPages.{with_spans, without_frames, unbound}
use Rattle.journal_model.specs.rules.ApplyMoves.{moved}
use Rattle.laws.proofs.law_sound.Measure.{one_if, to_give_back, victim_left, slot_debt, slot_debts, locks_left, measure}
use Rattle.laws.proofs.law_sound.Along.{Stepped}
use Rattle.laws.proofs.law_sound.Turns.{Works, OnVictim, InVram}
use Rattle.laws.proofs.law_sound.Bufs.{other_is, last_caught, none_missing, clash}
use Rattle.laws.proofs.law_sound.Steadies.{next_course, own_course}
use Rattle.laws.proofs.law_sound.OwnedKeeps.{has_stamp, begun_locks}
use Rattle.laws.proofs.lemma_end_measure.Frame.{left_of, untouched}
use Rattle.laws.proofs.lemma_end_measure.Slots.{Fewer, slot_stays, debt_most}
use Rattle.laws.proofs.lemma_end_measure.Giving.{vram_left, changed_here, frames_given, frames_rise, target_given, some_frame, depopulated_fewer, untaken_fewer}
use Rattle.laws.proofs.lemma_end_measure.Border.{Known, shared}
use Rattle.laws.proofs.lemma_end_measure.Skipping.{search_was}
use Rattle.laws.proofs.lemma_end_ways.Exact.{exact_falls, changed_left, has_page, shares_same}
use Rattle.laws.proofs.lemma_end_ways.Pages.{system_left, tt_left, pages_most, length-left, unbound_fewer, moved_fewer}
use Rattle.laws.proofs.lemma_end_ways.Carries.{live_is, moved_shared}

-- the last of those caught: it is alone, or another buffer was caught before it
pub data IsLast (v : Victim) (vs : List Victim) : Type 0 where
  alone : vs ≡ v ∷ [] → IsLast v vs
  second : (w : Victim) → vs ≡ w ∷ v ∷ [] → (w.b ≡ v.b → ⊥) → IsLast v vs

-- a live victim at work, which no name of the command is
pub record AtVictim (script : Script) (s : State) (t : ℕ) (cmd : Command) (v : Victim) : Type 0 where
  pub live : live_in s.core.buffers v.b ≡ Some (buffer s v.b)
  pub unnamed : has_buffer (named cmd) v.b ≡ false
  pub caught : is_caught (course s t) v.b ≡ true
  pub last : IsLast v (course s t).caught
  pub works : Works (course s t) cmd
  pub fine : (course s t).fail ≡ None
  pub stamp : Stamp
  pub stamped : (course s t).stamp ≡ Some stamp

pub at_victim : (script : Script) (s : State) (t : ℕ) (k : Kind) (v : Victim) → Known script s → (st : Stepped script s t k) → OnVictim (course s t) st.step.cmd v → IsLast v (course s t).caught → AtVictim script s t st.step.cmd v
at_victim script s t k v known st on last =
    let caught = last_caught (course s t) v on.last in
    let has = known.owned.held t v.b (inr caught) in
    let works = on.works in
    let stamp = has_stamp script s t st.step.cmd st.here st.at known.owned (begun_locks script s t st.step.cmd st.here st.at known.owned works.begun) works.begun in
    record {
      live = live_is s v.b has.1;
      unnamed = false_from_ne_true (has_buffer (named st.step.cmd) v.b) (λ h. clash (sym (none_missing (course s t) st.step.cmd v.b works.whole h) ∙ (known.owned.steady t).apart v.b caught));
      caught = caught;
      last = last;
      works = works;
      fine = (known.owned.steady t).unfailed v.b caught;
      stamp = stamp.0;
      stamped = stamp.1;
    }

-- only the last victim's part may rise
pub sum_last : (f g : Victim → ℕ) (v : Victim) (vs : List Victim) → IsLast v vs → ((w : Victim) → (w.b ≡ v.b → ⊥) → f w ≤ g w) → sum_by f vs + g v ≤ sum_by g vs + f v
sum_last f g v vs (alone e) less =
    let now : sum_by f vs ≡ sum_by f (v ∷ []) = ap (sum_by f) e in
    let was : sum_by g vs ≡ sum_by g (v ∷ []) = ap (sum_by g) e in
    omega (arith, now, was, sum_by-cons f v [], sum_by-cons g v [])
sum_last f g v vs (second w e other) less =
    let now : sum_by f vs ≡ sum_by f (w ∷ v ∷ []) = ap (sum_by f) e in
    let was : sum_by g vs ≡ sum_by g (w ∷ v ∷ []) = ap (sum_by g) e in
    let here = less w other in
    omega (arith, now, was, here, sum_by-cons f w (v ∷ []), sum_by-cons g w (v ∷ []), sum_by-cons f v [], sum_by-cons g v [])

-- what a victim may cost: on its way, and for lack of a slot
abbrev pub victim_cost : Script → State → Buffer → Victim → ℕ
victim_cost script s x v = victim_left x v + slot_debt (is_some (free_slot script s.core)) x v

module _ (script : Script) (s : State) (t : ℕ) (k : Kind) (known : Known script s) (st : Stepped script s t k) (v : Victim) (at : AtVictim script s t st.step.cmd v)
    (others : (d : BufId) → same_buffer v.b d ≡ false → live_in (applied script s (actor.Thread t) k).core.buffers d ≡ live_in s.core.buffers d) where
  other_same : (d : BufId) → same_buffer v.b d ≡ false → buffer (applied script s (actor.Thread t) k) d ≡ buffer s d
  other_same d h = ap (λ o. unwrap_or o (new_buffer 0)) (others d h)

  victim_same : (w : Victim) → (w.b ≡ v.b → ⊥) → buffer (applied script s (actor.Thread t) k) w.b ≡ buffer s w.b
  victim_same w n = other_same w.b (other_is v.b w.b (λ e. n (sym e)))

  -- the victim's own costs, and those of the buffers, fall together
  pub victim_falls : next_course script s t k ≡ course s t → locks_left script (applied script s (actor.Thread t) k) ≤ locks_left script s → Fewer s.core.buffers (applied script s (actor.Thread t) k).core.buffers
      → victim_cost script (applied script s (actor.Thread t) k) (buffer (applied script s (actor.Thread t) k) v.b) v + shared (applied script s (actor.Thread t) k) + 1 ≤ victim_cost script s (buffer s v.b) v + shared s
      → measure script (applied script s (actor.Thread t) k) + 1 ≤ measure script s
  victim_falls own locks fewer less =
      exact_falls script s t k known st fewer locks
      (let shares = shares_same script s (applied script s (actor.Thread t) k) known st.step.cmd v.b (buffer s v.b) at.live other_same (course s t) at.unnamed in
      let now = ap (left_of script (applied script s (actor.Thread t) k) t) own ∙ search_was script s t k known st (course s t) (applied script s (actor.Thread t) k) at.stamp refl at.works.unmade at.stamped at.works.whole at.fine in
      let was = search_was script s t k known st (course s t) s at.stamp refl at.works.unmade at.stamped at.works.whole at.fine in
      let victims =
      sum_last (λ w. victim_left (buffer (applied script s (actor.Thread t) k) w.b) w) (λ w. victim_left (buffer s w.b) w) v (course s t).caught at.last
      (λ w n. let e : victim_left (buffer (applied script s (actor.Thread t) k) w.b) w ≡ victim_left (buffer s w.b) w = ap (λ x. victim_left x w) (victim_same w n) in omega (arith, e)) in
      let stays = slot_stays script s.core (applied script s (actor.Thread t) k).core fewer in
      let debts =
      sum_last (λ w. slot_debt (is_some (free_slot script (applied script s (actor.Thread t) k).core)) (buffer (applied script s (actor.Thread t) k) w.b) w) (λ w. slot_debt (is_some (free_slot script s.core)) (buffer s w.b) w) v (course s t).caught at.last
      (λ w n.
      let e : slot_debt (is_some (free_slot script (applied script s (actor.Thread t) k).core)) (buffer (applied script s (actor.Thread t) k) w.b) w ≡ slot_debt (is_some (free_slot script (applied script s (actor.Thread t) k).core)) (buffer s w.b) w =
      ap (λ x. slot_debt (is_some (free_slot script (applied script s (actor.Thread t) k).core)) x w) (victim_same w n) in
      let m = debt_most (is_some (free_slot script s.core)) (is_some (free_slot script (applied script s (actor.Thread t) k).core)) (buffer s w.b) w stays in
      omega (arith, e, m)) in
      let mine : slot_debts script (applied script s (actor.Thread t) k) t ≡ sum_by (λ w. slot_debt (is_some (free_slot script (applied script s (actor.Thread t) k).core)) (buffer (applied script s (actor.Thread t) k) w.b) w) (course s t).caught =
      ap (λ c. sum_by (λ w. slot_debt (is_some (free_slot script (applied script s (actor.Thread t) k).core)) (buffer (applied script s (actor.Thread t) k) w.b) w) c.caught) (own_course script s t k st.here ∙ own) in
      omega (arith, shares, now, was, victims, debts, mine, less))

-- ---- each kind

-- out of VRAM a victim costs at most this
low_cost : (script : Script) (s : State) (x : Buffer) (v : Victim) → (x.mem ≡ Vram → ⊥) → victim_cost script s x v ≤ 2097160
low_cost script s x v n = by v.why x.mem n (has_target System x) (has_target System x || (has_frame x && is_some (free_slot script s.core)))
  where
    by : (w : Why) (m : Mem) → (m ≡ Vram → ⊥) → (p q : Bool) →
        elim w [
          | why.Swap ↦ 0
          | why.Tt ↦ if p then 0 else 2097160
          | why.Vram ↦ elim m [
            | Vram ↦ elim v.fail [ None ↦ one_if (not (has_target Tt x)) | Some deny ↦ 2097160 + to_give_back x ]
            | Tt ↦ 2097160
            | System ↦ 2097160
          ]
        ] + elim w [ why.Swap ↦ if q then 0 else 2097160 | why.Tt ↦ 0 | why.Vram ↦ 0 ] ≤ 2097160
    by why.Swap m n p true = omega arith
    by why.Swap m n p false = omega arith
    by why.Tt m n true q = omega arith
    by why.Tt m n false q = omega arith
    by why.Vram Vram n p q = absurd (n refl)
    by why.Vram Tt n p q = omega arith
    by why.Vram System n p q = omega arith

-- of a victim for VRAM whose search failed
failed_cost : (script : Script) (s : State) (x : Buffer) (v : Victim) (d : Deny) → v.why ≡ why.Vram → x.mem ≡ Vram → v.fail ≡ Some d → victim_cost script s x v ≡ 2097160 + to_give_back x
failed_cost script s x v d w m f =
    let is : victim_cost script s x v ≡ 2097160 + to_give_back x + 0 =
    ap₂ (λ w m. elim w [
      | why.Swap ↦ 0
      | why.Tt ↦ if has_target System x then 0 else 2097160
      | why.Vram ↦ elim m [
        | Vram ↦ elim v.fail [ None ↦ one_if (not (has_target Tt x)) | Some deny ↦ 2097160 + to_give_back x ]
        | Tt ↦ 2097160
        | System ↦ 2097160
      ]
    ] + elim w [ why.Swap ↦ if has_target System x || (has_frame x && is_some (free_slot script s.core)) then 0 else 2097160 | why.Tt ↦ 0 | why.Vram ↦ 0 ]) w m
    ∙ ap (λ o. elim o [ None ↦ one_if (not (has_target Tt x)) | Some deny ↦ 2097160 + to_give_back x ] + 0) f in
    omega (arith, is)

-- of one whose search goes on
pub searching_cost : (script : Script) (s : State) (x : Buffer) (v : Victim) (q : Bool) → v.why ≡ why.Vram → x.mem ≡ Vram → v.fail ≡ None → has_target Tt x ≡ q → victim_cost script s x v ≡ one_if (not q)
searching_cost script s x v q w m f h =
    let is : victim_cost script s x v ≡ one_if (not q) + 0 =
    ap₂ (λ w m. elim w [
      | why.Swap ↦ 0
      | why.Tt ↦ if has_target System x then 0 else 2097160
      | why.Vram ↦ elim m [
        | Vram ↦ elim v.fail [ None ↦ one_if (not (has_target Tt x)) | Some deny ↦ 2097160 + to_give_back x ]
        | Tt ↦ 2097160
        | System ↦ 2097160
      ]
    ] + elim w [ why.Swap ↦ if has_target System x || (has_frame x && is_some (free_slot script s.core)) then 0 else 2097160 | why.Tt ↦ 0 | why.Vram ↦ 0 ]) w m
    ∙ (ap (λ o. elim o [ None ↦ one_if (not (has_target Tt x)) | Some deny ↦ 2097160 + to_give_back x ] + 0) f ∙ ap (λ z. one_if (not z) + 0) h) in
    omega (arith, is)

module _ (script : Script) (s : State) (t : ℕ) (v : Victim) (known : Known script s) where
  pub victim_unbind_falls : (st : Stepped script s t (kind.Unbind v.b)) → AtVictim script s t st.step.cmd v → (buffer s v.b).mem ≡ Tt
      → measure script (applied script s (actor.Thread t) (kind.Unbind v.b)) + 1 ≤ measure script s
  victim_unbind_falls st at m =
      victim_falls script s t (kind.Unbind v.b) known st v at (λ d h. untouched script s t (kind.Unbind v.b) d h) refl (omega arith) (unbound_fewer s.core.buffers v.b)
      (let here : buffer (applied script s (actor.Thread t) (kind.Unbind v.b)) v.b ≡ unbound (buffer s v.b) = ap (λ o. unwrap_or o (new_buffer 0)) (changed_here unbound s.core.buffers v.b (buffer s v.b) at.live) in
      let cost = low_cost script (applied script s (actor.Thread t) (kind.Unbind v.b)) (buffer (applied script s (actor.Thread t) (kind.Unbind v.b)) v.b) v (λ e. (let z : System ≡ Vram = sym (ap (λ x. x.mem) here) ∙ e in cc)) in
      let sum = changed_left unbound s.core.buffers v.b (buffer s v.b) at.live in
      let was = tt_left (buffer s v.b) m in
      let now = system_left (unbound (buffer s v.b)) refl in
      let most = pages_most (buffer s v.b).table in
      let page = has_page script s known v.b (buffer s v.b) at.live in
      omega (arith, cost, sum, was, now, most, page))

  pub victim_move_falls : (n : ℕ) (l : Left) → (st : Stepped script s t (kind.Move v.b Tt n l)) → AtVictim script s t st.step.cmd v → (buffer s v.b).mem ≡ Vram
      → measure script (applied script s (actor.Thread t) (kind.Move v.b Tt n l)) + 1 ≤ measure script s
  victim_move_falls n l st at m =
      victim_falls script s t (kind.Move v.b Tt n l) known st v at (λ d h. untouched script s t (kind.Move v.b Tt n l) d h) refl (omega arith) (moved_fewer Tt (record { ctx = 0; num = n }) s.core.buffers v.b)
      (let here : buffer (applied script s (actor.Thread t) (kind.Move v.b Tt n l)) v.b ≡ moved Tt (record { ctx = 0; num = n }) (buffer s v.b) = ap (λ o. unwrap_or o (new_buffer 0)) (changed_here (moved Tt (record { ctx = 0; num = n })) s.core.buffers v.b (buffer s v.b) at.live) in
      let cost = low_cost script (applied script s (actor.Thread t) (kind.Move v.b Tt n l)) (buffer (applied script s (actor.Thread t) (kind.Move v.b Tt n l)) v.b) v (λ e. (let z : Tt ≡ Vram = sym (ap (λ x. x.mem) here) ∙ e in cc)) in
      let sum = moved_shared script s t v.b Tt n l at.live in
      let was = vram_left (buffer s v.b) m in
      let now = tt_left (moved Tt (record { ctx = 0; num = n }) (buffer s v.b)) refl in
      let len = length-left (buffer s v.b).mem (buffer s v.b).table in
      let page = has_page script s known v.b (buffer s v.b) at.live in
      omega (arith, cost, sum, was, now, len, page))

  pub victim_depopulate_falls : (d : Deny) → (st : Stepped script s t (kind.Depopulate v.b)) → AtVictim script s t st.step.cmd v → InVram v (buffer s v.b) → v.fail ≡ Some d → has_frame (buffer s v.b) ≡ true
      → measure script (applied script s (actor.Thread t) (kind.Depopulate v.b)) + 1 ≤ measure script s
  victim_depopulate_falls d st at vram fail frame =
      victim_falls script s t (kind.Depopulate v.b) known st v at (λ e h. untouched script s t (kind.Depopulate v.b) e h) refl (omega arith) (depopulated_fewer s.core.buffers v.b)
      (let here : buffer (applied script s (actor.Thread t) (kind.Depopulate v.b)) v.b ≡ without_frames (buffer s v.b) = ap (λ o. unwrap_or o (new_buffer 0)) (changed_here without_frames s.core.buffers v.b (buffer s v.b) at.live) in
      let cost = ap (λ x. victim_cost script (applied script s (actor.Thread t) (kind.Depopulate v.b)) x v) here ∙ failed_cost script (applied script s (actor.Thread t) (kind.Depopulate v.b)) (without_frames (buffer s v.b)) v d vram.why vram.mem fail in
      let before = failed_cost script s (buffer s v.b) v d vram.why vram.mem fail in
      let given = frames_given (buffer s v.b) vram.mem in
      let rise = frames_rise (buffer s v.b) vram.mem in
      let some = some_frame (buffer s v.b).table frame in
      let sum = changed_left without_frames s.core.buffers v.b (buffer s v.b) at.live in
      omega (arith, cost, before, given, rise, some, sum))

  pub victim_untake_falls : (d : Deny) (m : Mem) → (st : Stepped script s t (kind.Untake v.b m)) → AtVictim script s t st.step.cmd v → InVram v (buffer s v.b) → v.fail ≡ Some d → has_target m (buffer s v.b) ≡ true
      → measure script (applied script s (actor.Thread t) (kind.Untake v.b m)) + 1 ≤ measure script s
  victim_untake_falls d m st at vram fail target =
      victim_falls script s t (kind.Untake v.b m) known st v at (λ e h. untouched script s t (kind.Untake v.b m) e h) refl (omega arith) (untaken_fewer m s.core.buffers v.b)
      (let here : buffer (applied script s (actor.Thread t) (kind.Untake v.b m)) v.b ≡ with_spans m None (buffer s v.b) = ap (λ o. unwrap_or o (new_buffer 0)) (changed_here (with_spans m None) s.core.buffers v.b (buffer s v.b) at.live) in
      let cost = ap (λ x. victim_cost script (applied script s (actor.Thread t) (kind.Untake v.b m)) x v) here ∙ failed_cost script (applied script s (actor.Thread t) (kind.Untake v.b m)) (with_spans m None (buffer s v.b)) v d vram.why vram.mem fail in
      let before = failed_cost script s (buffer s v.b) v d vram.why vram.mem fail in
      let given = target_given m (buffer s v.b) target in
      let sum = changed_left (with_spans m None) s.core.buffers v.b (buffer s v.b) at.live in
      omega (arith, cost, before, given, sum))
