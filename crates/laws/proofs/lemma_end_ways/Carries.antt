-- Carrying a named buffer lowers the measure: between SYSTEM and TT, and by a job to or from VRAM.
use Rattle.std.proofs.Common.{◌≡◌, ℕ, ◌≤◌, ◌+◌, ◌*◌, true, false, [], length, Option, Some, None, refl, ◌∙◌, ap, arith, inl}
use Rattle.std.specs.Prelude.{not, sum_by, unwrap_or, is_some, ◌||◌}
use Rattle.ttm_base.specs.declared.Mem.{Mem}
use Rattle.ttm_base.specs.declared.Mem.TheVariants.{System, Tt, Vram}
use Rattle.ttm_base.specs.declared.BufId.{BufId}
use Rattle.ttm_base.specs.declared.JobId.{JobId}
use Rattle.ttm_base.specs.declared.Stamp.{Stamp}
use Rattle.ttm_base.specs.declared.Actor.TheVariants as actor
use Rattle.journal_model.specs.declared.script.Script.{Script}
use Rattle.journal_model.specs.declared.script.Command.{Command}
use Rattle.journal_model.specs.declared.state.State.{State}
use Rattle.journal_model.specs.declared.state.Buffer.{Buffer}
use Rattle.journal_model.specs.declared.entry.Left.{Left}
use Rattle.journal_model.specs.declared.entry.Kind.{Kind}
use Rattle.journal_model.specs.declared.entry.Kind.TheVariants as kind
use Rattle.journal_model.specs.rules.State.{new_buffer, buffer, course, same_buffer, has_buffer, has_target, live_in, is_live, changed}
use Rattle.journal_model.specs.rules.Commands.{named}
use Rattle.journal_model.specs.rules.Waits.{unfinished, jobs_before_write}
use Rattle.journal_model.specs.rules.Ready.{has_all_frames, is_ready}
use Rattle.journal_model.specs.rules.Apply.{applied}
use Rattle.journal_model.specs.rules.ApplyPages.{bound, unbound}
use Rattle.journal_model.specs.rules.ApplyMoves.{moved}
use Rattle.laws.specs.law_sound.Sound.{Carried, Fits}
use Rattle.laws.proofs.law_sound.Measure.{steps_left, slots_to_fill, named_left, victim_left, left_of_buffer, locks_left, measure}
use Rattle.laws.proofs.law_sound.CarriedOn.{step_worth}
use Rattle.laws.proofs.law_sound.Along.{Stepped}
use Rattle.laws.proofs.law_sound.Turns.{Works, OnBuffer}
use Rattle.laws.proofs.law_sound.Bufs.{has_found, none_last, none_missing}
use Rattle.laws.proofs.law_sound.Steadies.{next_course, own_course}
use Rattle.laws.proofs.law_sound.OwnedKeeps.{has_stamp, begun_locks}
use Rattle.laws.proofs.lemma_end_measure.Frame.{left_of, untouched}
use Rattle.laws.proofs.lemma_end_measure.Slots.{Fewer, no_debts}
use Rattle.laws.proofs.lemma_end_measure.Giving.{vram_left, changed_here}
use Rattle.laws.proofs.lemma_end_measure.Border.{Known, shared}
use Rattle.laws.proofs.lemma_end_measure.Skipping.{search_was}
use Rattle.laws.proofs.lemma_end_ways.Exact.{exact_falls, changed_left, has_page, shares_fall}
use Rattle.laws.proofs.lemma_end_ways.Rows.{Nearer, fits_meet, bound_nearer, unbound_nearer, up_nearer, across_nearer, down_nearer}
use Rattle.laws.proofs.lemma_end_ways.Pages.{system_left, tt_left, pages_most, full_left, length-left, fewer_to_fill, vram_most, bound_fewer, unbound_fewer, moved_fewer, move_jobs_left, move_ghosts_left}

-- a live buffer that a working command names; no victim is caught, and no search failed
pub record AtNamed (script : Script) (s : State) (t : ℕ) (cmd : Command) (b : BufId) : Type 0 where
  pub live : live_in s.core.buffers b ≡ Some (buffer s b)
  pub member : has_buffer (named cmd) b ≡ true
  pub alone : (course s t).caught ≡ []
  pub works : Works (course s t) cmd
  pub fine : (course s t).fail ≡ None
  pub stamp : Stamp
  pub stamped : (course s t).stamp ≡ Some stamp

pub live_is : (s : State) (b : BufId) → is_live s b ≡ true → live_in s.core.buffers b ≡ Some (buffer s b)
live_is s b h = by (live_in s.core.buffers b) h
  where
    by : (o : Option Buffer) → is_some o ≡ true → o ≡ Some (unwrap_or o (new_buffer 0))
    by None k = cc
    by (Some x) k = refl

pub at_named : (script : Script) (s : State) (t : ℕ) (k : Kind) (b : BufId) → Known script s → (st : Stepped script s t k) → OnBuffer script s (course s t) st.step.cmd b → AtNamed script s t st.step.cmd b
at_named script s t k b known st on =
    let works = on.named.works in
    let member = has_found (λ y. not (is_ready script s st.step.cmd y)) (named st.step.cmd) b on.first in
    let has = known.owned.held t b (inl (none_missing (course s t) st.step.cmd b works.whole member)) in
    let stamp = has_stamp script s t st.step.cmd st.here st.at known.owned (begun_locks script s t st.step.cmd st.here st.at known.owned works.begun) works.begun in
    record {
      live = live_is s b has.1;
      member = member;
      alone = none_last (course s t).caught on.named.alone;
      works = works;
      fine = on.fine;
      stamp = stamp.0;
      stamped = stamp.1;
    }

-- a buffer's step nearer, with as many pages and no more slots, is worth this much
pub nearer_worth : (script : Script) (cmd : Command) (b : BufId) (x y : Buffer) → steps_left script cmd b y + 1 ≤ steps_left script cmd b x → length y.table ≡ length x.table → slots_to_fill cmd y ≤ slots_to_fill cmd x
    → (5 + 6291456 * steps_left script cmd b y) * length y.table + 67108865 * slots_to_fill cmd y + 6291456 * length x.table ≤ (5 + 6291456 * steps_left script cmd b x) * length x.table + 67108865 * slots_to_fill cmd x
nearer_worth script cmd b x y steps len slots =
    let worth = step_worth (steps_left script cmd b y) (steps_left script cmd b x) (length x.table) steps in
    let same : (5 + 6291456 * steps_left script cmd b y) * length y.table ≡ (5 + 6291456 * steps_left script cmd b y) * length x.table = ap (λ n. (5 + 6291456 * steps_left script cmd b y) * n) len in
    omega (arith, worth, same, slots)

module _ (script : Script) (s : State) (t : ℕ) (k : Kind) (known : Known script s) (st : Stepped script s t k) (b : BufId) (f : Buffer → Buffer) (at : AtNamed script s t st.step.cmd b)
    (buffers : (applied script s (actor.Thread t) k).core.buffers ≡ changed f s.core.buffers b)
    (others : (d : BufId) → same_buffer b d ≡ false → live_in (applied script s (actor.Thread t) k).core.buffers d ≡ live_in s.core.buffers d) where
  now_is : buffer (applied script s (actor.Thread t) k) b ≡ f (buffer s b)
  now_is = ap (λ xs. unwrap_or (live_in xs b) (new_buffer 0)) buffers ∙ ap (λ o. unwrap_or o (new_buffer 0)) (changed_here f s.core.buffers b (buffer s b) at.live)

  named_now : named_left script (applied script s (actor.Thread t) k) st.step.cmd b ≡ (5 + 6291456 * steps_left script st.step.cmd b (f (buffer s b))) * length (f (buffer s b)).table + 67108865 * slots_to_fill st.step.cmd (f (buffer s b))
  named_now = ap (λ y. (5 + 6291456 * steps_left script st.step.cmd b y) * length y.table + 67108865 * slots_to_fill st.step.cmd y) now_is

  -- the buffer comes a step nearer, and all else together rises by less
  carry_falls : next_course script s t k ≡ course s t → locks_left script (applied script s (actor.Thread t) k) ≡ locks_left script s → Fewer s.core.buffers (applied script s (actor.Thread t) k).core.buffers
      → steps_left script st.step.cmd b (f (buffer s b)) + 1 ≤ steps_left script st.step.cmd b (buffer s b) → length (f (buffer s b)).table ≡ length (buffer s b).table
      → slots_to_fill st.step.cmd (f (buffer s b)) ≤ slots_to_fill st.step.cmd (buffer s b)
      → shared (applied script s (actor.Thread t) k) + 1 ≤ shared s + 6291456 * length (buffer s b).table
      → measure script (applied script s (actor.Thread t) k) + 1 ≤ measure script s
  carry_falls own locks fewer steps len slots less =
      exact_falls script s t k known st fewer (omega (arith, locks))
      (let worth = nearer_worth script st.step.cmd b (buffer s b) (f (buffer s b)) steps len slots in
      let named = named_now in
      let shares =
      shares_fall script s (applied script s (actor.Thread t) k) known st.step.cmd b (buffer s b) at.live (λ d h. ap (λ o. unwrap_or o (new_buffer 0)) (others d h)) (course s t) (course s t) (6291456 * length (buffer s b).table)
      (λ e. omega arith) at.member (omega (arith, worth, named)) in
      let now = ap (left_of script (applied script s (actor.Thread t) k) t) own ∙ search_was script s t k known st (course s t) (applied script s (actor.Thread t) k) at.stamp refl at.works.unmade at.stamped at.works.whole at.fine in
      let was = search_was script s t k known st (course s t) s at.stamp refl at.works.unmade at.stamped at.works.whole at.fine in
      let victims : sum_by (λ v. victim_left (buffer (applied script s (actor.Thread t) k) v.b) v) (course s t).caught ≡ 0 = ap (λ vs. sum_by (λ v. victim_left (buffer (applied script s (actor.Thread t) k) v.b) v) vs) at.alone in
      let debts = no_debts script (applied script s (actor.Thread t) k) t (ap (λ c. c.caught) (own_course script s t k st.here ∙ own) ∙ at.alone) in
      omega (arith, shares, now, was, victims, debts, less))

-- ---- between SYSTEM and TT

pub bind_falls : (script : Script) (s : State) (t : ℕ) (b : BufId) → (known : Known script s) → (st : Stepped script s t (kind.Bind b)) → AtNamed script s t st.step.cmd b
    → Carried (Fits script (course s t) st.step.cmd b (buffer s b)) (buffer s b) → (buffer s b).mem ≡ System → has_target Tt (buffer s b) ≡ true → has_all_frames (buffer s b) ≡ true
    → measure script (applied script s (actor.Thread t) (kind.Bind b)) + 1 ≤ measure script s
bind_falls script s t b known st at row m target frames =
    let near = bound_nearer script st.step.cmd b (buffer s b) m target (fits_meet script st.step.cmd b (course s t) (buffer s b) at.fine row) in
    carry_falls script s t (kind.Bind b) known st b bound at refl (λ d h. untouched script s t (kind.Bind b) d h) refl refl (bound_fewer s.core.buffers b) near.steps refl (fewer_to_fill st.step.cmd System (buffer s b) (bound (buffer s b)) refl)
    (let sum = changed_left bound s.core.buffers b (buffer s b) at.live in
    let was = system_left (buffer s b) m in
    let full = full_left (buffer s b).table frames in
    let now = tt_left (bound (buffer s b)) refl in
    let page = has_page script s known b (buffer s b) at.live in
    omega (arith, sum, was, full, now, page))

pub unbind_falls : (script : Script) (s : State) (t : ℕ) (b : BufId) → (known : Known script s) → (st : Stepped script s t (kind.Unbind b)) → AtNamed script s t st.step.cmd b
    → Carried (Fits script (course s t) st.step.cmd b (buffer s b)) (buffer s b) → (buffer s b).mem ≡ Tt → (has_target System (buffer s b) || has_target Tt (buffer s b)) ≡ true
    → measure script (applied script s (actor.Thread t) (kind.Unbind b)) + 1 ≤ measure script s
unbind_falls script s t b known st at row m target =
    let near = unbound_nearer script st.step.cmd b (buffer s b) m target (fits_meet script st.step.cmd b (course s t) (buffer s b) at.fine row) in
    carry_falls script s t (kind.Unbind b) known st b unbound at refl (λ d h. untouched script s t (kind.Unbind b) d h) refl refl (unbound_fewer s.core.buffers b) near.steps refl (fewer_to_fill st.step.cmd System (buffer s b) (unbound (buffer s b)) refl)
    (let sum = changed_left unbound s.core.buffers b (buffer s b) at.live in
    let was = tt_left (buffer s b) m in
    let now = system_left (unbound (buffer s b)) refl in
    let most = pages_most (buffer s b).table in
    let page = has_page script s known b (buffer s b) at.live in
    omega (arith, sum, was, now, most, page))

-- ---- by a job

-- what the buffers, jobs and ghosts cost after a move
pub moved_shared : (script : Script) (s : State) (t : ℕ) (b : BufId) (mem : Mem) (n : ℕ) (l : Left) → live_in s.core.buffers b ≡ Some (buffer s b)
    → shared (applied script s (actor.Thread t) (kind.Move b mem n l)) + left_of_buffer (Some (buffer s b)) ≤ shared s + left_of_buffer (Some (moved mem (record { ctx = 0; num = n }) (buffer s b))) + length (buffer s b).table + 2
moved_shared script s t b mem n l live =
    let job : JobId = record { ctx = 0; num = n } in
    let sum = changed_left (moved mem job) s.core.buffers b (buffer s b) live in
    let jobs = move_jobs_left job (unfinished s.core (jobs_before_write (buffer s b))) (buffer s b) mem s.core.jobs in
    let ghosts = move_ghosts_left (buffer s b) job l s.core.ghosts in
    omega (arith, sum, jobs, ghosts)

module _ (script : Script) (s : State) (t : ℕ) (b : BufId) (mem : Mem) (n : ℕ) (l : Left) (known : Known script s) (st : Stepped script s t (kind.Move b mem n l)) (at : AtNamed script s t st.step.cmd b) where
  -- a move to a place whose pages cost at most two units more
  move_falls : Nearer script st.step.cmd b (buffer s b) (moved mem (record { ctx = 0; num = n }) (buffer s b))
      → left_of_buffer (Some (moved mem (record { ctx = 0; num = n }) (buffer s b))) ≤ left_of_buffer (Some (buffer s b)) + 4194305 * length (buffer s b).table
      → measure script (applied script s (actor.Thread t) (kind.Move b mem n l)) + 1 ≤ measure script s
  move_falls near rise =
      carry_falls script s t (kind.Move b mem n l) known st b (moved mem (record { ctx = 0; num = n })) at refl (λ d h. untouched script s t (kind.Move b mem n l) d h) refl refl
      (moved_fewer mem (record { ctx = 0; num = n }) s.core.buffers b) near.steps (length-left (buffer s b).mem (buffer s b).table)
      (fewer_to_fill st.step.cmd (buffer s b).mem (buffer s b) (moved mem (record { ctx = 0; num = n }) (buffer s b)) refl)
      (let sum = moved_shared script s t b mem n l at.live in
      let page = has_page script s known b (buffer s b) at.live in
      omega (arith, sum, rise, page))

module _ (script : Script) (s : State) (t : ℕ) (b : BufId) (n : ℕ) (l : Left) (known : Known script s) where
  pub move_up_falls : (st : Stepped script s t (kind.Move b Vram n l)) → AtNamed script s t st.step.cmd b → Carried (Fits script (course s t) st.step.cmd b (buffer s b)) (buffer s b)
      → (buffer s b).mem ≡ Tt → (has_target System (buffer s b) || has_target Tt (buffer s b)) ≡ false
      → measure script (applied script s (actor.Thread t) (kind.Move b Vram n l)) + 1 ≤ measure script s
  move_up_falls st at row m target =
      let job : JobId = record { ctx = 0; num = n } in
      move_falls script s t b Vram n l known st at
      (up_nearer script st.step.cmd b (buffer s b) job m target (fits_meet script st.step.cmd b (course s t) (buffer s b) at.fine row))
      (let was = tt_left (buffer s b) m in
      let now = vram_most (moved Vram job (buffer s b)) refl in
      let len = length-left (buffer s b).mem (buffer s b).table in
      omega (arith, was, now, len))

  pub move_across_falls : (st : Stepped script s t (kind.Move b Vram n l)) → AtNamed script s t st.step.cmd b → Carried (Fits script (course s t) st.step.cmd b (buffer s b)) (buffer s b)
      → (buffer s b).mem ≡ Vram → has_target Vram (buffer s b) ≡ true
      → measure script (applied script s (actor.Thread t) (kind.Move b Vram n l)) + 1 ≤ measure script s
  move_across_falls st at row m target =
      let job : JobId = record { ctx = 0; num = n } in
      move_falls script s t b Vram n l known st at
      (across_nearer script st.step.cmd b (buffer s b) job m target (fits_meet script st.step.cmd b (course s t) (buffer s b) at.fine row))
      (let was = vram_left (buffer s b) m in
      let now = vram_most (moved Vram job (buffer s b)) refl in
      let len = length-left (buffer s b).mem (buffer s b).table in
      omega (arith, was, now, len))

  pub move_down_falls : (st : Stepped script s t (kind.Move b Tt n l)) → AtNamed script s t st.step.cmd b → Carried (Fits script (course s t) st.step.cmd b (buffer s b)) (buffer s b)
      → (buffer s b).mem ≡ Vram → has_target Vram (buffer s b) ≡ false → has_target Tt (buffer s b) ≡ true
      → measure script (applied script s (actor.Thread t) (kind.Move b Tt n l)) + 1 ≤ measure script s
  move_down_falls st at row m none target =
      let job : JobId = record { ctx = 0; num = n } in
      move_falls script s t b Tt n l known st at
      (down_nearer script st.step.cmd b (buffer s b) job m none target (fits_meet script st.step.cmd b (course s t) (buffer s b) at.fine row))
      (let was = vram_left (buffer s b) m in
      let now = tt_left (moved Tt job (buffer s b)) refl in
      let len = length-left (buffer s b).mem (buffer s b).table in
      omega (arith, was, now, len))
