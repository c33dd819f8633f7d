-- Entries that begin and end commands, and those of engines and the reaper, lower the measure; those of searches are left.
use Rattle.std.proofs.Common.{◌≡◌, ℕ, ◌≤◌, ◌+◌, zero, suc, Bool, true, false, List, [], ◌∷◌, Option, Some, None, refl, sym, ◌∙◌, ap, subst, inl, inr}
use Rattle.std.specs.Prelude.{slice_set, not, unwrap_or, is_some, ◌||◌}
use Rattle.ttm_base.specs.declared.BufId.{BufId}
use Rattle.ttm_base.specs.declared.Stamp.{Stamp}
use Rattle.ttm_base.specs.declared.Actor.TheVariants as actor
use Rattle.journal_model.specs.declared.script.Script.{Script}
use Rattle.journal_model.specs.declared.script.Command.{Command}
use Rattle.journal_model.specs.declared.state.State.{State}
use Rattle.journal_model.specs.declared.state.Victim.{Victim}
use Rattle.journal_model.specs.declared.state.Buffer.{Buffer}
use Rattle.journal_model.specs.declared.state.Task.{Task}
use Rattle.journal_model.specs.declared.state.Task.TheVariants as task
use Rattle.journal_model.specs.declared.entry.Kind.{Kind}
use Rattle.journal_model.specs.declared.entry.Kind.TheVariants as kind
use Rattle.journal_model.specs.rules.State.{new_buffer, buffer, course, has_buffer, has_target, live_in}
use Rattle.journal_model.specs.rules.Tasks.{starts, first_missing}
use Rattle.journal_model.specs.rules.PageSteps.{next_job, target_to_untake}
use Rattle.ttm_base.specs.declared.Mem.TheVariants.{Vram}
use Rattle.journal_model.specs.rules.Commands.{decl, named}
use Rattle.journal_model.specs.rules.Dry.{has_frame}
use Rattle.journal_model.specs.rules.Ready.{first_unready, is_ready}
use Rattle.journal_model.specs.rules.Places.{slots_of}
use Rattle.journal_model.specs.rules.Holds.{has_number}
use Rattle.journal_model.specs.rules.Apply.{applied}
use Rattle.laws.specs.law_sound.Sound.{locks}
use Rattle.laws.proofs.law_sound.Measure.{measure}
use Rattle.laws.proofs.law_sound.Along.{Stepped}
use Rattle.laws.proofs.law_sound.Turns.{Turn, Works, OnNamed, OnVictim, answer, start, lock, give, victim_skip, act}
use Rattle.laws.proofs.law_sound.Gifts.{Gives, answers, makes, exists, shifts, draws, no_buffer, reserves, backs, depopulates, untakes, skips, gives_up, refuses, arms, frees, no_swap, acts}
use Rattle.laws.proofs.law_sound.Bufs.{victims_of, same_self, has_found, none_missing, none_last, last_caught}
use Rattle.laws.proofs.law_sound.Steadies.{locking_command, lock_wants, locks_alone}
use Rattle.laws.proofs.law_sound.OwnedKeeps.{bare, unlocked_alone, has_stamp, begun_locks}
use Rattle.laws.proofs.lemma_end_measure.Slots.{OneFewer, Fewer, same_one, same_all}
use Rattle.laws.proofs.lemma_end_measure.Border.{Known, next_falls, new_falls, bulk_falls, ticket_falls, free_falls, arm_falls}
use Rattle.laws.proofs.lemma_end_measure.Skipping.{skip_falls}
use Rattle.laws.proofs.lemma_end_measure.Giving.{target_there, depopulate_falls, untake_falls}
use Rattle.laws.proofs.lemma_end_measure.Locking.{reserve_falls, backoff_falls}

-- ---- a new buffer holds no slot

no_slots : (n k : ℕ) → has_number (slots_of (new_buffer n)) k ≡ true → ⊥
no_slots zero k h = cc
no_slots (suc n) k h = no_slots n k h

new_one : (x : Option Buffer) (n : ℕ) → OneFewer x (Some (new_buffer n))
new_one None n = λ k h. no_slots n k h
new_one (Some x) n = λ k h. absurd (no_slots n k h)

new_fewer : (xs : List (Option Buffer)) (i n : ℕ) → Fewer xs (slice_set xs i (Some (new_buffer n)))
new_fewer [] i n = tt
new_fewer (x ∷ xs) zero n = (new_one x n, same_all xs)
new_fewer (x ∷ xs) (suc i) n = (same_one x, new_fewer xs i n)

-- ---- nobody caught

none_from : (vs : List Victim) → ((b : BufId) → has_buffer (victims_of vs) b ≡ true → ⊥) → vs ≡ []
none_from [] h = refl
none_from (v ∷ vs) h = absurd (h v.b (ap (λ q. q || has_buffer (victims_of vs) v.b) (same_self v.b)))

-- the entries of searches: of tasks on a buffer, and a command's own swapping out
abbrev pub is_searching : Task → Kind → Bool
is_searching (task.Search b aim) k = true
is_searching (task.Bind b) k = true
is_searching (task.Unbind b) k = true
is_searching (task.Move b mem) k = true
is_searching (task.Fill b) k = true
is_searching (task.Empty b) k = true
is_searching (task.GiveBack b) k = true
is_searching task.Act (kind.SwapOut b page slot) = true
is_searching t k = false

module _ (script : Script) (s : State) (t : ℕ) (known : Known script s) where
  -- the measure falls
  abbrev pub Lower : Kind → Type 0
  Lower k = measure script (applied script s (actor.Thread t) k) + 1 ≤ measure script s

  module _ (k : Kind) (st : Stepped script s t k) where
    -- of a command that locks nothing there is no stamp
    no_stamp : locks st.step.cmd ≡ false → (course s t).stamp ≡ None
    no_stamp l = by (course s t).stamp refl
      where
        by : (o : Option Stamp) → (course s t).stamp ≡ o → o ≡ None
        by None e = refl
        by (Some x) e =
            let w = (known.owned.steady t).at_work x e in
            let it : Some st.step.cmd ≡ Some w.0 = sym st.at ∙ w.1 in
            let same : st.step.cmd ≡ w.0 = cc in
            absurd (let z : false ≡ true = sym l ∙ (ap locks same ∙ w.2) in cc)

    no_victim : locks st.step.cmd ≡ false → (course s t).caught ≡ []
    no_victim l = unlocked_alone script s t st.step.cmd st.here st.at known.owned l

    bare_victim : (course s t).stamp ≡ None → (course s t).caught ≡ []
    bare_victim e = none_from (course s t).caught (λ b h. bare script s t st.step.cmd st.here st.at known.owned e b (inr h))

    lock_victim : (b : BufId) → (course s t).made ≡ false → starts (course s t) st.step.cmd ≡ false → first_missing (course s t) st.step.cmd ≡ Some b → (course s t).caught ≡ []
    lock_victim b m n f = none_from (course s t).caught (λ d h. locks_alone script t (course s t) st.step.cmd (known.owned.steady t) st.at b d (lock_wants (course s t) st.step.cmd b m n f) h)

    stamp_of : starts (course s t) st.step.cmd ≡ false → (x : Stamp) × ((course s t).stamp ≡ Some x)
    stamp_of n = has_stamp script s t st.step.cmd st.here st.at known.owned (begun_locks script s t st.step.cmd st.here st.at known.owned n) n

  -- a named buffer that is at work is live
  pub record AtWork (cmd : Command) (b : BufId) : Type 0 where
    pub buffer : Buffer
    pub live : live_in s.core.buffers b ≡ Some buffer
    pub member : has_buffer (named cmd) b ≡ true

  at_work : (cmd : Command) (b : BufId) → Works (course s t) cmd → first_unready script s cmd ≡ Some b → AtWork cmd b
  at_work cmd b works u =
      let member = has_found (λ y. not (is_ready script s cmd y)) (named cmd) b u in
      let w = known.owned.held t b (inl (none_missing (course s t) cmd b works.whole member)) in
      by (live_in s.core.buffers b) refl w.1 member
    where
      by : (o : Option Buffer) → live_in s.core.buffers b ≡ o → is_some o ≡ true → has_buffer (named cmd) b ≡ true → AtWork cmd b
      by None q h m = cc
      by (Some y) q h m = record { buffer = y; live = q; member = m }

  thread_falls : (k : Kind) (st : Stepped script s t k) (cmd : Command) → st.step.cmd ≡ cmd → (x : Task) → Turn script s (course s t) cmd x → Gives script s (course s t) cmd x k → (is_searching x k ≡ true → Lower k) → Lower k
  thread_falls k st cmd e x (answer m) answers rest = next_falls script s t k known st refl refl
  thread_falls k st cmd e x (start m q) (makes {b} is dead) rest =
      let l : locks st.step.cmd ≡ false = ap locks (e ∙ is) in
      new_falls script s t b known st m (no_stamp k st l) (no_victim k st l) (new_fewer s.core.buffers b.0 (decl script b).pages)
  thread_falls k st cmd e x (start m q) (exists is) rest = next_falls script s t k known st refl refl
  thread_falls k st cmd e x (start m q) (shifts {group} is) rest =
      let l : locks st.step.cmd ≡ false = ap locks (e ∙ is) in bulk_falls script s t group known st m (no_stamp k st l) (no_victim k st l)
  thread_falls k st cmd e x (start m q) (draws l) rest =
      let none = locking_command (course s t) cmd q l in ticket_falls script s t (record { 0 = s.last_stamp + 1 }) known st m none (bare_victim k st none)
  thread_falls k st cmd e x (lock m n f) (no_buffer dead) rest = next_falls script s t k known st refl refl
  thread_falls k st cmd e x (lock m n f) (reserves {b} live free) rest =
      let n' = subst (λ z. starts (course s t) z ≡ false) (sym e) n in
      let f' = subst (λ z. first_missing (course s t) z ≡ Some b) (sym e) f in
      let stamp = stamp_of k st n' in
      reserve_falls script s t b stamp.0 known st stamp.1 m f' free (lock_victim k st b m n' f')
  thread_falls k st cmd e x (lock m n f) (backs {b} {st = holder} live held older) rest =
      let n' = subst (λ z. starts (course s t) z ≡ false) (sym e) n in
      let f' = subst (λ z. first_missing (course s t) z ≡ Some b) (sym e) f in
      let stamp = stamp_of k st n' in
      backoff_falls script s t b holder stamp.0 known st stamp.1 m f' held older (lock_victim k st b m n' f')
  thread_falls k st cmd e x (give {b = b} d on l fail u g) (depopulates m f) rest =
      let on' = subst (λ z. OnNamed s (course s t) z) (sym e) on in
      let w = at_work st.step.cmd b on'.works (subst (λ z. first_unready script s z ≡ Some b) (sym e) u) in
      let is : buffer s b ≡ w.buffer = ap (λ o. unwrap_or o (new_buffer 0)) w.live in
      let stamp = stamp_of k st on'.works.begun in
      depopulate_falls script s t b w.buffer stamp.0 d known st w.live w.member (none_last (course s t).caught on'.alone) on'.works stamp.1 fail
      (subst (λ y. y.mem ≡ Vram) is m) (subst (λ y. has_frame y ≡ true) is f)
  thread_falls k st cmd e x (give {b = b} d on l fail u g) (untakes n) rest =
      let on' = subst (λ z. OnNamed s (course s t) z) (sym e) on in
      let w = at_work st.step.cmd b on'.works (subst (λ z. first_unready script s z ≡ Some b) (sym e) u) in
      let is : buffer s b ≡ w.buffer = ap (λ o. unwrap_or o (new_buffer 0)) w.live in
      let stamp = stamp_of k st on'.works.begun in
      untake_falls script s t b w.buffer stamp.0 d (target_to_untake (buffer s b)) known st w.live w.member (none_last (course s t).caught on'.alone) on'.works stamp.1 fail
      (subst (λ y. has_target (target_to_untake (buffer s b)) y ≡ true) is (target_there (buffer s b) g n))
  thread_falls k st cmd e x (victim_skip v d on vram fail g) skips rest =
      let on' = subst (λ z. OnVictim (course s t) z v) (sym e) on in
      let stamp = stamp_of k st on'.works.begun in
      skip_falls script s t v d stamp.0 known st stamp.1 on' ((known.owned.steady t).unfailed v.b (last_caught (course s t) v on'.last)) vram fail
  thread_falls k st cmd e x turn gives_up rest = next_falls script s t k known st refl refl
  thread_falls k st cmd e x turn refuses rest = next_falls script s t k known st refl refl
  thread_falls k st cmd e x (act on a f u) (arms {engine} ops is) rest =
      let on' = subst (λ z. OnNamed s (course s t) z) (sym e) on in
      let stamp = stamp_of k st on'.works.begun in
      arm_falls script s t engine (next_job s engine) ops stamp.0 known st (e ∙ is) stamp.1 on' f
  thread_falls k st cmd e x (act on a f u) (frees {b} {g} is q) rest =
      let on' = subst (λ z. OnNamed s (course s t) z) (sym e) on in
      let stamp = stamp_of k st on'.works.begun in
      free_falls script s t b g stamp.0 known st stamp.1 on' f
  thread_falls k st cmd e x turn (no_swap is) rest = next_falls script s t k known st refl refl
  thread_falls k st cmd e x turn acts rest = next_falls script s t k known st refl refl
  thread_falls k st cmd e x turn gives rest = rest refl

  -- the entry of a thread, where those of searches do
  pub entry_falls : (k : Kind) (st : Stepped script s t k) → (is_searching st.step.task k ≡ true → Lower k) → Lower k
  entry_falls k st rest = thread_falls k st st.step.cmd refl st.step.task st.turn st.gives rest
