-- Each legal entry keeps a good view of the state, and shows what is due.
use Rattle.std.proofs.Common.{◌≡◌, ℕ, ◌+◌, Bool, true, false, List, [], Some, None, Ok, refl, sym, subst, ◌∙◌, ap, ⊎_elim}
use Rattle.std.specs.Prelude.{slice_get, if◌then◌else◌, ◌==◌, ◌||◌, IsSome, unwrap_or, not}
use Rattle.std.proofs.lemmas.Bool.{cases_eq, eq-eqb, false≢true, ne_eqb}
use Rattle.ttm_base.specs.declared.Mem.{Mem}
use Rattle.ttm_base.specs.declared.Mem.TheVariants as mem
use Rattle.ttm_base.specs.declared.BufId.{BufId}
use Rattle.ttm_base.specs.declared.Op.{Op}
use Rattle.ttm_base.specs.declared.Loc.TheVariants as loc
use Rattle.ttm_base.specs.declared.Actor.{Actor}
use Rattle.ttm_base.specs.declared.Actor.TheVariants as actor
use Rattle.journal_model.specs.declared.script.Script.{Script}
use Rattle.journal_model.specs.declared.script.Command.{Command}
use Rattle.journal_model.specs.declared.script.Command.TheVariants as command
use Rattle.journal_model.specs.declared.state.State.{State}
use Rattle.journal_model.specs.declared.state.Core.{Core}
use Rattle.journal_model.specs.declared.state.Course.{Course}
use Rattle.journal_model.specs.declared.state.Victim.{Victim}
use Rattle.journal_model.specs.declared.entry.Kind.{Kind}
use Rattle.journal_model.specs.declared.entry.Kind.TheVariants as kind
use Rattle.journal_model.specs.declared.entry.Shown.{Shown}
use Rattle.journal_model.specs.declared.entry.Shown.TheVariants as shown
use Rattle.journal_model.specs.rules.State.{buffer, course, course_of, live_in}
use Rattle.journal_model.specs.rules.Commands.{decl, named, commands_of, command_at_work}
use Rattle.journal_model.specs.statements.Complete.{is_answer}
use Rattle.journal_model.specs.rules.Next.{next}
use Rattle.journal_model.specs.rules.Apply.{applied, thread_of}
use Rattle.journal_model.specs.rules.ApplyCommands.{named_in}
use Rattle.journal_model.specs.rules.ApplyJobs.{ops_of, core_after_arm}
use Rattle.journal_model.specs.rules.PageSteps.{page_to_fill, first_frame_page, next_job, next_ghost}
use Rattle.journal_model.specs.rules.Stores.{Stores, within, written, stores_after, showing, shown_by_read}
use Rattle.journal_model.specs.rules.Waits.{waited_for, jobs_before_read}
use Rattle.journal_model.specs.rules.PlainMemory.{Memory, OwedProbes, Plain, command_of, memory_after_result, plain_after_kind, after_ops, pieces_shown, with_owed_probes}
use Rattle.journal_model.specs.rules.Transparent.{IsKindPlain, bytes_owed}
use Rattle.laws.proofs.law_state.JournalCourses.{one_more_if, own_answered, others_kept, thread_is_there, of_engine, of_reaper, is_of_engine, is_of_reaper}
use Rattle.laws.specs.law_state.GoodState.{GoodState}
use Rattle.laws.specs.law_state.Courses.{GoodCourses}
use Rattle.laws.proofs.law_state.Rules.{Rules, at_work_rules}
use Rattle.laws.proofs.law_state.Pins.{at_number}
use Rattle.laws.proofs.law_step.Due.{next_due}
use Rattle.laws.proofs.law_owners.Law.{AreHeldOnce}
use Rattle.laws.specs.law_sound.Sound.{Sound}
use Rattle.laws.proofs.law_sound.Along.{stepped_of, OfWorker, of_worker, packet, done, reap}
use Rattle.laws.proofs.lemma_bytes_view.Binds.{IsAt}
use Rattle.laws.proofs.lemma_bytes_view.ReadShows.{read_shows}
use Rattle.laws.proofs.lemma_bytes_view.Viewed.{Viewed}
use Rattle.laws.proofs.lemma_bytes_told.Spots.{fill_spot, frame_spot}
use Rattle.laws.specs.lemma_bytes_told.Told.{is_still, is_write, is_read, shows_bytes, OnWay, Told, still, makes, frees, leaves, takes, untakes, populates, swaps_in, depopulates, binds, unbinds, moves_up, moves_across, moves_down, evicts, catches, swaps_out, arms, reads, writes, results}
use Rattle.laws.proofs.lemma_bytes_told.Telling.{tells}
use Rattle.laws.proofs.lemma_bytes_told.Shapes.{HaveShapes, shapes_keep}
use Rattle.laws.proofs.lemma_bytes_told.Numbers.{NumberedState, not_zero, numbers_keep, filtered}
use Rattle.laws.proofs.law_transparent.Idles.{viewed_within}
use Rattle.laws.proofs.law_transparent.Quiets.{catch_viewed, new_viewed, free_viewed, left_viewed, take_viewed, untake_viewed, depopulate_viewed, bind_viewed, unbind_viewed}
use Rattle.laws.proofs.law_transparent.Pages.{populate_viewed, swap_in_viewed, swap_out_viewed}
use Rattle.laws.proofs.law_transparent.Carries.{moved_up, moved_across, moved_down, moved_out}
use Rattle.laws.proofs.law_transparent.Acts.{job_viewed, written_viewed, engine_is_other}
use Rattle.laws.proofs.law_transparent.Workers.{packet_viewed, packet_shows, done_viewed, reap_viewed}

-- what is carried along a journal
pub record Clear (script : Script) (s : State) (bytes : Stores) (p : Plain) : Type 0 where
  pub viewed : Viewed script s.core p.owed_probes p.memory bytes
  pub shapes : HaveShapes s.core.buffers
  pub numbers : NumberedState s
  pub undue : (n k : ℕ) → p.owed_probes (record { ctx = 0; num = n }) k ≡ []
  pub answered : (t : ℕ) → p.answered t ≡ (course s t).answered

-- what other laws say of the state
pub record Known (script : Script) (s : State) : Type 0 where
  pub held : AreHeldOnce script s.core
  pub good : GoodState script s
  pub sound : Sound script s
  pub courses : GoodCourses script s
  pub ways : (t : ℕ) (v : Victim) (i : ℕ) → slice_get (course s t).caught i ≡ Some v → OnWay (buffer s v.b) v.why

-- ---- kinds that leave core and bytes alone

module _ (script : Script) (s : State) (bytes : Stores) (p : Plain) where
  still_viewed : (t : ℕ) (k : Kind) → is_still k ≡ true → Viewed script s.core p.owed_probes p.memory bytes →
      Viewed script (applied script s (actor.Thread t) k).core (plain_after_kind script p t k).owed_probes (plain_after_kind script p t k).memory (within script.sizes (stores_after script s (actor.Thread t) k bytes))
  still_viewed t (kind.Ticket stamp) e u = viewed_within script s.core p.owed_probes p.memory bytes u
  still_viewed t (kind.Reserve b) e u = viewed_within script s.core p.owed_probes p.memory bytes u
  still_viewed t (kind.Backoff b stamp) e u = viewed_within script s.core p.owed_probes p.memory bytes u
  still_viewed t (kind.Loose b) e u = viewed_within script s.core p.owed_probes p.memory bytes u
  still_viewed t (kind.Skip b) e u = viewed_within script s.core p.owed_probes p.memory bytes u
  still_viewed t (kind.Dry b k w) e u = viewed_within script s.core p.owed_probes p.memory bytes u
  still_viewed t (kind.NoPages b) e u = viewed_within script s.core p.owed_probes p.memory bytes u
  still_viewed t (kind.Bulk group) e u = viewed_within script s.core p.owed_probes p.memory bytes u
  still_viewed t (kind.Refused d) e u = viewed_within script s.core p.owed_probes p.memory bytes u
  still_viewed t k e u = absurd (false≢true e)

  still_plain : (who : Actor) (k : Kind) → is_still k ≡ true → IsKindPlain script p who k
  still_plain who (kind.Packet n k piece) e = absurd (false≢true e)
  still_plain who (kind.Result r) e = absurd (false≢true e)
  still_plain who k e = tt

  -- what they show is left as it is
  still_shown : (who : Actor) (k : Kind) → is_still k ≡ true → showing script bytes s who k ≡ k
  still_shown who (kind.Packet n k piece) e = absurd (false≢true e)
  still_shown who (kind.Result r) e = absurd (false≢true e)
  still_shown who k e = refl

-- a command that writes nothing leaves the bytes, and the plain memory
unwritten : (s : State) (cmd : Command) (bytes : Stores) → is_write cmd ≡ false → written s (Some cmd) bytes ≡ bytes
unwritten s (command.Write b off values) bytes h = absurd (false≢true (sym h))
unwritten s cmd bytes h = refl

unchanged : (cmd : Command) (m : Memory) → is_write cmd ≡ false → memory_after_result (Some cmd) m ≡ m
unchanged (command.Write b off values) m h = absurd (false≢true (sym h))
unchanged cmd m h = refl

module _ (script : Script) (r : Rules script) (s : State) (bytes : Stores) (p : Plain) (c : Clear script s bytes p) (known : Known script s) where
  at : (b : BufId) → live_in s.core.buffers b ≡ Some (buffer s b) → IsAt s.core b (buffer s b)
  at b e = record { live = e }

  at_plain : (t : ℕ) (cmd : Command) → command_at_work script s t ≡ Some cmd → command_of script p t ≡ Some cmd
  at_plain t cmd e = ap (slice_get (commands_of script t)) (c.answered t) ∙ at_number script s t cmd e

  within_so : {d : Core} {owed_probes : OwedProbes} {m : Memory} → Viewed script d owed_probes m bytes → Viewed script d owed_probes m (within script.sizes bytes)
  within_so {d} {owed_probes} {m} u = viewed_within script d owed_probes m bytes u

  -- ---- a thread's entry

  job_armed : (t engine : ℕ) (ops : List Op) → command_at_work script s t ≡ Some (command.Submit engine ops) →
      Viewed script (core_after_arm s.core (record { ctx = engine; num = next_job s engine }) ops (named (command.Submit engine ops))) (with_owed_probes (record { ctx = engine; num = next_job s engine }) (pieces_shown p.memory ops) p.owed_probes) (after_ops p.memory ops) (within script.sizes bytes) →
      Viewed script (applied script s (actor.Thread t) (kind.Arm engine (next_job s engine))).core (plain_after_kind script p t (kind.Arm engine (next_job s engine))).owed_probes (plain_after_kind script p t (kind.Arm engine (next_job s engine))).memory (within script.sizes bytes)
  job_armed t engine ops e u =
      subst (λ o. Viewed script (core_after_arm s.core (record { ctx = engine; num = next_job s engine }) (ops_of o) (named_in o)) (plain_after_kind script p t (kind.Arm engine (next_job s engine))).owed_probes (plain_after_kind script p t (kind.Arm engine (next_job s engine))).memory (within script.sizes bytes)) (sym e)
      (subst (λ o. Viewed script (core_after_arm s.core (record { ctx = engine; num = next_job s engine }) ops (named (command.Submit engine ops))) (with_owed_probes (record { ctx = engine; num = next_job s engine }) (pieces_shown p.memory (ops_of o)) p.owed_probes) (after_ops p.memory (ops_of o)) (within script.sizes bytes)) (sym (at_plain t (command.Submit engine ops) e)) u)

  result_of : (t : ℕ) (x : Shown) (cmd : Command) → command_at_work script s t ≡ Some cmd → Viewed script s.core p.owed_probes (memory_after_result (Some cmd) p.memory) (within script.sizes (written s (Some cmd) bytes)) →
      Viewed script (applied script s (actor.Thread t) (kind.Result x)).core (plain_after_kind script p t (kind.Result x)).owed_probes (plain_after_kind script p t (kind.Result x)).memory (within script.sizes (stores_after script s (actor.Thread t) (kind.Result x) bytes))
  result_of t x cmd e u =
      subst (λ o. Viewed script s.core p.owed_probes (memory_after_result (command_of script p t) p.memory) (within script.sizes (written s o bytes))) (sym e)
      (subst (λ o. Viewed script s.core p.owed_probes (memory_after_result o p.memory) (within script.sizes (written s (Some cmd) bytes))) (sym (at_plain t cmd e)) u)

  quiet_result : (t : ℕ) (x : Shown) (cmd : Command) → command_at_work script s t ≡ Some cmd → is_write cmd ≡ false →
      Viewed script (applied script s (actor.Thread t) (kind.Result x)).core (plain_after_kind script p t (kind.Result x)).owed_probes (plain_after_kind script p t (kind.Result x)).memory (within script.sizes (stores_after script s (actor.Thread t) (kind.Result x) bytes))
  quiet_result t x cmd e w =
      result_of t x cmd e
      (subst (λ m. Viewed script s.core p.owed_probes m (within script.sizes (written s (Some cmd) bytes))) (sym (unchanged cmd p.memory w))
      (subst (λ st. Viewed script s.core p.owed_probes p.memory (within script.sizes st)) (sym (unwritten s cmd bytes w)) (within_so c.viewed)))

  thread_viewed : (t : ℕ) (k : Kind) → Told script s t k → AreHeldOnce script (applied script s (actor.Thread t) k).core →
      Viewed script (applied script s (actor.Thread t) k).core (plain_after_kind script p t k).owed_probes (plain_after_kind script p t k).memory (within script.sizes (stores_after script s (actor.Thread t) k bytes))
  thread_viewed t k (still q) once = still_viewed script s bytes p t k q c.viewed
  thread_viewed t k (makes {b} dead) once = within_so (new_viewed script s.core p.owed_probes p.memory bytes c.viewed known.held b (decl script b).pages dead once)
  thread_viewed t k (frees {b} there quiet) once = within_so (free_viewed script s.core p.owed_probes p.memory bytes c.viewed known.held b (buffer s b) (at b there) quiet once)
  thread_viewed t k (leaves {b} there) once =
      within_so (left_viewed script s.core p.owed_probes p.memory bytes c.viewed known.held b (buffer s b) (at b there) (next_ghost s) ((s.last_ghost + 1) == 0) (not_zero s.last_ghost) (c.shapes b (buffer s b) there).full once)
  thread_viewed t k (takes {b} {mem} {spans} place there m ch free) once = within_so (take_viewed script s.core p.owed_probes p.memory bytes c.viewed known.held b (buffer s b) (at b there) r mem place spans m ch free once)
  thread_viewed t k (untakes {b} {mem} there) once = within_so (untake_viewed script s.core p.owed_probes p.memory bytes c.viewed known.held b (buffer s b) (at b there) mem once)
  thread_viewed t k (populates {b} {f} there free l some tt_not) once =
      populate_viewed script s.core p.owed_probes p.memory bytes c.viewed known.held b (buffer s b) (at b there) (page_to_fill (buffer s b)) f (fill_spot (buffer s b) some).inside l tt_not free once
  thread_viewed t k (swaps_in {b} {k = slot} {f} there free l some tt_not) once =
      swap_in_viewed script s.core p.owed_probes p.memory bytes c.viewed known.held b (buffer s b) (at b there) (page_to_fill (buffer s b)) slot f (in_system (buffer s b).mem refl) (fill_spot (buffer s b) some).inside l free once
    where
      stands : slice_get (buffer s b).table (page_to_fill (buffer s b)) ≡ Some (loc.Slot slot)
      stands = let w = fill_spot (buffer s b) some in w.at ∙ ap Some (sym (ap (λ o. unwrap_or o loc.Zero) w.at) ∙ l)

      in_system : (x : Mem) → (buffer s b).mem ≡ x → (buffer s b).mem ≡ mem.System
      in_system mem.System e = e
      in_system mem.Tt e = absurd (tt_not e)
      in_system mem.Vram e = absurd ((c.shapes b (buffer s b) there).unswapped e (page_to_fill (buffer s b)) slot stands)
  thread_viewed t k (depopulates {b} there m) once = within_so (depopulate_viewed script s.core p.owed_probes p.memory bytes c.viewed known.held b (buffer s b) (at b there) m once)
  thread_viewed t k (binds {b} there m t' f) once = within_so (bind_viewed script s.core p.owed_probes p.memory bytes c.viewed known.held b (buffer s b) (at b there) m once)
  thread_viewed t k (unbinds {b} there quiet m) once = within_so (unbind_viewed script s.core p.owed_probes p.memory bytes c.viewed known.held b (buffer s b) (at b there) m quiet once)
  thread_viewed t k (moves_up {b} there m t') once =
      within_so (moved_up script s.core p.owed_probes p.memory bytes c.viewed known.held (next_job s 0) (next_ghost s) (c.undue (next_job s 0)) b (buffer s b) (at b there) m t' (c.shapes b (buffer s b) there) once)
  thread_viewed t k (moves_across {b} there m t') once =
      within_so (moved_across script s.core p.owed_probes p.memory bytes c.viewed known.held (next_job s 0) (next_ghost s) (c.undue (next_job s 0)) b (buffer s b) (at b there) m t' (c.shapes b (buffer s b) there) once)
  thread_viewed t k (moves_down {b} there m t' f) once =
      within_so (moved_down script s.core p.owed_probes p.memory bytes c.viewed known.held (next_job s 0) (next_ghost s) (c.undue (next_job s 0)) b (buffer s b) (at b there) m t' f (c.shapes b (buffer s b) there) once)
  thread_viewed t k (evicts {b} there m t' f) once =
      within_so (moved_out script s.core p.owed_probes p.memory bytes c.viewed known.held (next_job s 0) (next_ghost s) (c.undue (next_job s 0)) b (buffer s b) (at b there) m t' f (c.shapes b (buffer s b) there) c.numbers.ring once)
  thread_viewed t k (catches {b} {w}) once = within_so (catch_viewed script s.core p.owed_probes p.memory bytes c.viewed known.held b once)
  thread_viewed t k (swaps_out {b} {k = slot} there m quiet f free) once =
      swap_out_viewed script s.core p.owed_probes p.memory bytes c.viewed known.held b (buffer s b) (at b there) (first_frame_page (buffer s b)) slot m (frame_spot (buffer s b) f).inside quiet free once
  thread_viewed t k (arms {engine} ops e live ready) once =
      job_armed t engine ops e
      (within_so
      (job_viewed script s p.owed_probes p.memory bytes c.viewed known.held known.good c.shapes engine ops (at_work_rules script r s t (command.Submit engine ops) e).command live ready
      (subst (λ o. AreHeldOnce script (core_after_arm s.core (record { ctx = engine; num = next_job s engine }) (ops_of o) (named_in o))) e once)))
  thread_viewed t k (reads b off len e none) once = quiet_result t (shown.Read []) (command.Read b off len) e refl
  thread_viewed t k (writes b off values e there ready quiet) once =
      result_of t shown.Plain (command.Write b off values) e
      (written_viewed script s p.owed_probes p.memory bytes c.viewed known.held known.good c.shapes b off values (at_work_rules script r s t (command.Write b off values) e).command there ready quiet)
  thread_viewed t k (results {r = x} cmd e w n h) once = quiet_result t x cmd e w

  -- what it shows
  read_plain : (t : ℕ) (b : BufId) (off len : ℕ) → command_at_work script s t ≡ Some (command.Read b off len) → waited_for s.core (jobs_before_read (buffer s b)) ≡ None →
      Some (shown_by_read bytes s (command_at_work script s t)) ≡ bytes_owed (command_of script p t) p.memory
  read_plain t b off len e none =
      ap (λ o. Some (shown_by_read bytes s o)) e
      ∙ ap Some (read_shows script s.core p.owed_probes p.memory bytes c.viewed.view c.viewed.seen c.viewed.good b none off len)
      ∙ sym (ap (λ o. bytes_owed o p.memory) (at_plain t (command.Read b off len) e))

  owes_none : (cmd : Command) → is_read cmd ≡ false → bytes_owed (Some cmd) p.memory ≡ None
  owes_none (command.Read b off len) n = absurd (false≢true (sym n))
  owes_none cmd n = refl

  result_plain : (t : ℕ) (x : Shown) (cmd : Command) → command_at_work script s t ≡ Some cmd → is_read cmd ≡ false → shows_bytes x ≡ false → IsKindPlain script p (actor.Thread t) (showing script bytes s (actor.Thread t) (kind.Result x))
  result_plain t (shown.Read values) cmd e n h = absurd (false≢true (sym h))
  result_plain t shown.Plain cmd e n h = sym (ap (λ o. bytes_owed o p.memory) (at_plain t cmd e) ∙ owes_none cmd n)
  result_plain t (shown.Find mem spans) cmd e n h = sym (ap (λ o. bytes_owed o p.memory) (at_plain t cmd e) ∙ owes_none cmd n)

  thread_plain : (t : ℕ) (k : Kind) → Told script s t k → IsKindPlain script p (actor.Thread t) (showing script bytes s (actor.Thread t) k)
  thread_plain t k (still q) = subst (IsKindPlain script p (actor.Thread t)) (sym (still_shown script s bytes p (actor.Thread t) k q)) (still_plain script s bytes p (actor.Thread t) k q)
  thread_plain t k (swaps_in {b} {k = slot} {f} there free l some tt_not) = tt
  thread_plain t k (swaps_out {b} {k = slot} there m quiet f free) = tt
  thread_plain t k (reads b off len e none) = read_plain t b off len e none
  thread_plain t k (writes b off values e there ready quiet) = sym (ap (λ o. bytes_owed o p.memory) (at_plain t (command.Write b off values) e))
  thread_plain t k (results {r = x} cmd e w n h) = result_plain t x cmd e n h
  thread_plain t k x = tt

  -- owed_probes of the move engine
  still_owed_probes : (t : ℕ) (k : Kind) → is_still k ≡ true → (plain_after_kind script p t k).owed_probes ≡ p.owed_probes
  still_owed_probes t (kind.Arm engine n) e = absurd (false≢true e)
  still_owed_probes t k e = refl

  thread_undue : (t : ℕ) (k : Kind) → Told script s t k → (n i : ℕ) → (plain_after_kind script p t k).owed_probes (record { ctx = 0; num = n }) i ≡ []
  thread_undue t k (still q) n i = ap (λ (d : OwedProbes). d (record { ctx = 0; num = n }) i) (still_owed_probes t k q) ∙ c.undue n i
  thread_undue t k (swaps_in {b} {k = slot} {f} there free l some tt_not) n i = c.undue n i
  thread_undue t k (swaps_out {b} {k = slot} there m quiet f free) n i = c.undue n i
  thread_undue t k (arms {engine} ops e live ready) n i =
      ap (λ q. if q then unwrap_or (slice_get (pieces_shown p.memory (ops_of (command_of script p t))) i) [] else p.owed_probes (record { ctx = 0; num = n }) i)
      (engine_is_other script engine ops (next_job s engine) n (at_work_rules script r s t (command.Submit engine ops) e).command)
      ∙ c.undue n i
  thread_undue t k x n i = c.undue n i

  -- how many commands were answered
  plain_answers : (t u : ℕ) (k : Kind) → (plain_after_kind script p t k).answered u ≡ (if is_answer k then (if u == t then p.answered u + 1 else p.answered u) else p.answered u)
  plain_answers t u (kind.Ticket stamp) = refl
  plain_answers t u k = refl

  thread_answered : (t : ℕ) (k : Kind) → next script s (actor.Thread t) ≡ Ok k → (u : ℕ) → (plain_after_kind script p t k).answered u ≡ (course (applied script s (actor.Thread t) k) u).answered
  thread_answered t k h u =
      plain_answers t u k
      ∙ ⊎_elim
      (λ e.
      ap (λ q. if is_answer k then (if q then p.answered u + 1 else p.answered u) else p.answered u) (eq-eqb u t e)
      ∙ one_more (is_answer k) (p.answered u) (course s t).answered (c.answered u ∙ ap (λ i. (course s i).answered) e)
      ∙ sym (ap (λ i. (course (applied script s (actor.Thread t) k) i).answered) e ∙ own_answered script s t k here))
      (λ ne.
      ap (λ q. if is_answer k then (if q then p.answered u + 1 else p.answered u) else p.answered u) (ne_eqb u t ne)
      ∙ none_more (is_answer k) (p.answered u) ∙ c.answered u
      ∙ ap (λ (x : Course). x.answered) (sym (others_kept script s t u k here ne)))
      (cases_eq u t)
    where
      here : IsSome (course_of s t)
      here = thread_is_there script s t k h

      one_more : (q : Bool) (x y : ℕ) → x ≡ y → (if q then (if true then x + 1 else x) else x) ≡ one_more_if q y
      one_more true x y e = ap (λ n. n + 1) e
      one_more false x y e = e

      none_more : (q : Bool) (x : ℕ) → (if q then (if false then x + 1 else x) else x) ≡ x
      none_more true x = refl
      none_more false x = refl

  pub told_of : (t : ℕ) (k : Kind) → next script s (actor.Thread t) ≡ Ok k → Told script s t k
  told_of t k h =
      let st = stepped_of script s t k known.sound.owned.courses h in
      tells script s t st.step.cmd st.step.at_work known.sound.owned (known.ways t) st.step.task k (known.courses.makes t st.step.cmd st.at) st.step.step (next_due script s (actor.Thread t) k h) st.turn st.gives

  -- ---- each actor

  abbrev pub Next : Actor → Kind → Type 0
  Next who k = Clear script (applied script s who k) (within script.sizes (stores_after script s who k bytes)) (plain_after_kind script p (thread_of who) k) × IsKindPlain script p who (showing script bytes s who k)

  of_thread : (t : ℕ) (k : Kind) → next script s (actor.Thread t) ≡ Ok k → AreHeldOnce script (applied script s (actor.Thread t) k).core → Next (actor.Thread t) k
  of_thread t k h once =
      let told = told_of t k h in (
        record {
          viewed = thread_viewed t k told once;
          shapes = shapes_keep script s t k known.good.tables c.shapes told;
          numbers = numbers_keep script s t k c.numbers told;
          undue = thread_undue t k told;
          answered = thread_answered t k h;
        },
        thread_plain t k told,
      )

  of_an_engine : (e : ℕ) (k : Kind) → OfWorker k → is_of_engine k ≡ true → next script s (actor.Engine e) ≡ Ok k → Next (actor.Engine e) k
  of_an_engine e k (packet {n} {k = i} {piece}) q h = (
    record {
      viewed = packet_viewed script s p.owed_probes p.memory bytes c.viewed known.good.jobs e n i piece h;
      shapes = c.shapes;
      numbers = c.numbers;
      undue = c.undue;
      answered = c.answered;
    },
    packet_shows script s p.owed_probes p.memory bytes c.viewed known.good.jobs e n i piece h,
  )
  of_an_engine e k (done {n}) q h = (
    record {
      viewed = within_so (done_viewed script s p.owed_probes p.memory bytes c.viewed known.good.jobs e n h);
      shapes = c.shapes;
      numbers = c.numbers;
      undue = c.undue;
      answered = c.answered;
    },
    tt,
  )
  of_an_engine e k (reap {g}) q h = absurd (false≢true q)

  of_the_reaper : (k : Kind) → OfWorker k → is_of_reaper k ≡ true → next script s actor.Reaper ≡ Ok k → AreHeldOnce script (applied script s actor.Reaper k).core → Next actor.Reaper k
  of_the_reaper k (reap {g}) q h once = (
    record {
      viewed = within_so (reap_viewed script s p.owed_probes p.memory bytes c.viewed known.held g c.numbers.distinct (next_due script s actor.Reaper (kind.Reap g) h) once);
      shapes = c.shapes;
      numbers = filtered (λ x. not (x.num == g)) s.core.ghosts s.last_ghost s.core.move_fence c.numbers;
      undue = c.undue;
      answered = c.answered;
    },
    tt,
  )
  of_the_reaper k (packet {n} {k = i} {piece}) q h once = absurd (false≢true q)
  of_the_reaper k (done {n}) q h once = absurd (false≢true q)

  pub step_clear : (who : Actor) (k : Kind) → next script s who ≡ Ok k → AreHeldOnce script (applied script s who k).core → Next who k
  step_clear (actor.Thread t) k h once = of_thread t k h once
  step_clear (actor.Engine e) k h once =
      let q = of_engine script s e k h in of_an_engine e k (of_worker k (left (is_of_engine k) (is_of_reaper k) q)) q h
    where
      left : (a b : Bool) → a ≡ true → (a || b) ≡ true
      left true b h = refl
      left false b h = absurd (false≢true h)
  step_clear actor.Reaper k h once =
      let q = of_reaper script s k h in of_the_reaper k (of_worker k (right (is_of_engine k) (is_of_reaper k) q)) q h once
    where
      right : (a b : Bool) → b ≡ true → (a || b) ≡ true
      right true b h = refl
      right false b h = h
