-- What each legal entry does to buffers and jobs.
use Rattle.std.proofs.Common.{◌≡◌, ℕ, ◌≤◌, Bool, true, false, List, [], ◌∷◌, ◌++◌, Option, Some, None, Ok, IsTrue, refl, sym, subst, ◌∙◌, ap, arith, ⊎_elim}
use Rattle.std.specs.Prelude.{slice_get, nat_lt, unwrap_or, ◌&&◌}
use Rattle.std.proofs.lemmas.Bool.{or_left, or_right}
use Rattle.ttm_base.specs.declared.Mem.TheVariants.{Tt, Vram}
use Rattle.ttm_base.specs.declared.BufId.{BufId}
use Rattle.ttm_base.specs.declared.Span.{Span}
use Rattle.ttm_base.specs.declared.Place.{Place}
use Rattle.ttm_base.specs.declared.Loc.{Loc}
use Rattle.ttm_base.specs.declared.Loc.TheVariants as loc
use Rattle.ttm_base.specs.declared.Actor.{Actor}
use Rattle.ttm_base.specs.declared.Actor.TheVariants as actor
use Rattle.ttm_base.specs.Pages as pages
use Rattle.journal_model.specs.declared.script.Script.{Script}
use Rattle.journal_model.specs.declared.entry.Entry.{Entry}
use Rattle.journal_model.specs.declared.entry.Kind.{Kind}
use Rattle.journal_model.specs.declared.state.State.{State}
use Rattle.journal_model.specs.declared.state.Core.{Core}
use Rattle.journal_model.specs.declared.state.Buffer.{Buffer}
use Rattle.journal_model.specs.declared.state.Job.{Job}
use Rattle.journal_model.specs.scripts.ScriptRules.{is_script}
use Rattle.journal_model.specs.rules.State.{buffer, buffer_in, live_in, new_buffer}
use Rattle.journal_model.specs.rules.Commands.{decl, command_at_work}
use Rattle.journal_model.specs.rules.Choice.{choice}
use Rattle.journal_model.specs.rules.Places.{pages_of, page_in_table, loc_of}
use Rattle.journal_model.specs.rules.Holds.{size_of, is_free_page, held_frames, has_number, free_frame}
use Rattle.journal_model.specs.rules.Waits.{jobs_before_target}
use Rattle.journal_model.specs.rules.PageSteps.{page_to_fill, first_frame_page, next_job}
use Rattle.journal_model.specs.rules.Next.{next}
use Rattle.journal_model.specs.rules.Apply.{applied}
use Rattle.journal_model.specs.rules.ApplyCommands.{named_in}
use Rattle.journal_model.specs.rules.ApplyPages.{with_kernel_fences, with_spans, with_loc, without_frames, bound, unbound}
use Rattle.journal_model.specs.rules.ApplyMoves.{moved}
use Rattle.journal_model.specs.rules.ApplyVictims.{leaves_tt}
use Rattle.journal_model.specs.rules.ApplyJobs.{ops_of}
use Rattle.journal_model.specs.rules.Legal.{World, first_world, world_of, state_of, IsLegalNext, IsLegal}
use Rattle.law_facts.specs.Facts.{touches, FreePagesAreFenced}
use Rattle.laws.specs.lemma_bytes_model.View.{Idle}
use Rattle.laws.specs.lemma_bytes_told.Told.{Told, still, makes, frees, leaves, takes, untakes, populates, swaps_in, depopulates, binds, unbinds, moves_up, moves_across, moves_down, evicts, catches, swaps_out, arms, reads, writes, results}
use Rattle.laws.proofs.law_state.Rules.{Rules, rules_of}
use Rattle.laws.proofs.law_state.Shown.{LegalStep, legal_step}
use Rattle.laws.proofs.law_state.JournalCourses.{is_of_engine, is_of_reaper, of_engine, of_reaper}
use Rattle.laws.proofs.law_sound.Along.{OfWorker, of_worker, packet, done, reap}
use Rattle.laws.proofs.law_owners.Taken.{choice_is_clear, lowest_is_free}
use Rattle.laws.proofs.law_owners.Counts.{times, stands, one}
use Rattle.laws.proofs.law_holders.Positions.{times_at}
use Rattle.laws.proofs.lemma_bytes_model.Actions.{clash, bool_cases}
use Rattle.laws.proofs.lemma_bytes_view.Tables.{at_has, frame_listed}
use Rattle.laws.proofs.lemma_bytes_told.Shapes.{still_core}
use Rattle.laws.proofs.law_transparent.Law.{world_push}
use Rattle.laws.proofs.law_transparent.Carried.{told_law}
use Rattle.law_facts.proofs.Jobs.{at_of}
use Rattle.law_facts.proofs.Apertures.{one_step, mapped_law}
use Rattle.law_facts.proofs.Guards.{viewed, touched_at, free_fenced, untouched, guarded}
use Rattle.law_facts.proofs.Lasting.{GoesOn}
use Rattle.law_facts.proofs.Growth.{Clear, BufferStep, same_step, set_step, changed_step, either_step, uses_step, respanned_grown, caught_grown, bound_grown, unbound_grown, paged_grown, emptied_grown, up_grown, down_grown, taken_grown}

-- ---- what is free

-- a number that isn't held
unheld : (ns : List ℕ) (n : ℕ) → times n ns ≡ 0 → has_number ns n ≡ false
unheld ns n e = ⊎_elim (λ h. absurd (let k = at_has ns n h in let l = times_at n ns k.0 k.1 in omega (arith, l, e))) (λ h. h) (bool_cases (has_number ns n))

-- pages of a choice
chosen_free : (script : Script) → Rules script → (c : Core) (b : BufId) (place : Place) (spans : List Span) → place.mem ≡ Vram → choice script c b place ≡ Some spans → (q : ℕ) → has_number (pages_of spans) q ≡ true → is_free_page Vram c q ≡ true
chosen_free script r c b place spans m e q h =
    let k = at_has (pages_of spans) q h in
    let clear = choice_is_clear script r c b place spans e q in
    let some = times_at q (pages_of spans) k.0 k.1 in
    subst (λ l. is_free_page l c q ≡ true) m (both (nat_lt q (size_of script place.mem)) (is_free_page place.mem c q) (stands q spans) some clear)
  where
    both : (p q : Bool) (w : ℕ) → 1 ≤ w → w ≤ one (p && q) → q ≡ true
    both true true w a b = refl
    both true false w a b = absurd (omega (arith, a, b))
    both false q w a b = absurd (omega (arith, a, b))

-- which pages nobody touches
pub record Spare (c : Core) : Type 0 where
  pub free : FreePagesAreFenced c
  pub nowhere : Clear c pages.nowhere
  pub slots : (k : ℕ) → Clear c (pages.slot k)

-- ---- buffers, by kind

module _ (script : Script) (rules : Rules script) (s : State) (t : ℕ) (spare : Spare s.core) where
  frame_clear : (f : ℕ) → free_frame script s.core ≡ Some f → Clear s.core (pages.frame f)
  frame_clear f e i ci u = spare.free.frames i f ci u (unheld (held_frames s.core) f (lowest_is_free (held_frames s.core) script.sizes.frames f e).0)

  -- what the table of a buffer in VRAM has
  kept_clear : (b : BufId) → live_in s.core.buffers b ≡ Some (buffer s b) → (buffer s b).mem ≡ Vram → (k : ℕ) → Clear s.core (page_in_table (loc_of (buffer s b) k))
  kept_clear b there m k = by (slice_get (buffer s b).table k) refl
    where
      by : (o : Option Loc) → slice_get (buffer s b).table k ≡ o → Clear s.core (page_in_table (unwrap_or (slice_get (buffer s b).table k) loc.Zero))
      by None e = subst (λ z. Clear s.core (page_in_table (unwrap_or z loc.Zero))) (sym e) spare.nowhere
      by (Some loc.Zero) e = subst (λ z. Clear s.core (page_in_table (unwrap_or z loc.Zero))) (sym e) spare.nowhere
      by (Some (loc.Slot j)) e = subst (λ z. Clear s.core (page_in_table (unwrap_or z loc.Zero))) (sym e) (spare.slots j)
      by (Some (loc.Frame f)) e = subst (λ z. Clear s.core (page_in_table (unwrap_or z loc.Zero))) (sym e) (λ i ci u. spare.free.kept i b (buffer s b) f ci u there m (frame_listed (buffer s b).table k f e))

  abbrev After : Kind → BufId → Buffer
  After k e = buffer_in (applied script s (actor.Thread t) k).core e

  pub thread_step : (k : Kind) → Told script s t k → (e : BufId) → BufferStep s.core (buffer_in s.core e) (buffer_in (applied script s (actor.Thread t) k).core e)
  thread_step k (still q) e = same_step s.core (buffer_in s.core e) (After k e) (ap (λ c. buffer_in c e) (still_core script s t k q))
  thread_step k (makes {b} dead) e = set_step s.core (applied script s (actor.Thread t) k).core b e (Some (new_buffer (decl script b).pages)) (decl script b).pages refl refl
  thread_step k (frees {b} there quiet) e = set_step s.core (applied script s (actor.Thread t) k).core b e None 0 refl refl
  thread_step k (leaves {b} there) e = set_step s.core (applied script s (actor.Thread t) k).core b e None 0 refl refl
  thread_step k (takes {b} {mem} {spans} place there m c untargeted) e =
      changed_step s.core (λ x. with_kernel_fences (jobs_before_target s.core mem) (with_spans mem (Some spans) x)) (applied script s (actor.Thread t) k).core b e there refl
      (taken_grown s.core (jobs_before_target s.core mem) mem spans (buffer s b) (λ v q h. chosen_free script rules s.core b place spans (m ∙ v) c q h) (λ v. ap (jobs_before_target s.core) v))
  thread_step k (untakes {b} {mem} there) e = changed_step s.core (with_spans mem None) (applied script s (actor.Thread t) k).core b e there refl (respanned_grown s.core mem None (buffer s b) (λ v. refl))
  thread_step k (populates {b} {f} there free l some out) e =
      changed_step s.core (with_loc (page_to_fill (buffer s b)) (loc.Frame f)) (applied script s (actor.Thread t) k).core b e there refl (paged_grown s.core (page_to_fill (buffer s b)) (loc.Frame f) (buffer s b) (frame_clear f free))
  thread_step k (swaps_in {b} {k = slot} {f} there free l some out) e =
      changed_step s.core (with_loc (page_to_fill (buffer s b)) (loc.Frame f)) (applied script s (actor.Thread t) k).core b e there refl (paged_grown s.core (page_to_fill (buffer s b)) (loc.Frame f) (buffer s b) (frame_clear f free))
  thread_step k (depopulates {b} there m) e = changed_step s.core without_frames (applied script s (actor.Thread t) k).core b e there refl (emptied_grown s.core (buffer s b) m)
  thread_step k (binds {b} there m t' f) e = changed_step s.core bound (applied script s (actor.Thread t) k).core b e there refl (bound_grown s.core (buffer s b) m)
  thread_step k (unbinds {b} there quiet m) e = changed_step s.core unbound (applied script s (actor.Thread t) k).core b e there refl (unbound_grown s.core (buffer s b) m)
  thread_step k (moves_up {b} there m t') e =
      changed_step s.core (moved Vram (record { ctx = 0; num = next_job s 0 })) (applied script s (actor.Thread t) k).core b e there refl (up_grown s.core (record { ctx = 0; num = next_job s 0 }) (buffer s b) spare.nowhere)
  thread_step k (moves_across {b} there m t') e =
      changed_step s.core (moved Vram (record { ctx = 0; num = next_job s 0 })) (applied script s (actor.Thread t) k).core b e there refl (up_grown s.core (record { ctx = 0; num = next_job s 0 }) (buffer s b) spare.nowhere)
  thread_step k (moves_down {b} there m t' f) e =
      changed_step s.core (moved Tt (record { ctx = 0; num = next_job s 0 })) (applied script s (actor.Thread t) k).core b e there refl (down_grown s.core (record { ctx = 0; num = next_job s 0 }) (buffer s b) m (kept_clear b there m))
  thread_step k (evicts {b} there m t' f) e =
      changed_step s.core (moved Tt (record { ctx = 0; num = next_job s 0 })) (applied script s (actor.Thread t) k).core b e there refl (down_grown s.core (record { ctx = 0; num = next_job s 0 }) (buffer s b) m (kept_clear b there m))
  thread_step k (catches {b} {w}) e = either_step s.core (λ x. leaves_tt x.mem x) b e (λ x. caught_grown s.core x.mem x)
  thread_step k (swaps_out {b} {k = slot} there m quiet f free) e =
      changed_step s.core (with_loc (first_frame_page (buffer s b)) (loc.Slot slot)) (applied script s (actor.Thread t) k).core b e there refl (paged_grown s.core (first_frame_page (buffer s b)) (loc.Slot slot) (buffer s b) (spare.slots slot))
  thread_step k (arms {engine} ops at live ready) e = uses_step (record { ctx = engine; num = next_job s engine }) (ops_of (command_at_work script s t)) (named_in (command_at_work script s t)) s.core e
  thread_step k (reads b off len at none) e = same_step s.core (buffer_in s.core e) (After k e) refl
  thread_step k (writes b off bytes at there ready quiet) e = same_step s.core (buffer_in s.core e) (After k e) refl
  thread_step k (results cmd at w nr r) e = same_step s.core (buffer_in s.core e) (After k e) refl

worker_step : (script : Script) (s : State) (who : Actor) (k : Kind) → OfWorker k → (e : BufId) → BufferStep s.core (buffer_in s.core e) (buffer_in (applied script s who k).core e)
worker_step script s who k (packet {n} {k = i} {piece}) e = same_step s.core (buffer_in s.core e) (buffer_in (applied script s who k).core e) refl
worker_step script s who k (done {n}) e = same_step s.core (buffer_in s.core e) (buffer_in (applied script s who k).core e) refl
worker_step script s who k (reap {g}) e = same_step s.core (buffer_in s.core e) (buffer_in (applied script s who k).core e) refl

-- ---- of legal journals

module _ (script : Script) (fits : IsTrue (is_script script)) where
  pub spare_law : (journal : List Entry) → IsLegal script journal → Spare (state_of script journal).core
  spare_law journal l = record {
    free = free_fenced script fits journal l;
    nowhere = λ i ci u. let a = at_of i (state_of script journal).core.jobs ci in untouched script fits journal l a.0 i pages.nowhere a.1 (λ t. no_nowhere a.0 i a.1 t);
    slots = λ k i ci u. let a = at_of i (state_of script journal).core.jobs ci in untouched script fits journal l a.0 i (pages.slot k) a.1 (λ t. no_slot a.0 i k a.1 t);
  }
    where
      no_nowhere : (n : ℕ) (i : Job) → slice_get (state_of script journal).core.jobs n ≡ Some i → touches (state_of script journal).core pages.nowhere i ≡ true → ⊥
      no_nowhere n i e t = guarded script fits journal l n i pages.nowhere Idle e t refl

      no_slot : (n : ℕ) (i : Job) (k : ℕ) → slice_get (state_of script journal).core.jobs n ≡ Some i → touches (state_of script journal).core (pages.slot k) i ≡ true → ⊥
      no_slot n i k e t = clash (touched_at script fits journal l n i (pages.slot k) e t) ((viewed script fits journal l).good.slots n k)

  pub buffer_steps : (journal : List Entry) (e : Entry) → IsLegal script journal → IsLegalNext script (world_of script journal) e → (b : BufId) → BufferStep (state_of script journal).core (buffer_in (state_of script journal).core b) (buffer_in (state_of script (journal ++ e ∷ [])).core b)
  buffer_steps journal e l n b = subst (λ (z : State). BufferStep (state_of script journal).core (buffer_in (state_of script journal).core b) (buffer_in z.core b)) (sym is) (by e.who step.kind step.step)
    where
      step : LegalStep script (world_of script journal) e
      step = legal_step script (world_of script journal) e n

      is : state_of script (journal ++ e ∷ []) ≡ applied script (state_of script journal) e.who step.kind
      is = ap (λ (w : World). w.state) (world_push script (first_world script) journal e) ∙ step.state

      by : (who : Actor) (k : Kind) → next script (state_of script journal) who ≡ Ok k → BufferStep (state_of script journal).core (buffer_in (state_of script journal).core b) (buffer_in (applied script (state_of script journal) who k).core b)
      by (actor.Thread t) k h = thread_step script (rules_of script fits) (state_of script journal) t (spare_law journal l) k (told_law script journal t k fits l h) b
      by (actor.Engine i) k h = worker_step script (state_of script journal) (actor.Engine i) k (of_worker k (or_left (is_of_engine k) (is_of_reaper k) (of_engine script (state_of script journal) i k h))) b
      by actor.Reaper k h = worker_step script (state_of script journal) actor.Reaper k (of_worker k (or_right (is_of_engine k) (is_of_reaper k) (of_reaper script (state_of script journal) k h))) b

  -- ---- jobs

  -- an unfinished job goes on
  pub goes_on : (journal : List Entry) (e : Entry) → IsLegal script journal → IsLegalNext script (world_of script journal) e → (k : ℕ) (x y : Job) → slice_get (state_of script journal).core.jobs k ≡ Some x →
      slice_get (state_of script (journal ++ e ∷ [])).core.jobs k ≡ Some y → y.finished ≡ false → (x.finished ≡ false) × GoesOn (state_of script journal).core (state_of script (journal ++ e ∷ [])).core x y
  goes_on journal e l n k x y a b u =
      let one = one_step script fits journal e l n in
      let g = one.goes k x a in
      let two : Some g.job ≡ Some y = sym g.at ∙ b in
      let is : g.job ≡ y = cc in
      let undone : x.finished ≡ false = g.undone (ap (λ (z : Job). z.finished) is ∙ u) in (
        undone,
        record {
          packets = ap (λ (z : Job). z.packets) (sym is) ∙ g.packets;
          ran = subst (λ (z : Job). x.ran ≤ z.ran) is g.ran;
          mapped = λ page h. let m = mapped_law script fits journal l page k x a undone h in both {r = Some m.0} m.1 (one.maps page m.0 k x a undone h m.1);
        },
      )
    where
      both : {A : Type 0} {p q r : A} → p ≡ r → q ≡ r → p ≡ q
      both u v = u ∙ sym v
