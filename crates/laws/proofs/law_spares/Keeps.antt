-- What each legal entry keeps of the holders of named aperture pages, and of the order of jobs.
use Rattle.std.proofs.Common.{◌≡◌, ℕ, ◌+◌, zero, suc, Bool, true, false, List, [], ◌∷◌, ◌++◌, length, Option, Some, None, Ok, Err, refl, sym, subst, ◌∙◌, ap, ap₂, arith, ◌⊎◌, inl, inr, ⊎_elim}
use Rattle.std.specs.Prelude.{slice_get, slice_set, filter, nat_lt, not, ◌==◌, if◌then◌else◌}
use Rattle.std.specs.List.{list_any, list_all}
use Rattle.std.proofs.lemmas.Bool.{eqb-true, true≢false}
use Rattle.std.proofs.lemmas.Bool.Decides.{nat_tests}
use Rattle.ttm_base.specs.declared.Mem.TheVariants.{System, Tt, Vram}
use Rattle.ttm_base.specs.declared.BufId.{BufId}
use Rattle.ttm_base.specs.declared.JobId.{JobId}
use Rattle.ttm_base.specs.declared.Op.{Op}
use Rattle.ttm_base.specs.declared.Loc.TheVariants as loc
use Rattle.ttm_base.specs.declared.Actor.TheVariants as actor
use Rattle.ttm_base.specs.declared.Need.TheVariants as need
use Rattle.ttm_base.specs.Packets.{packet_names}
use Rattle.journal_model.specs.declared.script.Script.{Script}
use Rattle.journal_model.specs.declared.script.Command.TheVariants as command
use Rattle.journal_model.specs.declared.state.State.{State}
use Rattle.journal_model.specs.declared.state.Core.{Core}
use Rattle.journal_model.specs.declared.state.Buffer.{Buffer}
use Rattle.journal_model.specs.declared.state.Ghost.{Ghost}
use Rattle.journal_model.specs.declared.state.Job.{Job}
use Rattle.journal_model.specs.declared.entry.Kind.{Kind}
use Rattle.journal_model.specs.declared.entry.Kind.TheVariants as kind
use Rattle.journal_model.specs.rules.State.{buffer, live_in, new_buffer, changed, has_target, target_spans}
use Rattle.journal_model.specs.rules.Commands.{decl}
use Rattle.journal_model.specs.scripts.CommandRules.{is_op, is_command}
use Rattle.journal_model.specs.rules.Places.{pages_of}
use Rattle.journal_model.specs.rules.Waits.{same_job, waited_for, jobs_before_write, jobs_before_target}
use Rattle.journal_model.specs.rules.Search.{Step}
use Rattle.journal_model.specs.rules.PageSteps.{unless_waiting, page_to_fill, first_frame_page, next_job}
use Rattle.journal_model.specs.rules.Next.{next}
use Rattle.journal_model.specs.rules.Apply.{applied}
use Rattle.journal_model.specs.rules.ApplyCommands.{named_in, ghost_of_freed}
use Rattle.journal_model.specs.rules.ApplyPages.{with_kernel_fences, with_spans, with_loc, without_frames, bound, unbound}
use Rattle.journal_model.specs.rules.ApplyVictims.{leaves_tt}
use Rattle.journal_model.specs.rules.ApplyJobs.{ops_of, changed_job, core_after_arm}
use Rattle.laws.proofs.law_state.JournalCourses.{is_of_engine, is_of_reaper, of_engine, of_reaper}
use Rattle.laws.specs.law_state.GoodState.{HasPages, GoodState}
use Rattle.laws.proofs.law_state.Rules.{Rules, at_work_rules}
use Rattle.laws.proofs.law_state.Lists.{get_pushed, get_within}
use Rattle.laws.proofs.law_sound.Along.{OfWorker, packet, done, reap}
use Rattle.laws.specs.lemma_bytes_told.Told.{Told, IsThere, IsQuiet, still, makes, frees, leaves, takes, untakes, populates, swaps_in, depopulates, binds, unbinds, moves_up, moves_across, moves_down, evicts, catches, swaps_out, arms, reads, writes, results}
use Rattle.laws.proofs.lemma_bytes_view.Jobs.{same_job-refl, passed, waited_is_done, head_packet, head_first, Changed, changed_at}
use Rattle.laws.proofs.lemma_bytes_view.Kept.{keep_changed}
use Rattle.laws.proofs.lemma_bytes_view.MoreJobs.{get_last, among_unfinished}
use Rattle.laws.proofs.lemma_bytes_told.Shapes.{HaveShapes, still_core}
use Rattle.laws.proofs.lemma_bytes_told.Numbers.{not_zero}
use Rattle.laws.specs.law_transparent.OwnPages.{GoodGhosts}
use Rattle.laws.proofs.law_spares.Holders.{Holding, BufferHolds, IsAwaited, GhostHolds, Holder, HaveHolders, AreInOrder, ghost_kept, changed_holds, changed_either, set_either, kernel_fenced, retargeted, caught, no_page, more_ghosts}
use Rattle.laws.proofs.law_spares.Emitted.{move_holds, evict_holds, arm_holds}

-- ---- entries of threads

-- an idle buffer holds no page for a job that isn't done
idle_holds_none : (s : State) (b : BufId) (i page : ℕ) (j : Job) → IsThere s b → IsQuiet s b → slice_get s.core.jobs i ≡ Some j → j.finished ≡ false →
    (x : Buffer) × (live_in s.core.buffers b ≡ Some x) × Holding page j.id x → ⊥
idle_holds_none s b i page j there quiet at f r =
    let same : r.0 ≡ buffer s b = let two : Some r.0 ≡ Some (buffer s b) = sym r.1 ∙ there in cc in
    let done = waited_is_done s.core (jobs_before_write (buffer s b)) i j quiet at (subst (λ y. list_any (same_job j.id) (jobs_before_write y) ≡ true) same r.2.fence) in
    true≢false (sym done ∙ f)

-- a buffer was changed in what keeps its pages of TT and its fences
kept : (s : State) (f : Buffer → Buffer) (b : BufId) →
    ((page : ℕ) (id : JobId) (x : Buffer) → live_in s.core.buffers b ≡ Some x → Holding page id x → Holding page id (f x)) →
    HaveHolders s.core → HaveHolders (record s.core { buffers = changed f s.core.buffers b })
kept s f b keep h i page j at g n = ⊎_elim (λ m. inl (changed_holds f s.core.buffers b page j.id (keep page j.id) m)) (λ m. inr m) (h i page j at g n)

-- a freed buffer's pages are the ghost's
freed : (s : State) (b : BufId) (g : ℕ) (q : Bool) → q ≡ false → IsThere s b → HaveHolders s.core →
    HaveHolders (record s.core { buffers = slice_set s.core.buffers b.0 None; ghosts = if q then s.core.ghosts else s.core.ghosts ++ ghost_of_freed s.core (buffer s b) g ∷ [] })
freed s b g true e there h i page j at f n = cc
freed s b g false e there h i page j at f n = ⊎_elim old (λ m. inr (more_ghosts s.core.ghosts (ghost_of_freed s.core (buffer s b) g) s.core.jobs page i j.id m)) (h i page j at f n)
  where
    old : BufferHolds s.core.buffers page j.id → Holder (slice_set s.core.buffers b.0 None) (s.core.ghosts ++ ghost_of_freed s.core (buffer s b) g ∷ []) s.core.jobs page i j.id
    old m =
        ⊎_elim
        (λ k. inl k)
        (λ r.
        let same : r.0 ≡ buffer s b = let two : Some r.0 ≡ Some (buffer s b) = sym r.1 ∙ there in cc in
        let holding : Holding page j.id (buffer s b) = subst (Holding page j.id) same r.2 in
        inr
        (record {
          place = length s.core.ghosts;
          ghost = ghost_of_freed s.core (buffer s b) g;
          is = get_last s.core.ghosts (ghost_of_freed s.core (buffer s b) g);
          here = holding.here;
          job = inl (among_unfinished s.core (jobs_before_write (buffer s b)) i j at f holding.fence);
        }))
        (set_either s.core.buffers b None page j.id m)

-- a buffer out of TT holds no page of it
elsewhere : (s : State) (b : BufId) (page : ℕ) (id : JobId) (x : Buffer) → IsThere s b → ((buffer s b).mem ≡ Tt → ⊥) → live_in s.core.buffers b ≡ Some x → Holding page id x → ⊥
elsewhere s b page id x there ne e h =
    let same : x ≡ buffer s b = let two : Some x ≡ Some (buffer s b) = sym e ∙ there in cc in
    no_page page (buffer s b) ne (subst (Holding page id) same h).here

system_tt : System ≡ Tt → ⊥
system_tt e = cc

vram_tt : Vram ≡ Tt → ⊥
vram_tt e = cc

tt_system : Tt ≡ System → ⊥
tt_system e = cc

submitted : (script : Script) (engine : ℕ) (ops : List Op) → is_command script (command.Submit engine ops) ≡ true → list_all (is_op script) ops ≡ true
submitted script engine ops h = grind (arith, nat_tests)

module _ (script : Script) (r : Rules script) (s : State) (t : ℕ) (good : GoodState script s) (shapes : HaveShapes s.core.buffers) where
  own_long : (b : BufId) → IsThere s b → (buffer s b).mem ≡ Tt → length (pages_of (buffer s b).spans) ≡ length (buffer s b).table
  own_long b there m = (shapes b (buffer s b) there).long (λ q. tt_system (sym m ∙ q))

  target_long : (b : BufId) → IsThere s b → has_target Tt (buffer s b) ≡ true → length (pages_of (target_spans Tt (buffer s b))) ≡ length (buffer s b).table
  target_long b there h = (shapes b (buffer s b) there).targets Tt tt_system h

  declared_long : (b : BufId) → IsThere s b → (buffer s b).mem ≡ Tt → length (pages_of (buffer s b).spans) ≡ (decl script b).pages
  declared_long b there m = own_long b there m ∙ subst (HasPages script b) there (good.tables b)

  pub holders_keep : (k : Kind) → Told script s t k → HaveHolders s.core → HaveHolders (applied script s (actor.Thread t) k).core
  holders_keep k (still q) h = subst HaveHolders (sym (still_core script s t k q)) h
  holders_keep k (makes {b} dead) h = λ i page j at f n.
      ⊎_elim
      (λ m. ⊎_elim (λ z. inl z) (λ z. absurd (let no : None ≡ Some z.0 = sym dead ∙ z.1 in cc)) (set_either s.core.buffers b (Some (new_buffer (decl script b).pages)) page j.id m))
      (λ m. inr m)
      (h i page j at f n)
  holders_keep k (frees {b} there quiet) h = λ i page j at f n.
      ⊎_elim
      (λ m. ⊎_elim (λ z. inl z) (λ z. absurd (idle_holds_none s b i page j there quiet at f z)) (set_either s.core.buffers b None page j.id m))
      (λ m. inr m)
      (h i page j at f n)
  holders_keep k (leaves {b} there) h = freed s b (s.last_ghost + 1) ((s.last_ghost + 1) == 0) (not_zero s.last_ghost) there h
  holders_keep k (takes {b} {mem} {spans} place there m c free) h =
      kept s (λ x. with_kernel_fences (jobs_before_target s.core mem) (with_spans mem (Some spans) x)) b
      (λ page id x e g. kernel_fenced (jobs_before_target s.core mem) page id (with_spans mem (Some spans) x) (retargeted mem (Some spans) page id x g)) h
  holders_keep k (untakes {b} {mem} there) h = kept s (with_spans mem None) b (λ page id x e g. retargeted mem None page id x g) h
  holders_keep k (populates {b} {f} there free l some tt_not) h = kept s (with_loc (page_to_fill (buffer s b)) (loc.Frame f)) b (λ page id x e g. record { here = g.here; fence = g.fence }) h
  holders_keep k (swaps_in {b} {k = slot} {f} there free l some tt_not) h = kept s (with_loc (page_to_fill (buffer s b)) (loc.Frame f)) b (λ page id x e g. record { here = g.here; fence = g.fence }) h
  holders_keep k (depopulates {b} there m) h = kept s without_frames b (λ page id x e g. record { here = g.here; fence = g.fence }) h
  holders_keep k (binds {b} there m t' f) h = kept s bound b (λ page id x e g. absurd (elsewhere s b page id x there (λ q. system_tt (sym m ∙ q)) e g)) h
  holders_keep k (unbinds {b} there quiet m) h = λ i page j at f n.
      ⊎_elim
      (λ m. ⊎_elim (λ z. inl z) (λ z. absurd (idle_holds_none s b i page j there quiet at f z)) (changed_either unbound s.core.buffers b page j.id m))
      (λ m. inr m)
      (h i page j at f n)
  holders_keep k (moves_up {b} there m t') h = move_holds s.core b there Vram (record { ctx = 0; num = next_job s 0 }) (own_long b there) (λ e. absurd (vram_tt e)) (s.last_ghost + 1) h
  holders_keep k (moves_across {b} there m t') h = move_holds s.core b there Vram (record { ctx = 0; num = next_job s 0 }) (own_long b there) (λ e. absurd (vram_tt e)) (s.last_ghost + 1) h
  holders_keep k (moves_down {b} there m t' f) h = move_holds s.core b there Tt (record { ctx = 0; num = next_job s 0 }) (own_long b there) (λ e. target_long b there t') (s.last_ghost + 1) h
  holders_keep k (evicts {b} there m t' f) h = evict_holds s.core b there Tt (record { ctx = 0; num = next_job s 0 }) (own_long b there) (λ e. target_long b there t') (λ q. vram_tt (sym m ∙ q)) h
  holders_keep k (catches {b} {w}) h = kept s (λ x. leaves_tt x.mem x) b (λ page id x e g. caught x.mem page id x g) h
  holders_keep k (swaps_out {b} {k = slot} there m quiet f free) h = kept s (with_loc (first_frame_page (buffer s b)) (loc.Slot slot)) b (λ page id x e g. record { here = g.here; fence = g.fence }) h
  holders_keep k (arms {engine} ops at live ready) h =
      subst (λ o. HaveHolders (core_after_arm s.core (record { ctx = engine; num = next_job s engine }) (ops_of o) (named_in o))) (sym at)
      (arm_holds script s.core (record { ctx = engine; num = next_job s engine }) ops (submitted script engine ops (at_work_rules script r s t (command.Submit engine ops) at).command) live declared_long h)
  holders_keep k (reads b off len at none) h = h
  holders_keep k (writes b off bytes at there ready quiet) h = h
  holders_keep k (results cmd at w q r) h = h

-- ---- the order of jobs

pushed_order : (jobs : List Job) (y : Job) → nat_lt 0 y.ran ≡ false → AreInOrder jobs → AreInOrder (jobs ++ y ∷ [])
pushed_order jobs y idle o i k x z l e f w b =
    ⊎_elim
    (λ g. ⊎_elim (λ d. o i k x z l d g w b) (λ d. absurd (late d.0 g)) (get_pushed jobs y x i e))
    (λ g. absurd (true≢false (sym b ∙ ap (λ (j : Job). nat_lt 0 j.ran) g.1 ∙ idle)))
    (get_pushed jobs y z k f)
  where
    late : i ≡ length jobs → slice_get jobs k ≡ Some z → ⊥
    late d g = let inside = get_within jobs k z g in absurd (omega (arith, l, d, inside))

pub order_keeps : (script : Script) (s : State) (t : ℕ) (k : Kind) → Told script s t k → AreInOrder s.core.jobs → AreInOrder (applied script s (actor.Thread t) k).core.jobs
order_keeps script s t k (still q) h = subst (λ (c : Core). AreInOrder c.jobs) (sym (still_core script s t k q)) h
order_keeps script s t k (makes {b} dead) h = h
order_keeps script s t k (frees {b} there quiet) h = h
order_keeps script s t k (leaves {b} there) h = h
order_keeps script s t k (takes {b} {mem} {spans} place there m c free) h = h
order_keeps script s t k (untakes {b} {mem} there) h = h
order_keeps script s t k (populates {b} {f} there free l some tt_not) h = h
order_keeps script s t k (swaps_in {b} {k = slot} {f} there free l some tt_not) h = h
order_keeps script s t k (depopulates {b} there m) h = h
order_keeps script s t k (binds {b} there m t' f) h = h
order_keeps script s t k (unbinds {b} there quiet m) h = h
order_keeps script s t k (moves_up {b} there m t') h = pushed_order s.core.jobs _ refl h
order_keeps script s t k (moves_across {b} there m t') h = pushed_order s.core.jobs _ refl h
order_keeps script s t k (moves_down {b} there m t' f) h = pushed_order s.core.jobs _ refl h
order_keeps script s t k (evicts {b} there m t' f) h = pushed_order s.core.jobs _ refl h
order_keeps script s t k (catches {b} {w}) h = h
order_keeps script s t k (swaps_out {b} {k = slot} there m quiet f free) h = h
order_keeps script s t k (arms {engine} ops at live ready) h = pushed_order s.core.jobs _ refl h
order_keeps script s t k (reads b off len at none) h = h
order_keeps script s t k (writes b off bytes at there ready quiet) h = h
order_keeps script s t k (results cmd at w q r) h = h

-- ---- packets, and the end of jobs

-- a change of a job that keeps its name, its waits and its packets, and begins none again
record IsRun (f : Job → Job) : Type 0 where
  id : (x : Job) → (f x).id ≡ x.id
  waits : (x : Job) → (f x).waits ≡ x.waits
  packets : (x : Job) → (f x).packets ≡ x.packets
  undone : (x : Job) → (f x).finished ≡ false → x.finished ≡ false
  done : (x : Job) → x.finished ≡ true → (f x).finished ≡ true

run_holds : (c : Core) (f : Job → Job) (id : JobId) → IsRun f → HaveHolders c → HaveHolders (record c { jobs = changed_job f id c.jobs })
run_holds c f id run h i page j at g n =
    let r = changed_at f id c.jobs i j at in
    let old : (j.id ≡ r.old.id) × (j.packets ≡ r.old.packets) × (r.old.finished ≡ false) =
    ⊎_elim
    (λ q. (ap (λ (x : Job). x.id) q.1 ∙ run.id r.old, ap (λ (x : Job). x.packets) q.1 ∙ run.packets r.old, run.undone r.old (sym (ap (λ (x : Job). x.finished) q.1) ∙ g)))
    (λ q. (ap (λ (x : Job). x.id) q.1, ap (λ (x : Job). x.packets) q.1, sym (ap (λ (x : Job). x.finished) q.1) ∙ g))
    r.is in
    let was = h i page r.old r.at old.2 (sym (ap (list_any (packet_names page)) old.1) ∙ n) in
    subst (Holder c.buffers c.ghosts (changed_job f id c.jobs) page i) (sym old.0)
    (⊎_elim (λ m. inl m) (λ m. inr (ghost_kept c.ghosts c.jobs (changed_job f id c.jobs) (keep_changed f id c.jobs run.id run.waits) page i r.old.id m)) was)

counts : IsRun (λ j. record j { ran = j.ran + 1 })
counts = record { id = λ x. refl; waits = λ x. refl; packets = λ x. refl; undone = λ x e. e; done = λ x e. e }

ends : IsRun (λ j. record j { finished = true })
ends = record { id = λ x. refl; waits = λ x. refl; packets = λ x. refl; undone = λ x e. cc; done = λ x e. refl }

-- an old job that is done is done
still_done : (f : Job → Job) (id : JobId) (jobs : List Job) → IsRun f → (i : ℕ) (x : Job) (r : Changed f id jobs i x) → r.old.finished ≡ true → x.finished ≡ true
still_done f id jobs run i x r d = ⊎_elim (λ q. ap (λ (y : Job). y.finished) q.1 ∙ run.done r.old d) (λ q. ap (λ (y : Job). y.finished) q.1 ∙ d) r.is

same_id : (f : Job → Job) (id : JobId) (jobs : List Job) → IsRun f → (i : ℕ) (x : Job) (r : Changed f id jobs i x) → x.id ≡ r.old.id
same_id f id jobs run i x r = ⊎_elim (λ q. ap (λ (y : Job). y.id) q.1 ∙ run.id r.old) (λ q. ap (λ (y : Job). y.id) q.1) r.is

same_waits : (f : Job → Job) (id : JobId) (jobs : List Job) → IsRun f → (i : ℕ) (x : Job) (r : Changed f id jobs i x) → x.waits ≡ r.old.waits
same_waits f id jobs run i x r = ⊎_elim (λ q. ap (λ (y : Job). y.waits) q.1 ∙ run.waits r.old) (λ q. ap (λ (y : Job). y.waits) q.1) r.is

old_waits : (f : Job → Job) (id : JobId) (jobs : List Job) → IsRun f → (i k : ℕ) (x y : Job) (a : Changed f id jobs i x) (b : Changed f id jobs k y) → list_any (same_job x.id) y.waits ≡ true → list_any (same_job a.old.id) b.old.waits ≡ true
old_waits f id jobs run i k x y a b w =
    subst (λ n. list_any (same_job n) b.old.waits ≡ true) (same_id f id jobs run i x a) (subst (λ ws. list_any (same_job x.id) ws ≡ true) (same_waits f id jobs run k y b) w)

packet_order : (script : Script) (s : State) (e n k : ℕ) (piece : List ℕ) → GoodState script s → next script s (actor.Engine e) ≡ Ok (kind.Packet n k piece) → AreInOrder s.core.jobs →
    AreInOrder (changed_job (λ j. record j { ran = j.ran + 1 }) (record { ctx = e; num = n }) s.core.jobs)
packet_order script s e n k piece good step h i m x y l at there w begun =
    let id : JobId = record { ctx = e; num = n } in
    let a = changed_at (λ j. record j { ran = j.ran + 1 }) id s.core.jobs i x at in
    let b = changed_at (λ j. record j { ran = j.ran + 1 }) id s.core.jobs m y there in
    let waits = old_waits (λ j. record j { ran = j.ran + 1 }) id s.core.jobs counts i m x y a b w in
    still_done (λ j. record j { ran = j.ran + 1 }) id s.core.jobs counts i x a
    (⊎_elim
    (λ q.
    let head = head_packet script s e n k piece step in
    let first = head_first s e head.job head.head in
    let name : head.job.id ≡ id = ap₂ (λ c i. record { ctx = c; num = i }) (passed head.job.id.ctx e head.job.finished first.passes).0 (sym head.num) in
    let place = good.jobs.names m first.at b.old head.job b.at first.here (subst (λ i. same_job b.old.id i ≡ true) (sym q.0 ∙ sym name) (same_job-refl b.old.id)) in
    let both : Some b.old ≡ Some head.job = sym b.at ∙ ap (slice_get s.core.jobs) place ∙ first.here in
    let is : b.old ≡ head.job = cc in
    waited_is_done s.core head.job.waits i a.old head.waits a.at (subst (λ (z : Job). list_any (same_job a.old.id) z.waits ≡ true) is waits))
    (λ q. h i m a.old b.old l a.at b.at waits (sym (ap (λ (z : Job). nat_lt 0 z.ran) q.1) ∙ begun))
    b.is)

done_order : (s : State) (id : JobId) → AreInOrder s.core.jobs → AreInOrder (changed_job (λ j. record j { finished = true }) id s.core.jobs)
done_order s id h i m x y l at there w begun =
    let a = changed_at (λ j. record j { finished = true }) id s.core.jobs i x at in
    let b = changed_at (λ j. record j { finished = true }) id s.core.jobs m y there in
    let waits = old_waits (λ j. record j { finished = true }) id s.core.jobs ends i m x y a b w in
    let ran : nat_lt 0 y.ran ≡ nat_lt 0 b.old.ran = ⊎_elim (λ q. ap (λ (z : Job). nat_lt 0 z.ran) q.1) (λ q. ap (λ (z : Job). nat_lt 0 z.ran) q.1) b.is in
    still_done (λ j. record j { finished = true }) id s.core.jobs ends i x a (h i m a.old b.old l a.at b.at waits (sym ran ∙ begun))

-- ---- ghosts that go

-- the ghost that goes is the first, and its jobs are done
record IsReap (s : State) (g : ℕ) : Type 0 where
  ghost : Ghost
  is : slice_get s.core.ghosts 0 ≡ Some ghost
  num : ghost.num ≡ g
  waits : waited_for s.core ghost.jobs ≡ None

reap_step : (script : Script) (s : State) (g : ℕ) → next script s actor.Reaper ≡ Ok (kind.Reap g) → IsReap s g
reap_step script s g h = by (slice_get s.core.ghosts 0) refl h
  where
    by : (o : Option Ghost) → slice_get s.core.ghosts 0 ≡ o → (elim o as (λ o. Step) [ None ↦ Err need.NoGhost | Some x ↦ unless_waiting (waited_for s.core x.jobs) (kind.Reap x.num) ]) ≡ Ok (kind.Reap g) → IsReap s g
    by None e k = cc
    by (Some x) e k = let parts = free (waited_for s.core x.jobs) k in record { ghost = x; is = e; num = parts.1; waits = parts.0 }
      where
        free : (w : Option JobId) → unless_waiting w (kind.Reap x.num) ≡ Ok (kind.Reap g) → (w ≡ None) × (x.num ≡ g)
        free None k = (refl, cc)
        free (Some i) k = cc

pub get_filtered : (p : Ghost → Bool) (gs : List Ghost) (i : ℕ) (h : Ghost) → slice_get gs i ≡ Some h → p h ≡ true → (j : ℕ) × (slice_get (filter p gs) j ≡ Some h)
get_filtered p [] i h e t = cc
get_filtered p (g ∷ gs) zero h e t = let same : g ≡ h = cc in by (p g) (ap p same ∙ t)
  where
    by : (q : Bool) → q ≡ true → (j : ℕ) × (slice_get (if q then g ∷ filter p gs else filter p gs) j ≡ Some h)
    by true u = (0, e)
    by false u = cc
get_filtered p (g ∷ gs) (suc i) h e t = by (p g) (get_filtered p gs i h e t)
  where
    by : (q : Bool) → (j : ℕ) × (slice_get (filter p gs) j ≡ Some h) → (j : ℕ) × (slice_get (if q then g ∷ filter p gs else filter p gs) j ≡ Some h)
    by true r = (suc r.0, r.1)
    by false r = r

-- a job that has ended has begun
abbrev pub HaveBegun : List Job → Type 0
HaveBegun jobs = (i : ℕ) (x : Job) → slice_get jobs i ≡ Some x → x.finished ≡ true → nat_lt 0 x.ran ≡ true

pub reap_holds : (script : Script) (s : State) (g last : ℕ) → GoodGhosts last s.core.ghosts → HaveBegun s.core.jobs → AreInOrder s.core.jobs → next script s actor.Reaper ≡ Ok (kind.Reap g) → HaveHolders s.core →
    HaveHolders (record s.core { ghosts = filter (λ h. not (h.num == g)) s.core.ghosts })
reap_holds script s g last good begun order step h i page j at f n = ⊎_elim (λ m. inl m) other (h i page j at f n)
  where
    r : IsReap s g
    r = reap_step script s g step

    over : (gh : Ghost) → gh ≡ r.ghost → (list_any (same_job j.id) gh.jobs ≡ true) ⊎ IsAwaited s.core.jobs i j.id gh.jobs → j.finished ≡ true
    over gh same (inl k) = waited_is_done s.core r.ghost.jobs i j r.waits at (subst (λ (x : Ghost). list_any (same_job j.id) x.jobs ≡ true) same k)
    over gh same (inr a) =
        let ended = waited_is_done s.core r.ghost.jobs a.at a.later r.waits a.there (subst (λ (x : Ghost). list_any (same_job a.later.id) x.jobs ≡ true) same a.among) in
        order i a.at j a.later a.after at a.there a.waits (begun a.at a.later a.there ended)

    other : GhostHolds s.core.ghosts s.core.jobs page i j.id → Holder s.core.buffers (filter (λ h. not (h.num == g)) s.core.ghosts) s.core.jobs page i j.id
    other m = by (m.ghost.num == g) refl
      where
        by : (q : Bool) → (m.ghost.num == g) ≡ q → Holder s.core.buffers (filter (λ h. not (h.num == g)) s.core.ghosts) s.core.jobs page i j.id
        by true e =
            let first = good.distinct m.place 0 m.ghost r.ghost m.is r.is (eqb-true m.ghost.num g e ∙ sym r.num) in
            let both : Some m.ghost ≡ Some r.ghost = sym m.is ∙ ap (slice_get s.core.ghosts) first ∙ r.is in
            let same : m.ghost ≡ r.ghost = cc in
            absurd (true≢false (sym (over m.ghost same m.job) ∙ f))
        by false e =
            let k = get_filtered (λ h. not (h.num == g)) s.core.ghosts m.place m.ghost m.is (ap not e) in
            inr (record { place = k.0; ghost = m.ghost; is = k.1; here = m.here; job = m.job })

-- ---- entries of engines and of the reaper

-- what is carried along a legal journal
pub record Kept (c : Core) : Type 0 where
  pub holders : HaveHolders c
  pub order : AreInOrder c.jobs

pub engine_keeps : (script : Script) (s : State) (e : ℕ) (k : Kind) → GoodState script s → OfWorker k → next script s (actor.Engine e) ≡ Ok k → Kept s.core → Kept (applied script s (actor.Engine e) k).core
engine_keeps script s e k good (packet {n} {k = i} {piece}) step h =
    record { holders = run_holds s.core (λ j. record j { ran = j.ran + 1 }) (record { ctx = e; num = n }) counts h.holders; order = packet_order script s e n i piece good step h.order }
engine_keeps script s e k good (done {n}) step h =
    record { holders = run_holds s.core (λ j. record j { finished = true }) (record { ctx = e; num = n }) ends h.holders; order = done_order s (record { ctx = e; num = n }) h.order }
engine_keeps script s e k good (reap {g}) step h = absurd (no step)
  where
    no : next script s (actor.Engine e) ≡ Ok (kind.Reap g) → ⊥
    no q = let t : is_of_engine (kind.Reap g) ≡ true = of_engine script s e (kind.Reap g) q in cc

pub reaper_keeps : (script : Script) (s : State) (k : Kind) (last : ℕ) → GoodGhosts last s.core.ghosts → HaveBegun s.core.jobs → next script s actor.Reaper ≡ Ok k → Kept s.core → Kept (applied script s actor.Reaper k).core
reaper_keeps script s k last good begun step h = by k (of_reaper script s k step) step
  where
    by : (k : Kind) → is_of_reaper k ≡ true → next script s actor.Reaper ≡ Ok k → Kept (applied script s actor.Reaper k).core
    by (kind.Reap g) q e = record { holders = reap_holds script s g last good begun h.order e h.holders; order = h.order }
    by _ q e = cc
