-- A job with operations is armed: its packets go to the present places of its buffers, and show what the plain memory has.
use mathlib.Core.Path.{fun_ext}
use Rattle.std.proofs.Common.{◌≡◌, ℕ, ◌+◌, ◌*◌, ◌<◌, Bool, true, false, List, [], ◌∷◌, ◌++◌, length, Some, refl, sym, subst, ◌∙◌, ap, ap₂, arith, ◌⊎◌, inl, inr, ⊎_elim}
use Rattle.std.specs.Prelude.{slice_get, drop, flat_map, fold, nat_eq, nat_lt, not, ◌&&◌, ◌||◌, unwrap_or, if◌then◌else◌}
use Rattle.std.specs.List.{list_any, list_all}
use Rattle.std.proofs.lemmas.Bool.{cases_Bool, eqb-true, and_parts, or_cases}
use Rattle.ttm_base.specs.declared.Mem.{Mem}
use Rattle.ttm_base.specs.declared.Mem.TheVariants as mem
use Rattle.ttm_base.specs.declared.BufId.{BufId}
use Rattle.ttm_base.specs.declared.JobId.{JobId}
use Rattle.ttm_base.specs.declared.Usage.{Usage}
use Rattle.ttm_base.specs.declared.Op.{Op}
use Rattle.ttm_base.specs.Pages as pages
use Rattle.ttm_base.specs.Cutting.{PageMap, packets_of}
use Rattle.journal_model.specs.declared.script.Script.{Script}
use Rattle.journal_model.specs.declared.state.Core.{Core}
use Rattle.journal_model.specs.declared.state.Buffer.{Buffer}
use Rattle.journal_model.specs.declared.state.Job.{Job}
use Rattle.journal_model.specs.rules.State.{buffer_in, has_buffer}
use Rattle.journal_model.specs.rules.Commands.{decl, buffers_of_op, first_mentions}
use Rattle.journal_model.specs.scripts.CommandRules.{is_op}
use Rattle.journal_model.specs.rules.Places.{aperture, page_in, packet_place}
use Rattle.journal_model.specs.rules.Waits.{same_job, changes, is_written, unfinished, jobs_before_read, jobs_before_write, jobs_before_use}
use Rattle.journal_model.specs.rules.Stores.{is_there}
use Rattle.journal_model.specs.rules.PlainMemory.{Memory, OwedProbes, after_ops, pieces_shown, with_owed_probes}
use Rattle.journal_model.specs.rules.ApplyPages.{with_fence}
use Rattle.journal_model.specs.rules.ApplyJobs.{with_use, core_after_arm}
use Rattle.laws.proofs.law_state.Lists.{get_within}
use Rattle.laws.proofs.law_owners.Law.{AreHeldOnce}
use Rattle.laws.specs.lemma_bytes_model.Memory.{Page, Nowhere, Slot, Own, Step, touched}
use Rattle.laws.specs.lemma_bytes_model.View.{View, Good, Idle, Live, is_fence}
use Rattle.laws.specs.lemma_bytes_model.Entries.{steps, Stands, AllNamed, plain_after, joined, armed, ArmLegal, retitled}
use Rattle.laws.proofs.lemma_bytes_model.Arm.{Stood, touched_stood, arm_keeps}
use Rattle.laws.proofs.lemma_bytes_model.Owners.{untake_keeps}
use Rattle.laws.specs.law_holders.Holding.{seen, live_at, kept_in, target_at, buffer_at}
use Rattle.laws.proofs.law_holders.HeldOnce.{held_once}
use Rattle.laws.proofs.law_holders.Owner.{owner_of, owner_holds, unheld}
use Rattle.laws.proofs.law_holders.There.{held_there}
use Rattle.laws.specs.lemma_bytes_view.Seen.{steps_from, steps_of}
use Rattle.laws.proofs.lemma_bytes_view.World.{Seen, bare, IsChanging, IsUsing}
use Rattle.laws.proofs.lemma_bytes_view.Jobs.{same_job-refl}
use Rattle.laws.proofs.lemma_bytes_view.Kept.{keep_more, changing_kept, using_kept, ghostly_kept, mover_kept}
use Rattle.laws.proofs.lemma_bytes_view.PacketStep.{no_bytes}
use Rattle.laws.proofs.lemma_bytes_view.Titles.{SameHolds, owners_same}
use Rattle.laws.proofs.lemma_bytes_view.Binds.{among_all}
use Rattle.laws.specs.law_pieces.Pieces.{paged, views_of}
use Rattle.laws.proofs.law_pieces.Pieces.{ops_on_memory, ops_steps, shown_from}
use Rattle.laws.proofs.lemma_bytes_view.Viewed.{Viewed}
use Rattle.laws.proofs.lemma_bytes_view.MoreJobs.{get_last, is_prior, prior_is, prior_waits, among_unfinished, emitted_seen}
use Rattle.laws.proofs.lemma_bytes_arm.Named.{AllOf, SameOwn, steps_placed, steps_own, plain_own, named_all, views_named, mentioned, written_mentioned}
use Rattle.laws.proofs.lemma_bytes_arm.Fences.{IsLive, fold_kept, fold_aperture, fold_reads, fold_writes, joins_writes, joins_reads, among_flat}

-- a page that engines reach, by the name that packets have for it
pub record Reached (c : Core) (b i : ℕ) : Type 0 where
  pub somewhere : live_at (buffer_at c b) i ≡ Nowhere → ⊥
  pub unswapped : (k : ℕ) → live_at (buffer_at c b) i ≡ Slot k → ⊥
  pub names : seen (pages.translated (aperture c) (packet_place (buffer_at c b) i)) ≡ live_at (buffer_at c b) i

drop_none : {X : Type 0} (xs : List X) → drop 0 xs ≡ xs
drop_none [] = refl
drop_none (y ∷ ys) = refl

module _ (script : Script) (c : Core) (owed_probes : OwedProbes) (m : Memory) (bytes : pages.PageBytes) (u : Viewed script c owed_probes m bytes) (engine n : ℕ) (ops : List Op)
    (ok : list_all (is_op script) ops ≡ true) (held : AreHeldOnce script c)
    (once : AreHeldOnce script (core_after_arm c (record { ctx = engine; num = n }) ops (first_mentions [] (flat_map buffers_of_op ops))))
    (lives : (b : BufId) → has_buffer (first_mentions [] (flat_map buffers_of_op ops)) b ≡ true → IsLive c b)
    (ready : (b : BufId) → has_buffer (first_mentions [] (flat_map buffers_of_op ops)) b ≡ true → (i : ℕ) → i < (decl script b).pages → Reached c b.0 i)
    (fresh : (i : ℕ) (x : Job) → slice_get c.jobs i ≡ Some x → same_job (record { ctx = engine; num = n }) x.id ≡ false) where
  abbrev v : View
  v = u.view

  abbrev s : Seen script c owed_probes m bytes u.view
  s = u.seen

  abbrev g : Good no_bytes u.view
  g = u.good

  abbrev job : JobId
  job = record { ctx = engine; num = n }

  abbrev bs : List BufId
  bs = first_mentions [] (flat_map buffers_of_op ops)

  abbrev waits : List JobId
  waits = flat_map (jobs_before_use c ops) bs

  abbrev names : PageMap
  names = λ b. packet_place (buffer_in c b)

  abbrev new : Job
  new = record { id = job; waits = waits; packets = packets_of names ops; ran = 0; finished = false }

  abbrev d : Core
  d = core_after_arm c job ops bs

  abbrev owed_probes' : OwedProbes
  owed_probes' = with_owed_probes job (pieces_shown m ops) owed_probes

  abbrev prior : ℕ → Bool
  prior = is_prior c.jobs waits engine

  abbrev changed : ℕ → Bool
  changed = λ b. is_written ops (record { 0 = b })

  abbrev used : ℕ → Bool
  used = λ b. has_buffer bs (record { 0 = b })

  abbrev xs : List Step
  xs = steps v.place (views_of ops) v.plain

  within : (b : ℕ) → changed b ≡ true → used b ≡ true
  within b h = mentioned (flat_map buffers_of_op ops) [] (record { 0 = b }) (written_mentioned ops (record { 0 = b }) h) refl

  is_used : (b : BufId) → has_buffer (flat_map buffers_of_op ops) b ≡ true → has_buffer bs b ≡ true
  is_used b h = mentioned (flat_map buffers_of_op ops) [] b h refl

  -- ---- pages

  stands : (b : BufId) → has_buffer bs b ≡ true → (i : ℕ) → i < (decl script b).pages → Stands v.place b.0 i
  stands b h i l = let r = ready b h i l in record { somewhere = λ e. r.somewhere (sym (s.place b.0 i) ∙ e); reached = λ k e. r.unswapped k (sym (s.place b.0 i) ∙ e) }

  named : AllNamed v.place used changed (views_of ops)
  named =
      named_all v.place used changed (views_of ops)
      (views_named script (λ b i. (changed b ≡ true) × Stands v.place b i) (λ b i. (used b ≡ true) × Stands v.place b i) ops ok
      (λ b h i l. (h, stands b (within b.0 h) i l))
      (λ b h i l. (is_used b h, stands b (is_used b h) i l)))

  abbrev aimed_at : ℕ → ℕ → Page
  aimed_at = λ b i. seen (pages.translated (aperture c) (packet_place (buffer_in c (record { 0 = b })) i))

  placed_so : AllOf (λ b i. v.place b i ≡ aimed_at b i) (λ b i. v.place b i ≡ aimed_at b i) (views_of ops)
  placed_so =
      views_named script (λ b i. v.place b i ≡ aimed_at b i) (λ b i. v.place b i ≡ aimed_at b i) ops ok
      (λ b h i l. s.place b.0 i ∙ sym (ready b (within b.0 h) i l).names)
      (λ b h i l. s.place b.0 i ∙ sym (ready b (is_used b h) i l).names)

  own : SameOwn v.plain (paged m)
  own b i = fun_ext (λ o. s.plain b i o)

  -- ---- whom it waits for

  emitted : (j : ℕ) → is_prior c.jobs waits engine j ≡ true → j < v.count
  emitted j h =
      let p = prior_is c.jobs waits engine j h in
      let l = get_within c.jobs j p.job p.at in
      let e : v.count ≡ length c.jobs = s.count in
      omega (arith, l, e)

  -- a job that this one waits for in some buffer is waited for, or done
  waited : (b : ℕ) (j : ℕ) (x : Job) (is : List JobId) → used b ≡ true → jobs_before_use c ops (record { 0 = b }) ≡ unfinished c is → slice_get c.jobs j ≡ Some x → list_any (same_job x.id) is ≡ true →
      (is_prior c.jobs waits engine j ≡ true) ⊎ (v.done j ≡ true)
  waited b j x is h e at has =
      ⊎_elim
      (λ t. inr (s.done j x at ∙ t))
      (λ f.
      inl
      (prior_waits c.jobs waits engine j x at
      (among_flat (same_job x.id) (jobs_before_use c ops) bs (record { 0 = b }) h (ap (list_any (same_job x.id)) e ∙ among_unfinished c is j x at f has))))
      (cases_Bool x.finished)

  writes_wait : (b : ℕ) → is_written ops (record { 0 = b }) ≡ true → jobs_before_use c ops (record { 0 = b }) ≡ unfinished c (jobs_before_write (buffer_at c b))
  writes_wait b h = ap (λ q. unfinished c (if q then jobs_before_write (buffer_at c b) else jobs_before_read (buffer_at c b))) h

  reads_wait : (b : ℕ) → is_written ops (record { 0 = b }) ≡ false → jobs_before_use c ops (record { 0 = b }) ≡ unfinished c (jobs_before_read (buffer_at c b))
  reads_wait b h = ap (λ q. unfinished c (if q then jobs_before_write (buffer_at c b) else jobs_before_read (buffer_at c b))) h

  all_wait : (b j : ℕ) → changed b ≡ true → is_fence v.fences b false j ≡ true → (is_prior c.jobs waits engine j ≡ true) ⊎ (v.done j ≡ true)
  all_wait b j h k =
      ⊎_elim
      (λ e. let f = s.strong b j e in waited b j f.job (jobs_before_write (buffer_at c b)) (within b h) (writes_wait b h) f.at (among_all (same_job f.job.id) changes (buffer_at c b).fences f.has))
      (λ e. let f = s.shared b j e in waited b j f.job (jobs_before_write (buffer_at c b)) (within b h) (writes_wait b h) f.at f.has)
      (or_cases (v.fences.strong b j) (v.fences.shared b j) k)

  changing_wait : (b j : ℕ) → used b ≡ true → is_fence v.fences b true j ≡ true → (is_prior c.jobs waits engine j ≡ true) ⊎ (v.done j ≡ true)
  changing_wait b j h k =
      let f = s.strong b j (only (v.fences.strong b j) k) in
      ⊎_elim
      (λ w. waited b j f.job (jobs_before_write (buffer_at c b)) h (writes_wait b w) f.at (among_all (same_job f.job.id) changes (buffer_at c b).fences f.has))
      (λ w. waited b j f.job (jobs_before_read (buffer_at c b)) h (reads_wait b w) f.at f.has)
      (cases_Bool (is_written ops (record { 0 = b })))
    where
      only : (a : Bool) → (a || false) ≡ true → a ≡ true
      only true h = refl
      only false h = h

  legal : ArmLegal v (views_of ops) (is_prior c.jobs waits engine) changed used
  legal = record { named = named; emitted = emitted; all = all_wait; writers = changing_wait }

  -- ---- owners

  same_live : (k : ℕ) (y : Buffer) (how : Usage) → live_at (with_fence job how y) k ≡ live_at y k
  same_live k y how = by y.mem
    where
      by : (l : Mem) → seen (page_in l (with_fence job how y) k) ≡ seen (page_in l y k)
      by mem.Tt = refl
      by mem.Vram = refl
      by mem.System = refl

  same_kept : (k : ℕ) (y : Buffer) (how : Usage) → kept_in (with_fence job how y).mem (with_fence job how y) k ≡ kept_in y.mem y k
  same_kept k y how = by y.mem
    where
      by : (l : Mem) → kept_in l (with_fence job how y) k ≡ kept_in l y k
      by mem.Tt = refl
      by mem.Vram = refl
      by mem.System = refl

  same_holds : SameHolds (bare c) (bare d)
  same_holds = record {
    live = λ e k. fold_kept job ops (λ y. live_at y k) (same_live k) bs c e;
    kept = λ e k. fold_kept job ops (λ y. kept_in y.mem y k) (same_kept k) bs c e;
    target = λ e k. fold_kept job ops (λ y. target_at y k) (λ y how. refl) bs c e;
    ghosts = refl;
  }

  abbrev view : View
  view = retitled (armed (views_of ops) prior changed used v).fences (owner_of (bare d)) (armed (views_of ops) prior changed used v)

  arm_good : Good no_bytes (retitled (armed (views_of ops) prior changed used v).fences (owner_of (bare d)) (armed (views_of ops) prior changed used v))
  arm_good =
      untake_keeps no_bytes (armed (views_of ops) prior changed used v) (arm_keeps no_bytes v g (views_of ops) prior changed used within legal) (owner_of (bare d))
      (λ y. inl (owners_same (bare c) (bare d) (held_once script (bare d) once) same_holds y ∙ sym (s.owner y)))

  -- ---- steps

  owed_probes_new : owed_probes' job ≡ λ k. unwrap_or (slice_get (pieces_shown m ops) k) []
  owed_probes_new = ap (λ q. λ k. if q then unwrap_or (slice_get (pieces_shown m ops) k) [] else owed_probes job k) (same_job-refl job)

  new_steps : steps_of (aperture d) owed_probes' new ≡ steps v.place (views_of ops) v.plain
  new_steps =
      ap (steps_from (aperture d) (owed_probes' job) 0) (drop_none (packets_of names ops))
      ∙ ap₂ (λ a due. steps_from a due 0 (packets_of names ops)) (fold_aperture job ops bs c) owed_probes_new
      ∙ sym (shown_from (aperture c) (packets_of names ops) (pieces_shown m ops))
      ∙ sym (ops_steps (aperture c) names aimed_at (λ b i. refl) script ops m ok)
      ∙ sym (steps_placed v.place aimed_at (views_of ops) (paged m) placed_so)
      ∙ sym (steps_own v.place (views_of ops) v.plain (paged m) own)

  old_steps : (i : ℕ) (x : Job) → slice_get c.jobs i ≡ Some x → steps_of (aperture d) owed_probes' x ≡ steps_of (aperture c) owed_probes x
  old_steps i x e =
      ap₂ (λ a due. steps_from a due x.ran (drop x.ran x.packets)) (fold_aperture job ops bs c)
      (ap (λ q. λ k. if q then unwrap_or (slice_get (pieces_shown m ops) k) [] else owed_probes x.id k) (fresh i x e))

  there : (p : pages.Page) → touched (steps v.place (views_of ops) v.plain) (seen p) ≡ true → is_there script.sizes p ≡ true
  there p h =
      let z = touched_stood v g.nowhere g.placed used changed within (views_of ops) v.plain named (seen p) h in
      held_there script (bare c) held p (Live z.buffer z.page)
      (owner_holds (bare c) (seen p) (Live z.buffer z.page) (λ e. no z (sym (ap v.owner e ∙ g.nowhere) ∙ z.owned)) (sym (s.owner (seen p)) ∙ z.owned) (held_by p z))
      (λ e. no z (sym (ap (λ q. v.owner (seen q)) e ∙ g.nowhere) ∙ z.owned))
    where
      no : {y : Page} (z : Stood v used y) → Idle ≡ Live z.buffer z.page → ⊥
      no z e = cc

      held_by : (p : pages.Page) (z : Stood v used (seen p)) → Live z.buffer z.page ≡ unheld (seen p) → ⊥
      held_by pages.nowhere z e = cc
      held_by (pages.vram k) z e = cc
      held_by (pages.frame k) z e = cc
      held_by (pages.slot k) z e = cc

  -- ---- fences

  new_at : slice_get (c.jobs ++ new ∷ []) v.count ≡ Some new
  new_at = ap (slice_get (c.jobs ++ new ∷ [])) s.count ∙ get_last c.jobs new

  strong_after : (b j : ℕ) → (v.fences.strong b j || (nat_eq v.count j && is_written ops (record { 0 = b }))) ≡ true → IsChanging d b j
  strong_after b j h =
      ⊎_elim
      (λ a. changing_kept c d (keep_more c.jobs new) b j (λ i w. fold_reads job ops (same_job i) bs c b w) (s.strong b j a))
      (λ a.
      let parts = and_parts (nat_eq v.count j) (is_written ops (record { 0 = b })) a in
      let at : v.count ≡ j = eqb-true v.count j parts.0 in
      record {
        job = new;
        at = subst (λ k. slice_get (c.jobs ++ new ∷ []) k ≡ Some new) at new_at;
        has = joins_reads job ops (record { 0 = b }) parts.1 bs c (within b parts.1) (lives (record { 0 = b }) (within b parts.1));
      })
      (or_cases (v.fences.strong b j) (nat_eq v.count j && is_written ops (record { 0 = b })) h)

  shared_after : (b j : ℕ) → (v.fences.shared b j || (nat_eq v.count j && (has_buffer bs (record { 0 = b }) && not (is_written ops (record { 0 = b }))))) ≡ true → IsUsing d b j
  shared_after b j h =
      ⊎_elim
      (λ a. using_kept c d (keep_more c.jobs new) b j (λ i w. fold_writes job ops (same_job i) bs c b w) (s.shared b j a))
      (λ a.
      let parts = and_parts (nat_eq v.count j) (has_buffer bs (record { 0 = b }) && not (is_written ops (record { 0 = b }))) a in
      let at : v.count ≡ j = eqb-true v.count j parts.0 in
      let is = (and_parts (has_buffer bs (record { 0 = b })) (not (is_written ops (record { 0 = b }))) parts.1).0 in
      record {
        job = new;
        at = subst (λ k. slice_get (c.jobs ++ new ∷ []) k ≡ Some new) at new_at;
        has = joins_writes job ops (record { 0 = b }) bs c is (lives (record { 0 = b }) is);
      })
      (or_cases (v.fences.shared b j) (nat_eq v.count j && (has_buffer bs (record { 0 = b }) && not (is_written ops (record { 0 = b })))) h)

  plain_so : (b i o : ℕ) → plain_after (views_of ops) v.plain (Own b i) o ≡ (if nat_lt o 4096 then after_ops m ops b (4096 * i + o) else 0)
  plain_so b i o = ap (λ (f : ℕ → ℕ). f o) (plain_own (views_of ops) v.plain (paged m) own b i) ∙ ap (λ (f : Page → ℕ → ℕ). f (Own b i) o) (ops_on_memory script ops m ok)

  arm_seen : Seen script d owed_probes' (after_ops m ops) bytes (retitled (armed (views_of ops) prior changed used v).fences (owner_of (bare d)) (armed (views_of ops) prior changed used v))
  arm_seen =
      emitted_seen script c owed_probes owed_probes' m (after_ops m ops) bytes v s g new (fold (with_use job ops) c.buffers bs) c.ghosts c.move_fence
      (joined v.count prior changed used v.fences) v.place xs (plain_after (views_of ops) v.plain)
      (record {
        fresh = refl;
        undone = refl;
        old = old_steps;
        steps = new_steps;
        prior = refl;
        strong = strong_after;
        shared = shared_after;
        ghost = λ k j h. ghostly_kept c d (keep_more c.jobs new) k j (λ i y w. w) (s.ghost k j h);
        mover = λ j h. mover_kept c d (keep_more c.jobs new) j refl (s.mover j h);
        place = λ b i. s.place b i ∙ sym (fold_kept job ops (λ y. live_at y i) (same_live i) bs c b);
        there = there;
      })
      plain_so

  pub arm_viewed : Viewed script (core_after_arm c (record { ctx = engine; num = n }) ops (first_mentions [] (flat_map buffers_of_op ops))) (with_owed_probes (record { ctx = engine; num = n }) (pieces_shown m ops) owed_probes) (after_ops m ops) bytes
  arm_viewed = record { view = view; good = arm_good; seen = arm_seen }
