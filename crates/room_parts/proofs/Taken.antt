-- All parts after a target that was found.
use Rattle.std.proofs.Common.{◌≡◌, ℕ, ◌<◌, ◌≤◌, true, List, [], ◌∷◌, ◌++◌, Option, Some, None, IsSome, Ok, length, refl, sym, ◌∙◌, ap, ap₂, subst, arith}
use Rattle.std.specs.Prelude.{option_map, slice_get, if◌then◌else◌}
use Rattle.ttm_base.specs.Reach.{same_mem}
use Rattle.std.proofs.lemmas.Bool.Decides.{nat_tests}
use Rattle.ttm_base.specs.declared.Actor.TheVariants as actor
use Rattle.ttm_base.specs.declared.BufId.{BufId}
use Rattle.ttm_base.specs.declared.JobId.{JobId}
use Rattle.ttm_base.specs.declared.Mem.{Mem}
use Rattle.ttm_base.specs.declared.Mem.TheVariants.{System, Tt, Vram}
use Rattle.ttm_base.specs.declared.Owner.TheVariants as owner
use Rattle.ttm_base.specs.declared.Span.{Span}
use Rattle.ttm_base.specs.declared.Usage.TheVariants as usage
use Rattle.fence_core.specs.declared.fence_set.Latest.{Latest}
use Rattle.fence_core.specs.declared.timeline.Progress.{Progress}
use Rattle.fence_core.specs.Histories.{set_of}
use Rattle.resource_core.specs.Resources.{Resources}
use Rattle.resource_core.specs.Vram as room
use Rattle.bo_table.specs.Seen.{Bos, with_changed}
use Rattle.bo_table.proofs.TableLaws.{get_map}
use Rattle.journal_model.specs.declared.script.Script.{Script}
use Rattle.journal_model.specs.declared.state.State.{State}
use Rattle.journal_model.specs.declared.state.Buffer.{Buffer}
use Rattle.journal_model.specs.declared.state.Course.{Course}
use Rattle.journal_model.specs.declared.entry.Entry.{Entry}
use Rattle.journal_model.specs.declared.entry.Kind.TheVariants as kind
use Rattle.journal_model.specs.rules.State.{buffer, changed, target_spans}
use Rattle.journal_model.specs.rules.ApplyPages as pages
use Rattle.journal_model.specs.rules.ApplyPages.{with_fence, with_kernel_fences, with_spans, after_take, search_over}
use Rattle.journal_model.specs.rules.Holds.{size_of}
use Rattle.journal_model.specs.rules.Next.{next}
use Rattle.journal_model.specs.rules.Waits.{jobs_before_target}
use Rattle.journal_model.specs.rules.Legal.{IsLegalNext, state_of, stores_of, world_of}
use Rattle.laws.proofs.law_transparent.PagesLaw.{ghosts_law}
use Rattle.laws.proofs.law_transparent.Carried.{told_law}
use Rattle.laws.specs.lemma_bytes_told.Told as told
use Rattle.laws.specs.lemma_bytes_told.Told.{IsThere, Told}
use Rattle.room_representation.specs.lemma_spans.Calls.{taken}
use Rattle.room_representation.specs.lemma_spans.Owned.{HoldsAsIn}
use Rattle.room_representation.proofs.lemma_spans.Facts.{no_target}
use Rattle.room_representation.proofs.lemma_spans.MoveFence.{taken_fence}
use Rattle.room_representation.proofs.lemma_spans.Legal.{take_sought}
use Rattle.room_representation.proofs.lemma_spans.Still.{kept_representation}
use Rattle.room_representation.proofs.lemma_spans.Taken.{take_may_hold}
use Rattle.room_representation.proofs.lemma_spans.Targets.{take_spans}
use Rattle.room_representation.specs.declared.parts.Parts.{Parts}
use Rattle.room_representation.specs.Bos.{AreBos, unfenced}
use Rattle.room_representation.specs.Fences.{fences_of, is_emitted, AreFences}
use Rattle.room_representation.specs.Held.{AreHeld}
use Rattle.room_representation.specs.Represents.{Represents}
use Rattle.room_representation.proofs.lemma_jobs.Sets.{fences_kept, set_length}
use Rattle.room_representation.proofs.lemma_jobs.Stays.{KeepsPlaces}
use Rattle.room_representation.proofs.lemma_jobs.Told.{unfenced_as}
use Rattle.room_representation.proofs.lemma_jobs.BufferSets.{taken_sets, taken_fences}
use Rattle.room_representation.proofs.lemma_jobs.LegalJobs.{in_line}
use Rattle.room_representation.specs.steps.Courses.{course_at, with_course_by}
use Rattle.room_parts.specs.MoveSets.{with_move_fence, CanJoin}
use Rattle.room_parts.specs.Takes.{CanHold}
use Rattle.room_representation.proofs.steps.Lent.{stands_at}
use Rattle.room_representation.proofs.steps.Frames.{eased_represented, placed_represented}
use Rattle.room_representation.proofs.steps.Steps.{held_still, step_as, thread_there}

-- ---- fences that a target brings

kernel_unfenced : (jobs : List JobId) (x : Buffer) → unfenced (with_kernel_fences jobs x) ≡ unfenced x
kernel_unfenced [] x = refl
kernel_unfenced (j ∷ jobs) x = kernel_unfenced jobs (with_fence j usage.Kernel x)

kernel_mem : (jobs : List JobId) (x : Buffer) → (with_kernel_fences jobs x).mem ≡ x.mem
kernel_mem jobs x = ap (λ (y : Buffer). y.mem) (kernel_unfenced jobs x)

kernel_spans : (jobs : List JobId) (x : Buffer) → (with_kernel_fences jobs x).spans ≡ x.spans
kernel_spans jobs x = ap (λ (y : Buffer). y.spans) (kernel_unfenced jobs x)

kernel_table : (jobs : List JobId) (x : Buffer) → (with_kernel_fences jobs x).table ≡ x.table
kernel_table jobs x = ap (λ (y : Buffer). y.table) (kernel_unfenced jobs x)

-- a job that was emitted is of a context that there is
emitted_ctx : (last : List ℕ) (i : JobId) → is_emitted last i ≡ true → i.ctx < length last
emitted_ctx last i h = grind (arith, nat_tests)

emitted_num : (last : List ℕ) (i : JobId) → is_emitted last i ≡ true → 0 < i.num
emitted_num last i h = grind (arith, nat_tests)

-- the sets by the words of the lemma on them
sets_same : (sets : List (List Latest)) (b : BufId) (timeline : List Progress) (kept : Option JobId) → taken_sets sets b timeline kept ≡ with_move_fence Vram timeline kept sets b
sets_same sets b timeline None = refl
sets_same sets b timeline (Some i) = refl

-- ---- nothing was taken

-- managers that hold the same are represented as before
pub take_refused : (script : Script) (journal : List Entry) (p : Parts) → AreHeld script journal p → (v : room.Vram) (u : Resources) → v.resources ≡ p.vram.resources → room.spans_of_kind v.kind ≡ room.spans_of_kind p.vram.kind → u ≡ p.tt →
    AreHeld script journal (record p { vram = v; tt = u })
take_refused script journal p held v u same rule e =
    let represents = held.represents in
    record {
      fits = held.fits;
      legal = held.legal;
      represents = record {
        bos = represents.bos;
        timeline = represents.timeline;
        rings = represents.rings;
        ghosts = represents.ghosts;
        vram = record {
          rule = rule ∙ represents.vram.rule;
          held_as = subst (λ r. HoldsAsIn script.sizes.vram Vram (state_of script journal) r) (sym same) represents.vram.held_as;
          fence = record { kept_is = ap (λ (r : Resources). r.move_fence) same ∙ represents.vram.fence.kept_is; known = represents.vram.fence.known };
        };
        tt = subst (λ r. HoldsAsIn script.sizes.tt Tt (state_of script journal) r) (sym e) represents.tt;
        pool = represents.pool;
        swap = represents.swap;
        stores = represents.stores;
        lists = represents.lists;
        courses = represents.courses;
        stamp = represents.stamp;
        ghost = represents.ghost;
        no_more = represents.no_more;
      };
    }

-- ---- spans were taken

module _ (script : Script) (journal : List Entry) (p : Parts) (entry : Entry) (t : ℕ) (b : BufId) (mem : Mem) (spans : List Span) (held : AreHeld script journal p) (is : entry ≡ record { who = actor.Thread t; kind = kind.Take b mem spans }) (legal : IsLegalNext script (world_of script journal) entry) where
  abbrev s : State
  s = state_of script journal

  step : next script s (actor.Thread t) ≡ Ok (kind.Take b mem spans)
  step = step_as script journal entry (record { who = actor.Thread t; kind = kind.Take b mem spans }) is legal refl

  there_in : Told script s t (kind.Take b mem spans) → IsThere s b
  there_in (told.still h) = cc
  there_in (told.takes place l m c none) = l

  live : IsThere s b
  live = there_in (told_law script journal t (kind.Take b mem spans) held.fits held.legal step)

  can_hold : (mine : Mem) → (mine ≡ System → ⊥) → mem ≡ mine → (r : Resources) → HoldsAsIn (size_of script mine) mine s r → CanHold (owner.Target b) spans r
  can_hold mine out e r representation =
      let may = take_may_hold script journal t held.fits held.legal b mine spans r out (subst (λ m. next script s (actor.Thread t) ≡ Ok (kind.Take b m spans)) e step) live (ghosts_law script journal held.fits held.legal).first representation in
      record { fresh = may.fresh; some = may.some; free = may.free }

  -- what the calls ask for
  pub take_there : IsSome (course_at p.courses t)
  take_there = thread_there script journal p held t (kind.Take b mem spans) entry is legal refl

  pub take_vram : mem ≡ Vram → CanHold (owner.Target b) spans p.vram.resources
  take_vram e = can_hold Vram (λ q. let x : Vram ≡ System = q in cc) e p.vram.resources held.represents.vram.held_as

  pub take_tt : mem ≡ Tt → CanHold (owner.Target b) spans p.tt
  take_tt e = can_hold Tt (λ q. let x : Tt ≡ System = q in cc) e p.tt held.represents.tt

  fence_is : (v : room.Vram) → v.resources ≡ taken Vram mem b spans p.vram.resources → v.resources.move_fence ≡ p.vram.resources.move_fence
  fence_is v ve = ap (λ (r : Resources). r.move_fence) ve ∙ taken_fence Vram mem b spans p.vram.resources

  pub take_joins : (v : room.Vram) (mid : Bos) (fence : Option JobId) → v.resources ≡ taken Vram mem b spans p.vram.resources → mid ≡ with_changed (with_spans mem (Some spans)) p.bos b → fence ≡ v.resources.move_fence →
      (i : JobId) → fence ≡ Some i → CanJoin p.timeline mid.fences b i
  take_joins v mid fence ve m fe i e =
      let emitted : is_emitted s.last_jobs i ≡ true = held.represents.vram.fence.known i (sym held.represents.vram.fence.kept_is ∙ sym (fence_is v ve) ∙ sym fe ∙ e) in
      let set : slice_get mid.fences b.0 ≡ Some (set_of (length s.last_jobs) (fences_of (Some (buffer s b)))) =
      ap (λ (x : Bos). slice_get x.fences b.0) m ∙ ap (λ l. slice_get l b.0) held.represents.bos.fences_are.sets_are ∙ get_map (λ o. set_of (length s.last_jobs) (fences_of o)) s.core.buffers b.0
      ∙ ap (option_map (λ o. set_of (length s.last_jobs) (fences_of o))) (stands_at s.core.buffers b (buffer s b) live) in
      let known = emitted_ctx s.last_jobs i emitted in
      let many = held.represents.timeline.contexts in
      record {
        in_line = omega (arith, known, many);
        in_set = λ x k. joined x (sym set ∙ k);
        num = emitted_num s.last_jobs i emitted;
      }
    where
      joined : (x : List Latest) → Some (set_of (length s.last_jobs) (fences_of (Some (buffer s b)))) ≡ Some x → i.ctx < length x
      joined x h =
          let known = emitted_ctx s.last_jobs i (held.represents.vram.fence.known i (sym held.represents.vram.fence.kept_is ∙ sym (fence_is v ve) ∙ sym fe ∙ e)) in
          let wide = set_length (length s.last_jobs) (fences_of (Some (buffer s b))) in
          let is : set_of (length s.last_jobs) (fences_of (Some (buffer s b))) ≡ x = cc in
          let same = ap length is in
          omega (arith, known, wide, same)

  -- the buffer afterwards
  abbrev taking : Mem → Buffer → Buffer
  taking m x = with_kernel_fences (jobs_before_target s.core m) (with_spans m (Some spans) x)

  taking_stays : (m : Mem) → KeepsPlaces (taking m)
  taking_stays m =
      record {
        mem = λ x. kernel_mem (jobs_before_target s.core m) (with_spans m (Some spans) x);
        spans = λ x. kernel_spans (jobs_before_target s.core m) (with_spans m (Some spans) x);
        table = λ x. kernel_table (jobs_before_target s.core m) (with_spans m (Some spans) x);
      }

  -- the sets of jobs afterwards
  sets_then : (m : Mem) → AreFences s.last_jobs (changed (taking m) s.core.buffers b) (with_move_fence m p.timeline p.vram.resources.move_fence p.bos.fences b)
  sets_then Vram =
      subst (λ l. AreFences s.last_jobs (changed (taking Vram) s.core.buffers b) l) (sets_same p.bos.fences b p.timeline p.vram.resources.move_fence)
      (taken_fences s p.bos.fences held.represents.bos.fences_are b (buffer s b) live p.timeline (in_line script journal held.fits held.legal) held.represents.timeline p.vram.resources.move_fence held.represents.vram.fence (Some spans))
  sets_then Tt = fences_kept s.last_jobs (with_spans Tt (Some spans)) (λ x. refl) s.core.buffers b p.bos.fences held.represents.bos.fences_are
  sets_then System = fences_kept s.last_jobs (with_spans System (Some spans)) (λ x. refl) s.core.buffers b p.bos.fences held.represents.bos.fences_are

  -- what the managers hold afterwards
  holds_then : (mine m : Mem) → (mine ≡ System → ⊥) → (size : ℕ) (r : Resources) → HoldsAsIn size mine s r → (m ≡ mine → (target_spans mine (buffer s b) ≡ []) × (1 ≤ length spans)) → HoldsAsIn size mine (after_take s t b m spans) (taken mine m b spans r)
  holds_then System m out size r representation h = absurd (out refl)
  holds_then Vram Vram out size r representation h = take_spans size Vram Vram s b r representation t spans live (λ q. (h refl).0) (λ q. (h refl).1)
  holds_then Vram Tt out size r representation h = kept_representation size Vram s.core.ghosts r (taking Tt) s.core.buffers b (λ x e. refl) (λ x e. refl) representation
  holds_then Vram System out size r representation h = kept_representation size Vram s.core.ghosts r (taking System) s.core.buffers b (λ x e. refl) (λ x e. refl) representation
  holds_then Tt Tt out size r representation h = take_spans size Tt Tt s b r representation t spans live (λ q. (h refl).0) (λ q. (h refl).1)
  holds_then Tt Vram out size r representation h =
      kept_representation size Tt s.core.ghosts r (taking Vram) s.core.buffers b
      (λ x e. ap₂ (λ m l. if same_mem m Tt then l else []) (kernel_mem (jobs_before_target s.core Vram) (with_spans Vram (Some spans) x)) (kernel_spans (jobs_before_target s.core Vram) (with_spans Vram (Some spans) x)))
      (λ x e. ap (λ (y : Buffer). target_spans Tt y) (kernel_unfenced (jobs_before_target s.core Vram) (with_spans Vram (Some spans) x))) representation
  holds_then Tt System out size r representation h = kept_representation size Tt s.core.ghosts r (taking System) s.core.buffers b (λ x e. refl) (λ x e. refl) representation

  none_and_some : (mine : Mem) → (mine ≡ System → ⊥) → (r : Resources) → HoldsAsIn (size_of script mine) mine s r → mem ≡ mine → (target_spans mine (buffer s b) ≡ []) × (1 ≤ length spans)
  none_and_some mine out r representation e =
      let k = take_sought script journal t held.fits held.legal b mine spans (subst (λ m. next script s (actor.Thread t) ≡ Ok (kind.Take b m spans)) e step) in
      (no_target mine (buffer s b) (k.untargeted out), (can_hold mine out e r representation).some)

  pub take_held : (v : room.Vram) (u : Resources) (mid bos : Bos) (fence : Option JobId) (courses : List Course) → v.resources ≡ taken Vram mem b spans p.vram.resources → room.spans_of_kind v.kind ≡ room.spans_of_kind p.vram.kind →
      u ≡ taken Tt mem b spans p.tt → mid ≡ with_changed (with_spans mem (Some spans)) p.bos b → fence ≡ v.resources.move_fence → bos ≡ record mid { fences = with_move_fence mem p.timeline fence mid.fences b } →
      courses ≡ with_course_by (search_over b) p.courses t → AreHeld script (journal ++ entry ∷ []) (record p { vram = v; tt = u; bos = bos; courses = courses })
  take_held v u mid bos fence courses ve rule ue m fe be c =
      let bs = s.core.buffers in
      let kept : fence ≡ p.vram.resources.move_fence = fe ∙ fence_is v ve in
      let sets : bos.fences ≡ with_move_fence mem p.timeline p.vram.resources.move_fence p.bos.fences b =
      ap (λ (x : Bos). x.fences) be ∙ ap (λ (x : Bos). with_move_fence mem p.timeline fence x.fences b) m ∙ ap (λ k. with_move_fence mem p.timeline k p.bos.fences b) kept in
      let table : AreBos script (changed (taking mem) bs b) s.reservations s.last_jobs bos =
      record {
        buffers_are = ap (λ (x : Bos). x.buffers) be ∙ ap (λ (x : Bos). x.buffers) m ∙ ap (λ xs. changed (with_spans mem (Some spans)) xs b) held.represents.bos.buffers_are
            ∙ sym (unfenced_as (taking mem) (with_spans mem (Some spans)) (λ x. kernel_unfenced (jobs_before_target s.core mem) (with_spans mem (Some spans) x)) bs b);
        reservations_are = ap (λ (x : Bos). x.reservations) be ∙ ap (λ (x : Bos). x.reservations) m ∙ held.represents.bos.reservations_are;
        fences_are = subst (λ l. AreFences s.last_jobs (changed (taking mem) bs b) l) (sym sets) (sets_then mem);
        pages_are = ap (λ (x : Bos). x.pages) be ∙ ap (λ (x : Bos). x.pages) m ∙ held.represents.bos.pages_are;
      } in
      let placed : Represents script (pages.with_changed (taking mem) b s) (stores_of script journal) (record p { bos = bos; vram = v; tt = u }) =
      placed_represented script s (stores_of script journal) p held.represents (taking mem) (taking_stays mem) b bos v u table
      (record {
        rule = rule ∙ held.represents.vram.rule;
        held_as = subst (λ r. HoldsAsIn script.sizes.vram Vram (after_take s t b mem spans) r) (sym ve)
            (holds_then Vram mem (λ q. let x : Vram ≡ System = q in cc) script.sizes.vram p.vram.resources held.represents.vram.held_as (none_and_some Vram (λ q. let x : Vram ≡ System = q in cc) p.vram.resources held.represents.vram.held_as));
        fence = record { kept_is = fence_is v ve ∙ held.represents.vram.fence.kept_is; known = held.represents.vram.fence.known };
      })
      (subst (λ r. HoldsAsIn script.sizes.tt Tt (after_take s t b mem spans) r) (sym ue)
      (holds_then Tt mem (λ q. let x : Tt ≡ System = q in cc) script.sizes.tt p.tt held.represents.tt (none_and_some Tt (λ q. let x : Tt ≡ System = q in cc) p.tt held.represents.tt))) in
      held_still script journal p (record p { vram = v; tt = u; bos = bos; courses = courses }) entry (record { who = actor.Thread t; kind = kind.Take b mem spans }) held is legal refl
      (eased_represented script (pages.with_changed (taking mem) b s) (stores_of script journal) (record p { bos = bos; vram = v; tt = u }) placed bos p.lru courses p.tickets s.reservations s.lists (with_course_by (search_over b) s.courses t) s.last_stamp
      (ap (λ gs. record bos { reservations = gs }) table.reservations_are) placed.lists (c ∙ ap (λ cs. with_course_by (search_over b) cs t) held.represents.courses) held.represents.stamp)
